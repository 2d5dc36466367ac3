-- The refusal of this layer. The others are in editor/specs/Rules/Refusals. (01, refusal numbers.)
use Rattle.std.specs.Prelude.{ℕ}

-- 02, M-107: 9 SEQUENCE.
abbrev pub SEQUENCE : ℕ
SEQUENCE = 9
