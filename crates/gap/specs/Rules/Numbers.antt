-- Tests as numbers.
use Rattle.std.specs.Prelude.{Bool, true, false, ℕ}

-- 1 for yes and 0 for no, as the bell and the like are told in numbers.
abbrev pub bit : Bool → ℕ
bit true = 1
bit false = 0
