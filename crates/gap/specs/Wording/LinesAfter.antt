-- How the promises about long lines speak: of a text that goes on with a line begun before it.
use Rattle.std.specs.Prelude.{List, Bool, ◌&&◌, ℕ, ◌+◌, leb, length}
use Rattle.gap.specs.Rules.Fields.{line_of}
use Rattle.gap.specs.Rules.LineLimits.{lines_fit}

-- No line is longer than the limit, the first one counted with the n bytes of it that stand before the text.
unfoldable pub lines_fit_after : ℕ → ℕ → List ℕ → Bool
lines_fit_after limit n s = leb (n + length (line_of s)) limit && lines_fit limit s
