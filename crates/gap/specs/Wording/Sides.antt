-- How the promises of moves and deletions speak: how many bytes lie in a direction, of the l before the cursor and the r behind it.
use Rattle.std.specs.Prelude.{ℕ}
use Rattle.gap.specs.Words.{Direction, Left, Right}

abbrev pub side : Direction → ℕ → ℕ → ℕ
side Left l r = l
side Right l r = r
