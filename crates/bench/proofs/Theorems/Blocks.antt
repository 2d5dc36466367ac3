-- What is printed of any answer, whatever its numbers and however large its screen. (01, the bench program: blocks.)
use mathlib.Core.Path.{◌≡◌, refl}
use mathlib.Core.List.{List, [], ◌∷◌, ◌++◌, append_assoc}
use Prim.Native.Nat.{ℕ, suc}
use lib.ListN.{length}
use lib.Seq.{take_at, drop_at}
use Rattle.gap.specs.Rules.Strings.{bytes}
use Rattle.gap.specs.Rules.Numbers.{bit}
use Rattle.gap.specs.Rules.Decimal.{digits_in, decimal}
use Rattle.gap.specs.Rules.Fields.{entry}
use Rattle.window.specs.Rules.Core.{Answer}
use Rattle.bench.specs.Rules.Print.{rows_of, accepted_block, refused_block, script_line}

-- All H rows, each of W cells.
pub rows-printed : (h W : ℕ) (row rest : List ℕ) → length row ≡ W
    → (rows_of 0 W rest ≡ []) × (rows_of (suc h) W (row ++ rest) ≡ bytes "line=" ++ (row ++ (10 ∷ rows_of h W rest)))
unfolding rows_of
rows-printed h W row rest long = (refl, rw (take_at row rest W long, drop_at row rest W long))

-- The numbers of the answer, and the rows behind them.
pub accepted-printed : (H W : ℕ) (a : Answer) (screen : List ℕ)
    → accepted_block H W a screen
    ≡ bytes "code=0\nsteps=" ++ (decimal a.report.steps
    ++ (bytes "\nlines=" ++ (decimal a.report.lines
    ++ (bytes "\nbell=" ++ (decimal (bit a.report.bell)
    ++ (bytes "\nfirst=" ++ (decimal a.first
    ++ (bytes "\nlast=" ++ (decimal a.last
    ++ (bytes "\nrow=" ++ (decimal a.row
    ++ (bytes "\ncol=" ++ (decimal a.column ++ (10 ∷ rows_of H W screen))))))))))))))
unfolding bytes digits_in decimal entry accepted_block
accepted-printed H W a screen = simp append_assoc

pub refused-printed : (code place : ℕ) → refused_block code place ≡ bytes "code=" ++ (decimal code ++ (bytes "\nplace=" ++ (decimal place ++ (10 ∷ []))))
unfolding bytes entry refused_block
refused-printed code place = simp append_assoc

pub script-printed : (line : ℕ) → script_line line ≡ bytes "script=" ++ (decimal line ++ (10 ∷ []))
unfolding entry script_line
script-printed line = refl
