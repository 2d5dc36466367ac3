-- What is printed. (01, the bench program: blocks.)
use Rattle.std.specs.Prelude.{List, [], ◌∷◌, ◌++◌, cond, ℕ, zero, suc, eqb, take, drop}
use Rattle.gap.specs.Rules.Strings.{bytes}
use Rattle.gap.specs.Rules.Lines.{newline}
use Rattle.gap.specs.Rules.Numbers.{bit}
use Rattle.gap.specs.Rules.Fields.{entry}
use Rattle.window.specs.Rules.Core.{Answer}

-- H entries of W cells each, trailing spaces included.
unfoldable pub rows_of : ℕ → ℕ → List ℕ → List ℕ
rows_of zero W screen = []
rows_of (suc h) W screen = bytes "line=" ++ (take W screen ++ (newline ∷ rows_of h W (drop W screen)))

-- (02, M-104: `lines=` after `steps=`. DECISIONS C21.)
unfoldable pub accepted_block : ℕ → ℕ → Answer → List ℕ → List ℕ
accepted_block H W a screen =
    entry (bytes "code=") 0
    ++ (entry (bytes "steps=") a.report.steps
    ++ (entry (bytes "lines=") a.report.lines
    ++ (entry (bytes "bell=") (bit a.report.bell)
    ++ (entry (bytes "first=") a.first
    ++ (entry (bytes "last=") a.last
    ++ (entry (bytes "row=") a.row ++ (entry (bytes "col=") a.column ++ rows_of H W screen)))))))

unfoldable pub refused_block : ℕ → ℕ → List ℕ
refused_block code place = entry (bytes "code=") code ++ entry (bytes "place=") place

-- 01, the bench program: the full block where the code is 0, else code and place only.
unfoldable pub block : ℕ → ℕ → Answer → List ℕ → List ℕ
block H W a screen = cond (eqb a.code 0) (accepted_block H W a screen) (refused_block a.code a.place)

unfoldable pub script_line : ℕ → List ℕ
script_line n = entry (bytes "script=") n
