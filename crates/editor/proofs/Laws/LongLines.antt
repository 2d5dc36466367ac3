-- The test of lines in words: it fails exactly where some line of the document is longer than the limit.
use mathlib.Core.Path.{◌≡◌, refl}
use mathlib.Core.Logic.{◌↔◌, ⊎_elim}
use mathlib.Core.Bool.{Bool, true, false, ◌&&◌}
use mathlib.Core.List.{List, [], ◌∷◌}
use Prim.Native.Nat.{ℕ, suc, ◌<◌}
use native.Mathlib.Omega.{arith}
use borrow.Author.Tests.{leb-false}
use lib.Dec.{leb}
use lib.ListN.{length, get_or}
use Rattle.gap.specs.Rules.Doc.{content}
use Rattle.gap.specs.Rules.Lines.{lines}
use Rattle.gap.specs.Rules.LineLimits.{none_longer, lines_fit}
use Rattle.gap.proofs.Laws.Tests.{decided, clash}
use Rattle.gap.proofs.Theorems.LineLimits.{every-line-fits}
use Rattle.editor.specs.Rules.Plain.{Plain}
use Rattle.editor.specs.Rules.LongLines.{longest_line, readable}
use Rattle.editor.specs.Rules.Keys.{LongLine}
use Rattle.editor.proofs.Laws.Room.{holds}

module _ (limit : ℕ) where
  -- Some line of these is longer.
  abbrev Longer : List (List ℕ) → Type 0
  Longer ls = (i : ℕ) × (limit < length (get_or ls i []))

  longer-there : (fits : Bool) (line : List ℕ) (rest : List (List ℕ)) → leb (length line) limit ≡ fits
      → (fits && none_longer limit rest) ≡ false → (none_longer limit rest ≡ false → Longer rest) → Longer (line ∷ rest)
  longer-there true line rest e failed more = let (i, long) = more failed in (suc i, long)
  longer-there false line rest e failed more = (0, leb-false (length line) limit e)

  some-longer : (ls : List (List ℕ)) → none_longer limit ls ≡ false → Longer ls
  unfolding none_longer
  some-longer [] e = clash refl e
  some-longer (line ∷ rest) e = longer-there (leb (length line) limit) line rest refl e (some-longer rest)

  pub lines-not : (s : List ℕ) → (lines_fit limit s ≡ false) ↔ Longer (lines s)
  unfolding lines_fit
  lines-not s = (
    some-longer (lines s),
    λ (i, long). ⊎_elim (λ fits. absurd (omega (arith, long, (every-line-fits limit s).0 fits i))) (λ t. t) (decided (lines_fit limit s)),
  )

pub readable-not : (p : Plain) → (readable longest_line p ≡ false) ↔ LongLine p
readable-not p = lines-not longest_line (content p.main.text)

pub readable-within : (p : Plain) → (readable longest_line p ≡ true) ↔ (¬ LongLine p)
readable-within p = holds (readable longest_line p) (readable-not p)
