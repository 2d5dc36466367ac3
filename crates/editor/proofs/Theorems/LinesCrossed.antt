-- Lines crossed: the newlines between the two cursors, or among what a deletion took. (02, M-104.)
use mathlib.Core.Path.{◌≡◌, refl, sym, ap, ◌∙◌}
use mathlib.Core.Logic.{◌↔◌}
use mathlib.Core.Bool.{Bool, true, false, not, ◌&&◌, cond, false≢true}
use mathlib.Core.List.{List, [], ◌∷◌, append-nil}
use Prim.Native.Nat.{ℕ, suc, ◌+◌, ◌-◌, ◌≤◌}
use native.Mathlib.Omega.{arith}
use lib.ListN.{length, take, drop, length-take, length-drop, take-append-drop}
use Rattle.gap.specs.Rules.Sequence.{every}
use Rattle.gap.specs.Rules.Doc.{Doc, move, delete, times, passed, splice}
use Rattle.gap.specs.Rules.Lines.{newlines}
use Rattle.gap.proofs.Laws.Doc.{moves-left, moves-right, deletions-left, deletions-right}
use Rattle.gap.proofs.Laws.Lines.{newlines-append, newlines-fit}
use Rattle.editor.specs.Words.{Direction, Left, Right}
use Rattle.editor.specs.Rules.Places.{is_newline}
use Rattle.editor.specs.Rules.Passages.{lines_passed}

-- No more lines than steps.
pub lines-within : (way : Direction) (n : ℕ) (d : Doc) → lines_passed way n d ≤ n
unfolding passed
lines-within Left n d = omega (arith, newlines-fit (drop (length d.l - n) d.l), length-drop (length d.l - n) d.l)
lines-within Right n d = omega (arith, newlines-fit (take n d.r), length-take n d.r)

module _ (n : ℕ) (d : Doc) where
  -- Before the cursor there are as many newlines as before, less or more those that the moves crossed.
  cut_left : newlines d.l ≡ newlines (take (length d.l - n) d.l) + lines_passed Left n d
  unfolding passed
  cut_left = ap newlines (sym (take-append-drop (length d.l - n) d.l)) ∙ newlines-append (take (length d.l - n) d.l) _

  pub moved-left : newlines d.l ≡ newlines (times (move Left) n d).l + lines_passed Left n d
  moved-left = cut_left ∙ ap (λ e. newlines e.l + lines_passed Left n d) (sym (moves-left n d))

  pub moved-right : newlines (times (move Right) n d).l ≡ newlines d.l + lines_passed Right n d
  unfolding passed
  moved-right = ap (λ e. newlines e.l) (moves-right n d) ∙ newlines-append d.l _

  -- What a deletion took is gone from the text: from before the cursor for one to the left, from behind it for one to the right.
  pub deleted-left : newlines d.l ≡ newlines (times (delete Left) n d).l + lines_passed Left n d
  unfolding splice
  deleted-left =
      cut_left ∙ sym (ap (λ e. newlines e.l + lines_passed Left n d) (deletions-left n d) ∙ ap (λ s. newlines s + lines_passed Left n d) (append-nil _))

  pub deleted-right : newlines d.r ≡ newlines (times (delete Right) n d).r + lines_passed Right n d
  unfolding splice passed
  deleted-right =
      let parts = ap newlines (sym (take-append-drop n d.r)) ∙ newlines-append (take n d.r) _ in
      omega (arith, parts, ap (λ e. newlines e.r) (deletions-right n d))

-- None exactly when no byte that was passed is a newline.
none-further : (test : Bool) (s : List ℕ) → (newlines s ≡ 0) ↔ (every (λ b. not (is_newline b)) s ≡ true)
    → (cond test (suc (newlines s)) (newlines s) ≡ 0) ↔ ((not test && every (λ b. not (is_newline b)) s) ≡ true)
none-further true s further = (λ e. absurd (omega (arith, e)), λ e. absurd (false≢true e))
none-further false s further = further

newlines-none : (s : List ℕ) → (newlines s ≡ 0) ↔ (every (λ b. not (is_newline b)) s ≡ true)
unfolding newlines every
newlines-none [] = (λ e. refl, λ e. refl)
newlines-none (b ∷ s) = none-further (is_newline b) s (newlines-none s)

pub lines_none : (way : Direction) (n : ℕ) (d : Doc) → (lines_passed way n d ≡ 0) ↔ (every (λ b. not (is_newline b)) (passed way n d) ≡ true)
lines_none way n d = newlines-none (passed way n d)
