-- Laws of what stands beside the cursor: a test of the byte there sees no more than whether it is a space, a newline or another.
use mathlib.Core.Path.{◌≡◌, refl, sym, ap, ◌∙◌}
use mathlib.Core.Logic.{◌≢◌, ⊎_elim}
use mathlib.Core.Bool.{Bool, true, false}
use mathlib.Core.List.{List, [], ◌∷◌}
use Prim.Native.Nat.{ℕ}
use lib.Dec.{eqb}
use borrow.Author.Tests.{eqb-true, eqb-false, ne_eqb}
use Rattle.gap.specs.Rules.Doc.{Doc}
use Rattle.gap.specs.Rules.Sequence.{last_of}
use Rattle.gap.specs.Rules.Lines.{newline}
use Rattle.gap.proofs.Laws.Tests.{decided}
use Rattle.editor.specs.Words.{Direction, Left, Right, Neighbour}
use Rattle.editor.specs.declared.Neighbour.TheVariants.{Nothing, Space, Newline, Other}
use Rattle.editor.specs.Rules.Places.{empty_or, is_newline, first_neighbour, line_beginning, line_ending}
use Rattle.editor.specs.Wording.Searches.{beside, line_end}

-- A byte is a space, a newline or another one.
pub by_byte : {A : Type 0} (b : ℕ) → (b ≡ 32 → A) → (b ≡ newline → A) → (b ≢ 32 → b ≢ newline → A) → A
by_byte b is-space is-newline is-other =
    ⊎_elim (λ e. is-space (eqb-true b 32 e))
    (λ no-space.
    ⊎_elim (λ e. is-newline (eqb-true b newline e)) (λ no-newline. is-other (eqb-false b 32 no-space) (eqb-false b newline no-newline))
    (decided (eqb b newline)))
    (decided (eqb b 32))

-- What stands there makes it an end of a line.
abbrev pub line_ends : Neighbour → Bool
line_ends Nothing = true
line_ends Space = false
line_ends Newline = true
line_ends Other = false

-- A test that is known for a space, for a newline and for every other byte sees no more than the neighbour.
pub seen : (test : ℕ → Bool) (by : Neighbour → Bool) → by Nothing ≡ true → test 32 ≡ by Space → test newline ≡ by Newline
    → ((b : ℕ) → b ≢ 32 → b ≢ newline → test b ≡ by Other) → (s : List ℕ) → empty_or test s ≡ by (first_neighbour s)
seen test by nothing space line other [] = sym nothing
seen test by nothing space line other (b ∷ s) =
    by_byte b (λ e. rw e space) (λ e. rw e line)
    (λ no-space no-newline. rw (ne_eqb b 32 no-space, ne_eqb b newline no-newline) (other b no-space no-newline))

pub line-seen : (s : List ℕ) → empty_or is_newline s ≡ line_ends (first_neighbour s)
line-seen = seen is_newline line_ends refl refl refl (λ b no-space no-newline. ne_eqb b newline no-newline)

-- So it is in either direction, for a neighbour that the code has found out.
line-beside : (way : Direction) (d : Doc) → line_ends (beside way d) ≡ line_end way d
unfolding line_beginning line_ending
line-beside Left d = sym (line-seen (last_of d.l))
line-beside Right d = sym (line-seen d.r)

pub line_known : (way : Direction) (d : Doc) {found known : Neighbour} {ok : Bool} → found ≡ beside way d → found ≡ known → ok ≡ line_ends known
    → ok ≡ line_end way d
line_known way d found known e = e ∙ ap line_ends (sym known ∙ found) ∙ line-beside way d
