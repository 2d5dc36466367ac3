-- The DOC PROPERTIES of 001 (section 1.1), for both directions: what single insertions, moves and deletions undo, and that right is
-- the mirror image of left. 001's functions are defined where there is room; elsewhere they stay, as its `try` has it (section 1.2).
use mathlib.Core.Path.{◌≡◌, refl, sym}
use mathlib.Core.List.{List, [], ◌∷◌, append-nil, reverse, reverse-cons, reverse-append, reverse-reverse}
use Prim.Native.Nat.{ℕ, ◌<◌}
use native.Mathlib.Omega.{arith}
use lib.ListN.{length, take, drop}
use Rattle.gap.specs.declared.Direction.{Direction}
use Rattle.gap.specs.declared.Direction.TheVariants.{Left, Right}
use Rattle.gap.specs.Rules.Sequence.{but_last, last_of}
use Rattle.gap.specs.Rules.Doc.{Doc, content, room, move, delete, times, splice}
use Rattle.gap.proofs.Laws.Doc.{opposite, same-texts, insertions, front-append, back-append}
use Rattle.gap.proofs.Laws.Doc.{content-moves, moves-back, deletions-behind}

-- The byte b inserted on a side of the cursor.
abbrev pub insertion : Direction → ℕ → Doc → Doc
insertion Left b d = splice 0 0 (record { l = b ∷ []; r = [] }) d
insertion Right b d = splice 0 0 (record { l = []; r = b ∷ [] }) d

-- 1. An insertion and then a deletion on the same side have no effect.
pub insertion-deletion : (way : Direction) (b : ℕ) (d : Doc) → delete way (insertion way b d) ≡ d
unfolding delete
insertion-deletion Left b d = rw insertions (same-texts (front-append d.l (b ∷ []) 1 refl) refl)
insertion-deletion Right b d = rw insertions (same-texts (append-nil d.l) refl)

-- 2. A move and then the opposite move have no effect.
pub move-back : (way : Direction) (d : Doc) → 0 < room way d → move (opposite way) (move way d) ≡ d
unfolding times
move-back way d = moves-back way 1 d

-- 3. A deletion is a move and then the opposite deletion.
pub move-deletion : (way : Direction) (d : Doc) → 0 < room way d → delete (opposite way) (move way d) ≡ delete way d
unfolding times
move-deletion way d = deletions-behind way 1 d

-- 4. A move keeps the content.
pub content-move : (way : Direction) (d : Doc) → content (move way d) ≡ content d
unfolding times
content-move way d = content-moves way 1 d

nothing : (s : List ℕ) → length s ≡ 0 → s ≡ []
nothing [] e = refl
nothing (b ∷ s) e = absurd (omega arith)

-- At an end nothing moves and nothing is deleted.
pub move-end : (way : Direction) (d : Doc) → room way d ≡ 0 → move way d ≡ d
unfolding move
move-end Left d none = rw (nothing d.l none)
move-end Right d none = rw (nothing d.r none) (same-texts (append-nil d.l) refl)

pub delete-end : (way : Direction) (d : Doc) → room way d ≡ 0 → delete way d ≡ d
unfolding delete
delete-end Left d none = rw (nothing d.l none)
delete-end Right d none = rw (nothing d.r none)

-- 001 defines right as left in the mirror.
abbrev pub mirror : Doc → Doc
mirror d = record { l = reverse d.r; r = reverse d.l }

but_last-reverse : (s : List ℕ) → drop 1 s ≡ reverse (but_last (reverse s))
but_last-reverse [] = refl
but_last-reverse (b ∷ s) = sym (rw (reverse-cons b s, front-append (reverse s) (b ∷ []) 1 refl) (reverse-reverse s))

last_of-reverse : (s : List ℕ) → take 1 s ≡ reverse (last_of (reverse s))
last_of-reverse [] = refl
last_of-reverse (b ∷ s) = rw (reverse-cons b s, back-append (reverse s) (b ∷ []) 1 refl)

pub mirror-mirror : (d : Doc) → mirror (mirror d) ≡ d
mirror-mirror d = same-texts (reverse-reverse d.l) (reverse-reverse d.r)

pub move-mirror : (d : Doc) → move Right d ≡ mirror (move Left (mirror d))
unfolding move
move-mirror d = same-texts (rw (reverse-append, reverse-reverse, last_of-reverse)) (but_last-reverse d.r)

pub delete-mirror : (d : Doc) → delete Right d ≡ mirror (delete Left (mirror d))
unfolding delete
delete-mirror d = same-texts (sym (reverse-reverse d.l)) (but_last-reverse d.r)

pub insertion-mirror : (b : ℕ) (d : Doc) → insertion Right b d ≡ mirror (insertion Left b (mirror d))
insertion-mirror b d = simp (insertions, append-nil, reverse-reverse, reverse-append)
