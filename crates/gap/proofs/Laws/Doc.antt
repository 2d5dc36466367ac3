-- Laws of the plain document: n single steps are one cut of the text.
use mathlib.Core.Path.{◌≡◌, refl, sym, ap, ◌∙◌}
use mathlib.Core.List.{List, [], ◌∷◌, ◌++◌, append_assoc, append-nil}
use Prim.Native.Nat.{ℕ, zero, suc, ◌+◌, ◌-◌, ◌≤◌}
use native.Mathlib.Nat.{sub-zero, zero-add, suc-add}
use native.Mathlib.Omega.{arith}
use lib.ListN.{length, take, drop, length-append, length-take, length-drop, take-append-drop}
use lib.Seq.{take-take, take-length, drop-length, take-nil, drop-nil, take_at, drop_at, drop-append-le, length-take-le}
use Rattle.gap.specs.declared.Direction.{Direction}
use Rattle.gap.specs.declared.Direction.TheVariants.{Left, Right}
use Rattle.gap.specs.Rules.Sequence.{but_last, last_of}
use Rattle.gap.specs.Rules.Doc.{Doc, empty, content, room, move, delete, times, splice}

-- The text from m on is its part from m up to k and the text from k on.
drop-split : (m k : ℕ) (s : List ℕ) → m ≤ k → drop m (take k s) ++ drop k s ≡ drop m s
drop-split zero k s h = take-append-drop k s
drop-split (suc m) zero s h = absurd (omega arith)
drop-split (suc m) (suc k) [] h = refl
drop-split (suc m) (suc k) (b ∷ s) h = drop-split m k s (omega arith)

-- A text less its last n bytes, and those bytes: none, and one more by way of the text less its last byte.
module _ (s : List ℕ) where
  front-zero : s ≡ take (length s - 0) s
  front-zero = sym (rw sub-zero (take-length s))

  back-zero : [] ≡ drop (length s - 0) s
  back-zero = sym (rw sub-zero (drop-length s))

  module _ (n : ℕ) where
    one_less : length (but_last s) - n ≡ length s - suc n
    one_less = simp length-take (omega arith)

    fewer : length s - suc n ≤ length s - 1
    fewer = omega arith

    front-suc : take (length (but_last s) - n) (but_last s) ≡ take (length s - suc n) s
    front-suc = ap (λ k. take k (but_last s)) one_less ∙ take-take _ _ s fewer

    back-suc : (t : List ℕ) → drop (length (but_last s) - n) (but_last s) ++ (last_of s ++ t) ≡ drop (length s - suc n) s ++ t
    back-suc t = rw (one_less, ← append_assoc, drop-split _ _ s fewer)

-- The same from the front.
take_next : (n : ℕ) (s : List ℕ) → take 1 s ++ take n (drop 1 s) ≡ take (suc n) s
take_next n [] = take-nil n
take_next n (b ∷ s) = refl

drop-next : (n : ℕ) (s : List ℕ) → drop n (drop 1 s) ≡ drop (suc n) s
drop-next n [] = drop-nil n
drop-next n (b ∷ s) = refl

-- Two texts joined are taken apart again by the length of the second.
module _ (s t : List ℕ) (n : ℕ) (size : length t ≡ n) where
  seam : length s ≡ length (s ++ t) - n
  seam = simp length-append (omega arith)

  pub front-append : take (length (s ++ t) - n) (s ++ t) ≡ s
  front-append = take_at s t _ seam

  pub back-append : drop (length (s ++ t) - n) (s ++ t) ≡ t
  back-append = drop_at s t _ seam

-- The last n bytes of a text in front of another: they are its first n.
module _ (s t : List ℕ) (n : ℕ) (fits : n ≤ length s) where
  size_back : length (drop (length s - n) s) ≡ n
  size_back = simp length-drop (omega arith)

  take_back : take n (drop (length s - n) s ++ t) ≡ drop (length s - n) s
  take_back = take_at (drop (length s - n) s) t n size_back

  drop-back : drop n (drop (length s - n) s ++ t) ≡ t
  drop-back = drop_at (drop (length s - n) s) t n size_back

-- Documents with the same texts are the same.
pub same-texts : {a b c d : List ℕ} → a ≡ b → c ≡ d → ◌≡◌ {A = Doc} (record { l = a; r = c }) (record { l = b; r = d })
same-texts p q = λ i. record { l = p i; r = q i }

pub moves-left : (n : ℕ) (d : Doc)
    → times (move Left) n d ≡ record { l = take (length d.l - n) d.l; r = drop (length d.l - n) d.l ++ d.r }
unfolding times move
moves-left zero d = same-texts (front-zero d.l) (ap (λ s. s ++ d.r) (back-zero d.l))
moves-left (suc n) d = moves-left n (move Left d) ∙ same-texts (front-suc d.l n) (back-suc d.l n d.r)

-- What stands behind the cursor then, in the whole text.
pub behind-left : (n : ℕ) (d : Doc) → (times (move Left) n d).r ≡ drop (length d.l - n) (content d)
behind-left n d = ap (λ e. e.r) (moves-left n d) ∙ sym (drop-append-le (length d.l - n) d.l d.r (omega arith))

pub moves-right : (n : ℕ) (d : Doc) → times (move Right) n d ≡ record { l = d.l ++ take n d.r; r = drop n d.r }
unfolding times move
moves-right zero d = same-texts (sym (append-nil d.l)) refl
moves-right (suc n) d =
    moves-right n (move Right d) ∙ same-texts (append_assoc d.l _ _ ∙ ap (λ s. d.l ++ s) (take_next n d.r)) (drop-next n d.r)

-- n deletions are one splice.
pub deletions-left : (n : ℕ) (d : Doc) → times (delete Left) n d ≡ splice n 0 empty d
unfolding times delete splice
deletions-left zero d = same-texts (front-zero d.l ∙ sym (append-nil _)) refl
deletions-left (suc n) d = deletions-left n (delete Left d) ∙ same-texts (ap (λ s. s ++ []) (front-suc d.l n)) refl

pub deletions-right : (n : ℕ) (d : Doc) → times (delete Right) n d ≡ splice 0 n empty d
unfolding times delete splice
deletions-right zero d = same-texts (front-zero d.l ∙ sym (append-nil _)) refl
deletions-right (suc n) d = deletions-right n (delete Right d) ∙ same-texts refl (drop-next n d.r)

-- A splice that takes nothing away is an insertion.
pub insertions : (x d : Doc) → splice 0 0 x d ≡ record { l = d.l ++ x.l; r = x.r ++ d.r }
unfolding splice
insertions x d = same-texts (ap (λ s. s ++ x.l) (sym (front-zero d.l))) refl

-- The first k bytes behind the cursor are dropped, then a pair goes in: that is one change.
pub splice-twice : (k : ℕ) (x d : Doc) → splice 0 0 x (splice 0 k empty d) ≡ splice 0 k x d
unfolding splice
splice-twice k x d = insertions x (splice 0 k empty d) ∙ rw append-nil

-- Moves keep the content.
pub content-moves : (way : Direction) (n : ℕ) (d : Doc) → content (times (move way) n d) ≡ content d
content-moves Left n d = rw (moves-left, ← append_assoc, take-append-drop)
content-moves Right n d = rw (moves-right, append_assoc, take-append-drop)

-- So they keep the length of both texts together.
pub length-moves : (way : Direction) (n : ℕ) (d : Doc)
    → length (times (move way) n d).l + length (times (move way) n d).r ≡ length d.l + length d.r
length-moves way n d = simp length-append at (ap length (content-moves way n d))

-- n moves take n from the room.
pub room-moves : (way : Direction) (n : ℕ) (d : Doc) → room way (times (move way) n d) ≡ room way d - n
room-moves Left n d = rw moves-left (simp length-take (omega arith))
room-moves Right n d = rw moves-right (length-drop n d.r)

-- Steps one after the other: n of them, then m more.
pub times-add : {A : Type 0} (step : A → A) (n m : ℕ) (a : A) → times step (n + m) a ≡ times step m (times step n a)
unfolding times
times-add step zero m a = ap (λ k. times step k a) (zero-add m)
times-add step (suc n) m a = ap (λ k. times step k a) (suc-add n m) ∙ times-add step n m (step a)

abbrev pub opposite : Direction → Direction
opposite Left = Right
opposite Right = Left

-- Where there is room for n moves: they make room for n moves back, those lead back, and n deletions are the moves and then
-- n deletions the other way.
pub room-behind : (way : Direction) (n : ℕ) (d : Doc) → n ≤ room way d
    → room (opposite way) (times (move way) n d) ≡ room (opposite way) d + n
room-behind Left n d h = omega (arith, length-moves Left n d, room-moves Left n d)
room-behind Right n d h = omega (arith, length-moves Right n d, room-moves Right n d)

pub moves-back : (way : Direction) (n : ℕ) (d : Doc) → n ≤ room way d → times (move (opposite way)) n (times (move way) n d) ≡ d
moves-back Left n d h = rw (moves-left n d, moves-right, take_back d.l d.r n h, drop-back d.l d.r n h, take-append-drop)
moves-back Right n d h =
    let size = length-take-le n d.r h in
    rw (moves-right n d, moves-left, front-append d.l _ n size, back-append d.l _ n size, take-append-drop)

pub deletions-behind : (way : Direction) (n : ℕ) (d : Doc) → n ≤ room way d
    → times (delete (opposite way)) n (times (move way) n d) ≡ times (delete way) n d
unfolding splice
deletions-behind Left n d h =
    rw (moves-left n d, deletions-left, deletions-right)
    (same-texts (ap (λ s. s ++ []) (sym (front-zero (take (length d.l - n) d.l)))) (drop-back d.l d.r n h))
deletions-behind Right n d h =
    rw (moves-right n d, deletions-right, deletions-left)
    (same-texts (ap (λ s. s ++ []) (front-append d.l (take n d.r) n (length-take-le n d.r h) ∙ front-zero d.l)) refl)
