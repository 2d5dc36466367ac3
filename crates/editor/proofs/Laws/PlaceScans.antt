-- Laws of places within one text, by the two bytes beside them, and of the distance to a place as a search through the text that lies
-- in the direction.
use Rattle.std.proofs.Common.{Option}
use mathlib.Core.Path.{◌≡◌, refl, sym, ap, ap₂, ◌∙◌}
use mathlib.Core.Logic.{⊎_elim}
use mathlib.Core.Bool.{Bool}
use mathlib.Core.List.{List, [], ◌∷◌, ◌++◌}
use Prim.Native.Nat.{ℕ, suc, ◌+◌, ◌-◌, ◌≤◌, ◌<◌}
use native.Mathlib.Omega.{arith}
use lib.Dec.{leb, ltb}
use lib.ListN.{length, take, drop, get_or, length-append, length-drop, drop_of_length-le}
use lib.Seq.{take-suc, drop-cons, length-take-le, drop-append-add}
use borrow.Author.Tests.{ne_eqb, leb-true, leb-false, lt-ltb, le-ltb}
use Rattle.gap.specs.Rules.Sequence.{last_of}
use Rattle.gap.specs.Rules.Doc.{Doc, room, move, times}
use Rattle.gap.specs.Rules.Nearest.{nearest, distance}
use Rattle.gap.proofs.Laws.Tests.{decided, cond-true, cond-false}
use Rattle.gap.proofs.Laws.Doc.{back-append, moves-left, moves-right, room-moves}
use Rattle.gap.proofs.Laws.Nearest.{least-reached, none-nowhere, nearest-same}
use Rattle.editor.specs.Words.{Direction, Left, Right}
use Rattle.editor.specs.Words.{Place, Character, Word, LineBeginning, LineEnding, Document}
use Rattle.editor.specs.Words.{Neighbour}
use Rattle.editor.specs.declared.Neighbour.TheVariants.{Nothing, Space, Newline, Other}
use Rattle.editor.specs.Rules.Places.{is_newline, empty_or, is_empty, line_beginning, line_ending, document_end, is_at}
use Rattle.editor.specs.Rules.Places.{neighbour_of, first_neighbour, left_of, right_of, word_between, word}
use Rattle.editor.specs.Wording.Promise.{whole_of}
use Rattle.gap.specs.Wording.Views.{toward}
use Rattle.editor.specs.Wording.Searches.{lowest, facing}

-- The cursor at place p of a text.
abbrev pub cut_at : ℕ → List ℕ → Doc
cut_at p t = record { l = take p t; r = drop p t }

module _ (t : List ℕ) (p : ℕ) where
  byte-before : 1 ≤ p → p ≤ length t → last_of (take p t) ≡ get_or t (p - 1) 0 ∷ []
  byte-before above fits =
      let same : p ≡ suc (p - 1) = omega arith in
      ap (λ k. last_of (take k t)) same ∙ rw (take-suc t (p - 1) 0 (omega arith)) (back-append (take (p - 1) t) _ 1 refl)

  -- What stands left of place p: nothing before the first, else the byte before it.
  pub left-first : p < 1 → Nothing ≡ left_of (cut_at p t)
  left-first h = let none : p ≡ 0 = omega arith in rw none

  pub left-later : 1 ≤ p → p ≤ length t → neighbour_of (get_or t (p - 1) 0) ≡ left_of (cut_at p t)
  left-later above fits = sym (ap first_neighbour (byte-before above fits))

  -- What stands right of it: nothing behind the last, else the byte behind it.
  pub right-last : length t ≤ p → Nothing ≡ right_of (cut_at p t)
  right-last end = sym (ap first_neighbour (drop_of_length-le t end))

  pub right-before : p < length t → neighbour_of (get_or t p 0) ≡ right_of (cut_at p t)
  right-before more = sym (ap first_neighbour (drop-cons t p 0 more))

-- What a byte is, by the tests of the code.
pub byte-space : {b : ℕ} → b ≡ 32 → Space ≡ neighbour_of b
byte-space e = rw e

pub byte-newline : {b : ℕ} → b ≡ 10 → Newline ≡ neighbour_of b
byte-newline e = rw e

pub byte-other : {b : ℕ} → (b ≡ 32 → ⊥) → (b ≡ 10 → ⊥) → Other ≡ neighbour_of b
byte-other no-space no-newline = sym (rw (ne_eqb _ _ no-space, ne_eqb _ _ no-newline))

-- The decision for a pair of neighbours that the code has found out.
pub word_known : (d : Doc) {left right known-left known-right : Neighbour} {ok : Bool} → left ≡ left_of d → right ≡ right_of d
    → left ≡ known-left → right ≡ known-right → ok ≡ word_between known-left known-right → ok ≡ word d
unfolding word
word_known d left right known-left known-right e = e ∙ ap₂ word_between (sym known-left ∙ left) (sym known-right ∙ right)

-- A document is at its end where there is room for less than one move; place p of a text has room for p moves to the left.
empty-short : (s : List ℕ) → is_empty s ≡ ltb (length s) 1
empty-short [] = refl
empty-short (b ∷ s) = sym (le-ltb (length (b ∷ s)) 1 (omega arith))

end-room : (way : Direction) (d : Doc) → is_at Document way d ≡ ltb (room way d) 1
unfolding is_at document_end
end-room Left d = empty-short d.l
end-room Right d = empty-short d.r

module _ (t : List ℕ) (p : ℕ) (fits : p ≤ length t) where
  pub end-left : ltb p 1 ≡ is_at Document Left (cut_at p t)
  end-left = sym (end-room Left (cut_at p t) ∙ ap (λ k. ltb k 1) (length-take-le p t fits))

  pub end-right : ltb (length t - p) 1 ≡ is_at Document Right (cut_at p t)
  end-right = sym (end-room Right (cut_at p t) ∙ ap (λ k. ltb k 1) (length-drop p t))

-- Where the code has found out the kind and the direction: the test for these is the test asked for, and so is the distance.
pub test_known : {place kind : Place} {way known : Direction} {ok : Bool} (d : Doc) → place ≡ kind → way ≡ known
    → ok ≡ is_at kind known d → ok ≡ is_at place way d
test_known d p q e = e ∙ sym (ap₂ (λ place way. is_at place way d) p q)

pub distance-known : {place kind : Place} {way known : Direction} {s : Option ℕ} (d : Doc) → place ≡ kind → way ≡ known
    → s ≡ distance known (is_at kind known) d → s ≡ distance way (is_at place way) d
distance-known d p q e = e ∙ sym (ap₂ (λ place way. distance way (is_at place way) d) p q)

-- A place test sees no more than the byte on either side.
same-right : (place : Place) (x s y : List ℕ) (b : ℕ) → is_at place Left (record { l = x; r = b ∷ s })
    ≡ is_at place Left (record { l = x; r = (b ∷ s) ++ y })
unfolding is_at word line_beginning line_ending document_end
same-right Character x s y b = refl
same-right Word x s y b = refl
same-right LineBeginning x s y b = refl
same-right LineEnding x s y b = refl
same-right Document x s y b = refl

same_left : (place : Place) (x z y : List ℕ) → last_of x ≡ last_of z → is_at place Right (record { l = x; r = y })
    ≡ is_at place Right (record { l = z; r = y })
unfolding is_at word line_beginning line_ending document_end
same_left Character x z y e = refl
same_left Word x z y e = rw e
same_left LineBeginning x z y e = ap (empty_or is_newline) e
same_left LineEnding x z y e = refl
same_left Document x z y e = refl

last-append : (x s : List ℕ) → 1 ≤ length s → last_of (x ++ s) ≡ last_of s
last-append x s some =
    let behind : length (x ++ s) - 1 ≡ length x + (length s - 1) = simp length-append (omega arith) in
    rw (behind, drop-append-add)

-- To the end of the text the distance is all that lies there, or none where nothing does.
module _ (way : Direction) (d : Doc) where
  end-moves : (n : ℕ) → is_at Document way (times (move way) n d) ≡ ltb (room way d - n) 1
  end-moves n = end-room way (times (move way) n d) ∙ ap (λ k. ltb k 1) (room-moves way n d)

  pub distance-end : whole_of (room way d) ≡ distance way (is_at Document way) d
  unfolding distance
  distance-end =
      ⊎_elim
      (λ some.
      cond-true _ _ some
      ∙ sym (least-reached _ (room way d) 1 (room way d) (record {
        from = leb-true 1 (room way d) some;
        within = omega arith;
        passes = end-moves (room way d) ∙ lt-ltb (room way d - room way d) 1 (omega arith);
        before = λ m low high. end-moves m ∙ le-ltb (room way d - m) 1 (omega arith);
      })))
      (λ short.
      cond-false _ _ short
      ∙ sym (none-nowhere _ (room way d) 1 (λ n low high. absurd (omega (arith, leb-false 1 (room way d) short)))))
      (decided (leb 1 (room way d)))

-- Whether d moves over the text that lies in the direction lead to a place, by that text alone.
abbrev pub place_away : Place → Direction → List ℕ → ℕ → Bool
place_away place way t d = is_at place way (cut_at (lowest way (length t) d d) t)

module _ (place : Place) (t other : List ℕ) where
  at-away : (way : Direction) (d : ℕ) → 1 ≤ d → d < 1 + length t → place_away place way t d ≡ is_at place way (times (move way) d (facing way t other))
  at-away Left d low high =
      rw (moves-left, drop-cons t (length t - d) 0 (omega arith)) (same-right place (take (length t - d) t) _ other _)
  at-away Right d low high =
      let size = length-take-le d t (omega arith) in
      rw (moves-right, same_left place (take d t) (other ++ take d t) (drop d t) (sym (last-append other (take d t) (omega arith))))

  room-facing : (way : Direction) → length t ≡ room way (facing way t other)
  room-facing Left = refl
  room-facing Right = refl

  -- The distance is a search through one text.
  pub distance-away : (way : Direction) → nearest (place_away place way t) (length t) 1 ≡ distance way (is_at place way) (facing way t other)
  unfolding distance
  distance-away way =
      nearest-same (length t) 1 (at-away way)
      ∙ ap (λ n. nearest (λ d. is_at place way (times (move way) d (facing way t other))) n 1) (room-facing way)

  -- To its end it is all of it.
  pub distance-whole : (way : Direction) → whole_of (length t) ≡ distance way (is_at Document way) (facing way t other)
  distance-whole way = ap whole_of (room-facing way) ∙ distance-end way (facing way t other)

-- So it is in a document, by the text that lies in the direction.
pub found-toward : (place : Place) (way : Direction) {found : Option ℕ} (d : Doc)
    → ((other : List ℕ) → found ≡ distance way (is_at place way) (facing way (toward way d) other)) → found ≡ distance way (is_at place way) d
found-toward place Left d e = e d.r
found-toward place Right d e = e d.l
