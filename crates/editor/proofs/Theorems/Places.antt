-- The word place and the two ends of a line by what stands on either side of the cursor, for every document. (01, plain editor: places.)
use mathlib.Core.Path.{◌≡◌, refl, sym, ap, ◌∙◌}
use mathlib.Core.Logic.{inl, inr, ◌↔◌, ◌≢◌, ⊎_elim}
use mathlib.Core.Bool.{Bool, true, false, not, ◌&&◌, ◌||◌}
use mathlib.Core.List.{List, [], ◌∷◌, ◌++◌}
use Prim.Native.Nat.{ℕ}
use borrow.Author.Tests.{ne_eqb}
use Rattle.gap.specs.Rules.Sequence.{last_of}
use Rattle.gap.specs.Rules.Doc.{Doc}
use Rattle.gap.specs.Rules.Lines.{newline}
use Rattle.gap.proofs.Laws.Doc.{back-append}
use Rattle.gap.proofs.Laws.Tests.{clash, or_right}
use Rattle.editor.specs.Words.{Neighbour}
use Rattle.editor.specs.declared.Neighbour.TheVariants.{Nothing, Space, Newline, Other}
use Rattle.editor.specs.Rules.Places.{empty_or, is_newline, line_beginning, line_ending, neighbour_of, first_neighbour, left_of, right_of}
use Rattle.editor.specs.Rules.Places.{word_between, word}
use Rattle.editor.proofs.Laws.Neighbours.{by_byte, seen, line_ends, line-seen}
use Rattle.editor.specs.Wording.Neighbours.{blank, AtBeginning, AtEnding, BeforeWord, AtWord}
use Rattle.editor.specs.Wording.Neighbours.{EndsIn, no_end, end-space, end-newline, end-other}
use Rattle.editor.specs.Wording.Neighbours.{BeginsWith, no_start, start-space, start-newline, start-other}

-- ---- The tests by what stands there

blank_before : Neighbour → Bool
blank_before Nothing = true
blank_before Space = true
blank_before Newline = true
blank_before Other = false

other_behind : Neighbour → Bool
other_behind Nothing = true
other_behind Space = false
other_behind Newline = false
other_behind Other = true

not-blank : (b : ℕ) → b ≢ 32 → b ≢ newline → blank b ≡ false
not-blank b no-space no-newline = rw (ne_eqb b 32 no-space, ne_eqb b newline no-newline)

blank-seen : (s : List ℕ) → empty_or blank s ≡ blank_before (first_neighbour s)
unfolding blank_before
blank-seen = seen blank blank_before refl refl refl not-blank

other-seen : (s : List ℕ) → empty_or (λ b. not (blank b)) s ≡ other_behind (first_neighbour s)
unfolding other_behind
other-seen = seen (λ b. not (blank b)) other_behind refl refl refl (λ b no-space no-newline. ap not (not-blank b no-space no-newline))

by-pairs : (left right : Neighbour) → word_between left right ≡ ((blank_before left && other_behind right) || line_ends left)
unfolding blank_before other_behind
by-pairs Nothing Nothing = refl
by-pairs Nothing Space = refl
by-pairs Nothing Newline = refl
by-pairs Nothing Other = refl
by-pairs Space Nothing = refl
by-pairs Space Space = refl
by-pairs Space Newline = refl
by-pairs Space Other = refl
by-pairs Newline Nothing = refl
by-pairs Newline Space = refl
by-pairs Newline Newline = refl
by-pairs Newline Other = refl
by-pairs Other Nothing = refl
by-pairs Other Space = refl
by-pairs Other Newline = refl
by-pairs Other Other = refl

-- ---- The word place

-- The sixteen decisions are 01's sentence: l empty or ending in a space or a newline, and r empty or beginning with neither; or a line
-- beginning.
pub word-sentence : (d : Doc) → word d ≡ ((empty_or blank (last_of d.l) && empty_or (λ b. not (blank b)) d.r) || line_beginning d)
unfolding word line_beginning
word-sentence d =
    by-pairs (left_of d) (right_of d) ∙ sym (λ i. (blank-seen (last_of d.l) i && other-seen d.r i) || line-seen (last_of d.l) i)

-- What stands beside the cursor is what the texts end in and begin with.
last_byte : (t : List ℕ) (b : ℕ) → first_neighbour (last_of (t ++ (b ∷ []))) ≡ neighbour_of b
last_byte t b = ap first_neighbour (back-append t (b ∷ []) 1 refl)

other_byte : (b : ℕ) → b ≢ 32 → b ≢ newline → neighbour_of b ≡ Other
other_byte b no-space no-newline = rw (ne_eqb b 32 no-space, ne_eqb b newline no-newline)

ends-left : {l : List ℕ} {left : Neighbour} → EndsIn l left → first_neighbour (last_of l) ≡ left
ends-left no_end = refl
ends-left (end-space t) = last_byte t 32
ends-left (end-newline t) = last_byte t newline
ends-left (end-other t b no-space no-newline) = last_byte t b ∙ other_byte b no-space no-newline

begins-right : {r : List ℕ} {right : Neighbour} → BeginsWith r right → first_neighbour r ≡ right
begins-right no_start = refl
begins-right (start-space t) = refl
begins-right (start-newline t) = refl
begins-right (start-other b t no-space no-newline) = other_byte b no-space no-newline

ends-line : {l : List ℕ} {left : Neighbour} → EndsIn l left → empty_or is_newline (last_of l) ≡ line_ends left
ends-line {l = l} ends = line-seen (last_of l) ∙ ap line_ends (ends-left ends)

begins-line : {r : List ℕ} {right : Neighbour} → BeginsWith r right → empty_or is_newline r ≡ line_ends right
begins-line {r = r} begins = line-seen r ∙ ap line_ends (begins-right begins)

-- Of the sixteen pairs each decides, whatever else the document holds.
pub word-table : (d : Doc) {left right : Neighbour} → EndsIn d.l left → BeginsWith d.r right → word d ≡ word_between left right
unfolding word
word-table d ends begins = λ i. word_between (ends-left ends i) (begins-right begins i)

-- And every document is one of the sixteen: something stands on either side of its cursor, or nothing.
byte-begins : (b : ℕ) (t : List ℕ) → (beside : Neighbour) × BeginsWith (b ∷ t) beside
byte-begins b t =
    by_byte b (λ e. (Space, rw e (start-space t))) (λ e. (Newline, rw e (start-newline t)))
    (λ no-space no-newline. (Other, start-other b t no-space no-newline))

pub begins-some : (r : List ℕ) → (beside : Neighbour) × BeginsWith r beside
begins-some [] = (Nothing, no_start)
begins-some (b ∷ t) = byte-begins b t

byte-ends : (t : List ℕ) (b : ℕ) → (beside : Neighbour) × EndsIn (t ++ (b ∷ [])) beside
byte-ends t b =
    by_byte b (λ e. (Space, rw e (end-space t))) (λ e. (Newline, rw e (end-newline t)))
    (λ no-space no-newline. (Other, end-other t b no-space no-newline))

last_apart : (b : ℕ) (t : List ℕ) → (front : List ℕ) × (last : ℕ) × (b ∷ t ≡ front ++ (last ∷ []))
last_apart b [] = ([], b, refl)
last_apart b (c ∷ t) = let (front, last, e) = last_apart c t in (b ∷ front, last, ap (λ s. b ∷ s) e)

pub ends_some : (l : List ℕ) → (beside : Neighbour) × EndsIn l beside
ends_some [] = (Nothing, no_end)
ends_some (b ∷ t) = let (front, last, e) = last_apart b t in rw e (byte-ends front last)

-- ---- 01's sentences

-- Line beginning: l empty or ending in newline.
pub line-beginning-place : (d : Doc) → (line_beginning d ≡ true) ↔ AtBeginning d
unfolding line_beginning
line-beginning-place d = (λ e. go (ends_some d.l).0 (ends_some d.l).1 e, ⊎_elim ends-line ends-line)
  where
    go : (beside : Neighbour) → EndsIn d.l beside → empty_or is_newline (last_of d.l) ≡ true → AtBeginning d
    go Nothing ends e = inl ends
    go Space ends e = clash e (ends-line ends)
    go Newline ends e = inr ends
    go Other ends e = clash e (ends-line ends)

-- Line ending: r empty or beginning with newline.
pub line-ending-place : (d : Doc) → (line_ending d ≡ true) ↔ AtEnding d
unfolding line_ending
line-ending-place d = (λ e. go (begins-some d.r).0 (begins-some d.r).1 e, ⊎_elim begins-line begins-line)
  where
    go : (beside : Neighbour) → BeginsWith d.r beside → empty_or is_newline d.r ≡ true → AtEnding d
    go Nothing begins e = inl begins
    go Space begins e = clash e (begins-line begins)
    go Newline begins e = inr begins
    go Other begins e = clash e (begins-line begins)

-- Word: (l empty or ending in space or newline, and r empty or not beginning with one) or a line beginning.
module _ (d : Doc) where
  from-pair : (left right : Neighbour) → EndsIn d.l left → BeginsWith d.r right → word_between left right ≡ true → AtWord d
  from-pair Nothing right ends begins e = inr (inl ends)
  from-pair Space Nothing ends begins e = inl (inr (inl ends), inl begins)
  from-pair Space Space ends begins e = clash e refl
  from-pair Space Newline ends begins e = clash e refl
  from-pair Space Other ends begins e = inl (inr (inl ends), inr begins)
  from-pair Newline right ends begins e = inr (inr ends)
  from-pair Other Nothing ends begins e = clash e refl
  from-pair Other Space ends begins e = clash e refl
  from-pair Other Newline ends begins e = clash e refl
  from-pair Other Other ends begins e = clash e refl

  at-beginning : AtBeginning d → word d ≡ true
  at-beginning at = word-sentence d ∙ or_right (empty_or blank (last_of d.l) && empty_or (λ b. not (blank b)) d.r) ((line-beginning-place d).1 at)

  between : BeforeWord d → word d ≡ true
  between (inl ends, behind) = at-beginning (inl ends)
  between (inr (inl ends), inl begins) = word-table d ends begins
  between (inr (inl ends), inr begins) = word-table d ends begins
  between (inr (inr ends), behind) = at-beginning (inr ends)

  pub word-place : (word d ≡ true) ↔ AtWord d
  word-place = (
    λ e.
        let (left, ends) = ends_some d.l in
        let (right, begins) = begins-some d.r in
        from-pair left right ends begins (sym (word-table d ends begins) ∙ e),
    ⊎_elim between at-beginning,
  )
