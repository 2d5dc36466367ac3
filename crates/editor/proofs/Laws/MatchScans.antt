-- Laws of searching: the distance to the nearest match is a search through one text, which goes place by place or block by block.
use Rattle.std.proofs.Common.{Option, None}
use mathlib.Core.Path.{◌≡◌, sym, ap, ◌∙◌}
use mathlib.Core.Bool.{Bool, true, false, not}
use mathlib.Core.List.{List}
use Prim.Native.Nat.{ℕ, ◌+◌, ◌-◌, ◌≤◌, ◌<◌}
use native.Mathlib.Omega.{arith}
use lib.ListN.{length, drop, length-drop}
use lib.Seq.{drop-append-le}
use borrow.Author.Tests.{not-true}
use Rattle.gap.specs.declared.Direction.{Direction}
use Rattle.gap.specs.declared.Direction.TheVariants.{Left, Right}
use Rattle.gap.specs.Rules.Sequence.{every, begins, counted}
use Rattle.gap.specs.Rules.Doc.{Doc, content}
use Rattle.gap.specs.Rules.Nearest.{nearest, distance}
use Rattle.gap.proofs.Laws.Doc.{behind-left, moves-right}
use Rattle.gap.proofs.Laws.Nearest.{none-nowhere, nearest-same}
use Rattle.gap.proofs.Laws.Scans.{scan-start, scan-none}
use Rattle.gap.proofs.Laws.RowScans.{numbers-at, one-row, row-none, row_last}
use Rattle.gap.proofs.Laws.Compared.{begins-short, begins-front}
use Rattle.editor.specs.Rules.Keys.{matches}
use Rattle.editor.specs.Wording.Searches.{lowest, match_away, match_left, Reach, likely_at}
use Rattle.editor.proofs.Laws.MatchTests.{unlikely}

-- What lies within the text from one distance to another does so between them.
pub reach-part : {way : Direction} {pattern text : List ℕ} {from to a b : ℕ} → Reach way pattern text from to
    → from ≤ a → a ≤ b → b ≤ to → Reach way pattern text a b
reach-part reach low order high =
    record { order = order; end = omega arith; room = λ d above below. reach.room d (omega arith) (omega arith) }

-- One place, where a match is likely or not.
module _ {way : Direction} {pattern text : List ℕ} {d at : ℕ} (reach : Reach way pattern text d (d + 1))
    (there : at ≡ lowest way (length text) d d) where
  pub away-fits : at + length pattern ≤ length text
  away-fits = omega (arith, reach.room d (omega arith) (omega arith))

  module _ {ok : Bool} where
    pub away-compared : ok ≡ begins pattern (drop at text) → ok ≡ match_away way pattern text d
    away-compared e = rw there at e

    pub away-unlikely : (k : ℕ) → k < length pattern → ok ≡ likely_at pattern k text at → ok ≡ false → false ≡ match_away way pattern text d
    away-unlikely k inside tested e = rw there at (sym (unlikely pattern text at k inside (sym tested ∙ e)))

-- A block: the 32 places from the lowest on. There is room for the pattern, and whatever begins d to d + 31 bytes away begins there.
block_room : (way : Direction) {pattern text : List ℕ} {d : ℕ} → Reach way pattern text d (d + 32)
    → lowest way (length text) d (d + 31) + 31 + length pattern ≤ length text
block_room Left {pattern} {text} {d} reach = omega (arith, reach.room d (omega arith) (omega arith))
block_room Right {pattern} {text} {d} reach = reach.room (d + 31) (omega arith) (omega arith)

block-place : (way : Direction) (n d j : ℕ) → d + 31 ≤ n → d ≤ j → j < d + 32
    → (lowest way n d (d + 31) ≤ lowest way n j j) × (lowest way n j j < lowest way n d (d + 31) + 32)
block-place Left n d j fits low high = (omega arith, omega arith)
block-place Right n d j fits low high = (low, high)

module _ {way : Direction} {pattern text : List ℕ} {d at : ℕ} (reach : Reach way pattern text d (d + 32))
    (start : at ≡ lowest way (length text) d (d + 31)) where
  pub block-fits : at + 31 + length pattern ≤ length text
  block-fits = omega (arith, block_room way reach)

  -- Where no match is likely, the block has none.
  pub block_none : (k : ℕ) → k < length pattern → {none : Bool}
      → none ≡ every (λ place. not (likely_at pattern k text place)) (counted 32 at) → none ≡ true
      → None ≡ nearest (match_away way pattern text) 32 d
  block_none k inside tested e = sym (none-nowhere (match_away way pattern text) 32 d no-match)
    where
      unmatched : (place : ℕ) → at ≤ place → place < at + 32 → begins pattern (drop place text) ≡ false
      unmatched place low high =
          let there : at + (place - at) ≡ place = omega arith in
          unlikely pattern text place k inside
          (not-true _ (rw there at (numbers-at (λ p. not (likely_at pattern k text p)) 32 at (place - at) (sym tested ∙ e) (omega arith))))

      no-match : (j : ℕ) → d ≤ j → j < d + 32 → match_away way pattern text j ≡ false
      no-match j low high =
          let place = block-place way (length text) d j (omega arith) low high in
          unmatched (lowest way (length text) j j) (omega arith) (omega arith)

-- To the right, the distance is a search of the text behind the cursor.
pub distance-right : (pattern : List ℕ) (d : Doc)
    → nearest (match_away Right pattern d.r) (length d.r) 1 ≡ distance Right (matches pattern) d
unfolding distance
distance-right pattern d = sym (λ i. nearest (λ n. begins pattern (moves-right n d i).r) (length d.r) 1)

-- Where less of the text is left than the pattern is long, there is no match.
module _ (pattern text : List ℕ) where
  pub right-rest : (a : ℕ) → a ≤ length text → length text ≤ a + length pattern → {found : Option ℕ}
      → found ≡ nearest (match_away Right pattern text) a 1 → found ≡ nearest (match_away Right pattern text) (length text) 1
  right-rest a fits short searched =
      let rows : a + (length text - a) ≡ length text = omega arith in
      searched
      ∙ one-row (match_away Right pattern text) a (length text - a) 1
      (λ j low high. sym (begins-short pattern (drop j text) (rw length-drop (omega arith))))
      ∙ ap (λ n. nearest (match_away Right pattern text) n 1) rows

  pub right-short : length text < length pattern → None ≡ nearest (match_away Right pattern text) (length text) 1
  right-short short = right-rest 0 (omega arith) (omega arith) (scan-none _ 0 1 1 (scan-start _ 0 1) (omega arith))

-- To the left it is one of the whole text, with the cursor behind its first part.
module _ (pattern : List ℕ) (d : Doc) where
  pub distance-left : nearest (match_left pattern (length d.l) (content d)) (length d.l) 1 ≡ distance Left (matches pattern) d
  unfolding distance
  distance-left = sym (λ i. nearest (λ n. begins pattern (behind-left n d i)) (length d.l) 1)

  -- Matches that begin at least as far away as the pattern is long lie in the text left of the cursor.
  left_alone : (n : ℕ) → length pattern ≤ n → n ≤ length d.l
      → match_away Left pattern d.l n ≡ match_left pattern (length d.l) (content d) n
  left_alone n far near =
      let long : length pattern ≤ length (drop (length d.l - n) d.l) = rw length-drop (omega arith) in
      begins-front pattern (drop (length d.l - n) d.l) _ long
      ∙ ap (begins pattern) (sym (drop-append-le (length d.l - n) d.l _ (omega arith)))

  module _ (some : 1 ≤ length pattern) (long : length pattern ≤ length d.l) where
    pub left-reach : Reach Left pattern d.l (length pattern) (length d.l + 1)
    left-reach = record { order = omega arith; end = omega arith; room = λ n far near. omega arith }

    pub left-beyond : {across found : Option ℕ}
        → across ≡ nearest (match_left pattern (length d.l) (content d)) (length pattern - 1) 1 → across ≡ None
        → found ≡ nearest (match_away Left pattern d.l) (length d.l + 1 - length pattern) (length pattern)
        → found ≡ nearest (match_left pattern (length d.l) (content d)) (length d.l) 1
    left-beyond passed none searched =
        let next : 1 + (length pattern - 1) ≡ length pattern = omega arith in
        row_last (rw next at (row-none (scan-start _ (length d.l) 1) (length pattern - 1) (omega arith) passed none)) (length d.l + 1 - length pattern)
        (omega arith)
        (searched ∙ nearest-same (length d.l + 1 - length pattern) (length pattern) (λ j far near. left_alone j far (omega arith)))
