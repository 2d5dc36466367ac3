-- The quotation's two quarters at the front of the side store: its text and its recall text, lent apart and cleared.
use mathlib.Core.Path.{◌≡◌, sym, ap, ◌∙◌}
use mathlib.Core.List.{List, [], ◌++◌, append_assoc, append-nil}
use Prim.Native.Nat.{ℕ, ◌+◌, ◌*◌}
use native.Mathlib.Nat.{zero-mul, one-mul, sub-zero}
use native.Mathlib.Omega.{arith}
use lib.ListN.{length, take, drop, length-append, take-append-drop}
use lib.Seq.{length-take-le, drop_at, drop-drop}
use Rattle.gap.specs.Rules.Sequence.{part, patch, zeros}
use Rattle.gap.specs.Rules.Doc.{empty}
use Rattle.gap.specs.Rules.Layout.{gapped, paired}
use Rattle.gap.proofs.Laws.Sequence.{length-zeros}
use Rattle.gap.proofs.Laws.Runs.{zeros-both, part-middle}
use Rattle.editor.specs.Words.{Sizes}
use Rattle.editor.specs.Wording.Promise.{SideReply}
use Rattle.editor.specs.Rules.Plain.{Side, Did}
use Rattle.editor.specs.Rules.Bytes.{quarter_of}
use Rattle.editor.specs.Wording.Promise.{written, side_held, EditsSide}
use Rattle.editor.proofs.Laws.Quarters.{length-quarter}

-- A store is its first two quarters and what stands behind them.
second-quarter : (Q : ℕ) (s : List ℕ) → quarter_of Q 1 s ++ drop (2 * Q) s ≡ drop Q s
unfolding part
second-quarter Q s =
    let double : 2 * Q ≡ Q + Q = omega arith in
    rw (one-mul, double, ← drop-drop, take-append-drop)

pub two-quarters : (Q : ℕ) (s : List ℕ) → quarter_of Q 0 s ++ (quarter_of Q 1 s ++ drop (2 * Q) s) ≡ s
unfolding part
two-quarters Q s = rw (second-quarter, zero-mul, take-append-drop)

zeros-twice : (k : ℕ) → zeros (2 * k) ≡ zeros k ++ zeros k
zeros-twice k = let double : 2 * k ≡ k + k = omega arith in rw double (sym (zeros-both k k))

-- Free, they hold an empty quotation with an empty recall text.
pub no-quotation : (Q : ℕ) (rest : List ℕ) → zeros (2 * Q) ++ rest ≡ gapped Q empty ++ (paired Q empty ++ rest)
unfolding gapped paired
no-quotation Q rest = rw (zeros-twice, append_assoc (zeros Q) (zeros Q), append-nil, sub-zero)

pub quotation-cleared : (Q : ℕ) (s : List ℕ) → patch 0 (zeros (2 * Q)) s ≡ gapped Q empty ++ (paired Q empty ++ drop (2 * Q) s)
unfolding patch
quotation-cleared Q s = rw length-zeros (no-quotation Q (drop (2 * Q) s))

-- Texts of a quarter's length that stand in the first two quarters, and nothing else is new.
module _ (Q : ℕ) (side text recall exit : List ℕ) (first : length text ≡ Q) (second : length recall ≡ Q)
    (e : exit ≡ text ++ (recall ++ drop (2 * Q) side)) where
  first_back : quarter_of Q 0 exit ≡ text
  first_back = ap (quarter_of Q 0) e ∙ part-middle [] text _ (0 * Q) Q (omega arith) first

  second_back : quarter_of Q 1 exit ≡ recall
  second_back = ap (quarter_of Q 1) e ∙ part-middle text recall _ (1 * Q) Q (omega arith) second

  rest_back : drop (2 * Q) exit ≡ drop (2 * Q) side
  rest_back =
      ap (drop (2 * Q)) (e ∙ sym (append_assoc text recall _))
      ∙ drop_at (text ++ recall) _ (2 * Q) (rw length-append (omega arith))

-- The side store parted behind its first quarter, and the second one lent from the rest: a key on both is a key on the two quarters.
pub quotation-edited : (Q : ℕ) (side : List ℕ) → length side ≡ 4 * Q
    → (limit : ℕ) (t : SideReply) (n : Sizes) (edit : Side → Did Side) (own others text recall exit : List ℕ) → own ≡ take Q side → others ≡ drop Q side
    → length text ≡ length own → length recall ≡ length (take Q others)
    → EditsSide limit t n edit own (take Q others) text recall → exit ≡ text ++ (recall ++ drop Q others)
    → EditsSide limit t n edit (quarter_of Q 0 side) (quarter_of Q 1 side) (quarter_of Q 0 exit) (quarter_of Q 1 exit)
    × (drop (2 * Q) exit ≡ drop (2 * Q) side)
unfolding part
quotation-edited Q side long limit t n edit own others text recall exit front behind same kept turns back =
    let double : Q + Q ≡ 2 * Q = omega arith in
    let before : own ≡ quarter_of Q 0 side = rw zero-mul front in
    let known : take Q others ≡ quarter_of Q 1 side = rw one-mul (ap (take Q) behind) in
    let rest : drop Q others ≡ drop (2 * Q) side = ap (drop Q) behind ∙ drop-drop Q Q side ∙ ap (λ k. drop k side) double in
    let one : length text ≡ Q = same ∙ ap length front ∙ length-take-le Q side (omega arith) in
    let other : length recall ≡ Q = kept ∙ ap length known ∙ length-quarter Q 3 1 side long (omega arith) in
    let e : exit ≡ text ++ (recall ++ drop (2 * Q) side) = back ∙ ap (λ z. text ++ (recall ++ z)) rest in (
      (λ i. record { reply = t; text = first_back Q side text recall exit one other e i; recall = second_back Q side text recall exit one other e i })
          ∙ turns ∙ λ i. written limit n (before i) (known i) (edit (side_held n (before i) (known i))),
      rest_back Q side text recall exit one other e,
    )
