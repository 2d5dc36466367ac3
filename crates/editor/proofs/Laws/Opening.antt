-- The stores of a text newly opened: all of it lies right of the cursor, and zeros hold the rest.
use mathlib.Core.Path.{◌≡◌, sym, ap, ap₂, ◌∙◌}
use mathlib.Core.Bool.{true}
use mathlib.Core.List.{List, [], ◌++◌}
use Prim.Native.Nat.{ℕ, ◌+◌, ◌*◌, ◌≤◌}
use native.Mathlib.Nat.{sub-zero}
use native.Mathlib.Omega.{arith}
use lib.ListN.{length, take}
use lib.Seq.{length-take-le}
use Rattle.gap.specs.Rules.Sequence.{zeros}
use Rattle.gap.specs.Rules.Doc.{empty}
use Rattle.gap.specs.Rules.Layout.{gapped, paired}
use Rattle.gap.proofs.Laws.Runs.{zeros-both}
use Rattle.editor.specs.Words.{Lengths}
use Rattle.editor.specs.Rules.Bytes.{Stores, quarter, sized, lengths_of, stores_of, opening_lengths}
use Rattle.editor.specs.Wording.Promise.{stores, Opens}
use Rattle.editor.proofs.Laws.Quotation.{no-quotation}
use Rattle.editor.proofs.Laws.Session.{measured}

-- Zeros hold an empty pair, and four quarters of zeros the empty side store.
zeros-pair : (size : ℕ) → zeros size ≡ paired size empty
unfolding paired
zeros-pair size = ap zeros (sym (sub-zero size))

pairs-twice : (Q : ℕ) → zeros (2 * Q) ≡ paired Q empty ++ paired Q empty
pairs-twice Q =
    let double : 2 * Q ≡ Q + Q = omega arith in
    ap zeros double ∙ sym (zeros-both Q Q) ∙ ap₂ ◌++◌ (zeros-pair Q) (zeros-pair Q)

zeros-side : (Q : ℕ) → zeros (4 * Q) ≡ gapped Q empty ++ (paired Q empty ++ (paired Q empty ++ paired Q empty))
zeros-side Q =
    let four : 4 * Q ≡ 2 * Q + 2 * Q = omega arith in
    ap zeros four ∙ sym (zeros-both (2 * Q) (2 * Q)) ∙ no-quotation Q (zeros (2 * Q))
    ∙ ap (λ rest. gapped Q empty ++ (paired Q empty ++ rest)) (pairs-twice Q)

-- What `open_stores` leaves, call by call.
pub stores-opened : (n : ℕ) (b : Stores) → sized quarter b ≡ true → n ≤ length b.text → {m : Lengths} {text recall held side : List ℕ}
    → m ≡ opening_lengths n → text ≡ gapped (length b.text) (record { l = []; r = take n b.text })
    → recall ≡ zeros (length b.recall) → held ≡ zeros (length b.held) → side ≡ zeros (length b.side)
    → Opens m n b (stores text recall held side)
unfolding lengths_of stores_of
stores-opened n b fit fits lengths opened recalled emptied cleared =
    let sizes = measured quarter b fit in
    let recall-then = recalled ∙ ap zeros sizes.recall ∙ zeros-pair (length b.text) in
    let held_then = emptied ∙ ap zeros sizes.held ∙ zeros-pair (length b.text) in
    let side_then = cleared ∙ ap zeros sizes.side ∙ zeros-side quarter in
    record {
      lengths = lengths ∙ ap opening_lengths (sym (length-take-le n b.text fits));
      stores = λ i. stores (opened i) (recall-then i) (held_then i) (side_then i);
    }
