-- Laws of a gap store and its cursor: moves carry bytes from one side of the gap to the other.
use mathlib.Core.Path.{◌≡◌, refl, sym, ap, ◌∙◌}
use mathlib.Core.List.{List, [], ◌++◌, append-nil}
use Prim.Native.Nat.{ℕ, ◌+◌, ◌-◌, ◌≤◌}
use native.Mathlib.Nat.{add-zero}
use native.Mathlib.Omega.{arith}
use lib.ListN.{length, take, drop, length-drop, take-append-drop}
use lib.Seq.{length-take-le}
use Rattle.gap.specs.declared.Direction.{Direction}
use Rattle.gap.specs.declared.Direction.TheVariants.{Left, Right}
use Rattle.gap.specs.Rules.Sequence.{zeros}
use Rattle.gap.specs.Rules.Doc.{Doc, room, move, times}
use Rattle.gap.specs.Rules.Layout.{gapped, ungap, IsGap}
use Rattle.gap.specs.Wording.Sides.{side}
use Rattle.gap.proofs.Laws.Doc.{moves-left, moves-right}
use Rattle.gap.proofs.Laws.Layout.{length-gapped, ungap-gapped, length-left, length-right}
use Rattle.gap.proofs.Laws.Shifts.{carried}
use Rattle.gap.proofs.Laws.Stores.{Filled, fill-left, fill-right, taken, vacated, placed, sizes, enough}

-- The run v of k bytes left of the cursor, at `front`, or right of it, at `back`: without it both stores are the same. So the two
-- places may overlap or be the same.
module _ (n : ℕ) (x v y : List ℕ) (front back k : ℕ)
    (before : length x ≡ front) (run : length v ≡ k) (behind : back + (k + length y) ≡ n) (order : front ≤ back) where
  on-left : Filled front k v (gapped n (record { l = x ++ v; r = y })) (gapped n (record { l = x; r = y }))
  on-left = fill-left n k front x v y run (omega arith) before

  on-right : Filled back k v (gapped n (record { l = x; r = v ++ y })) (gapped n (record { l = x; r = y }))
  on-right = fill-right n k back x v y run (omega arith) behind

  to-right : carried front back k (gapped n (record { l = x ++ v; r = y })) ≡ gapped n (record { l = x; r = v ++ y })
  to-right = rw (taken on-left, vacated on-left) (placed on-right)

  to-left : carried back front k (gapped n (record { l = x; r = v ++ y })) ≡ gapped n (record { l = x ++ v; r = y })
  to-left = rw (taken on-right, vacated on-right) (placed on-left)

-- A gap from `front` to `back`: the k bytes that the cursor goes over are carried across it.
abbrev pub crossed : Direction → ℕ → ℕ → ℕ → List ℕ → List ℕ
crossed Left front back k s = carried (front - k) (back - k) k s
crossed Right front back k s = carried back front k s

-- That is k single moves.
cross : (way : Direction) (n k : ℕ) (d : Doc) → length d.l + length d.r ≤ n → k ≤ room way d
    → crossed way (length d.l) (n - length d.r) k (gapped n d) ≡ gapped n (times (move way) k d)
cross Left n k d fits h =
    let from : ℕ = length d.l - k in
    let to : ℕ = n - length d.r - k in
    rw (moves-left k d)
    (ap (λ s. carried from to k (gapped n (record { l = s; r = d.r }))) (sym (take-append-drop from d.l))
    ∙ to-right n (take from d.l) (drop from d.l) d.r from to k
    (length-take-le from d.l (omega arith)) (rw length-drop (omega arith)) (omega arith) (omega arith))
cross Right n k d fits h =
    let from : ℕ = n - length d.r in
    let to : ℕ = length d.l in
    rw (moves-right k d)
    (ap (λ s. carried from to k (gapped n (record { l = d.l; r = s }))) (sym (take-append-drop k d.r))
    ∙ to-left n d.l (take k d.r) (drop k d.r) to from k
    refl (length-take-le k d.r h) (rw length-drop (omega arith)) (omega arith))

-- What a routine makes of its store, which holds texts of l and r bytes, if it carries k bytes across the gap.
pub moves : (way : Direction) {l r k : ℕ} {s t : List ℕ} → IsGap l r s × (k ≤ side way l r) → t ≡ crossed way l (length s - r) k s
    → t ≡ gapped (length s) (times (move way) k (ungap l r s))
moves way {l} {r} {k} {s} (gap, h) made =
    made
    ∙ rw (length-left l r s gap.fits, length-right l r s gap.fits, gap.holds) at (cross way (length s) k (ungap l r s) (sizes gap) (enough gap way k h))

-- The store of a document is a gap store for the lengths of its texts.
pub gap_is : (n : ℕ) (d : Doc) → length d.l + length d.r ≤ n → IsGap (length d.l) (length d.r) (gapped n d)
gap_is n d fits =
    let size = length-gapped n d fits in
    record { fits = rw size fits; holds = rw (ungap-gapped n d fits, size) }

-- A store whose tail was cleared holds its first m bytes, with the cursor behind them. m moves left, and the cursor is before them.
module _ (m : ℕ) (s t : List ℕ) (fits : m ≤ length s) (cleared : t ≡ take m s ++ zeros (length s - m)) where
  abbrev text : Doc
  text = record { l = take m s; r = [] }

  long : length (take m s) ≡ m
  long = length-take-le m s fits

  text-fits : length (take m s) + 0 ≤ length s
  text-fits = rw long (omega arith)

  opened : t ≡ gapped (length s) text
  unfolding gapped
  opened = cleared ∙ rw (append-nil, add-zero, long)

  pub opened-gap : IsGap m 0 t
  opened-gap = rw opened (rw long at (gap_is (length s) text text-fits))

  all_left : times (move Left) m text ≡ record { l = []; r = take m s }
  all_left =
      let none : length (take m s) - m ≡ 0 = rw long (omega arith) in
      moves-left m text ∙ rw (none, append-nil)

  pub opened-text : gapped (length t) (times (move Left) m (ungap m 0 t))
      ≡ gapped (length s) (record { l = []; r = take m s })
  opened-text =
      let same : ungap m 0 (gapped (length s) text) ≡ text = rw long at (ungap-gapped (length s) text text-fits) in
      rw (opened, length-gapped (length s) text text-fits, same, all_left)
