-- The named rows are the shortest run of rows that covers every changed row (01, the window, last paragraph).
use mathlib.Core.Path.{◌≡◌, refl, ap}
use mathlib.Core.Logic.{◌≢◌}
use mathlib.Core.List.{List}
use Prim.Native.Nat.{ℕ, zero, suc, ◌*◌, ◌<◌}
use native.Mathlib.Omega.{arith}
use lib.ListN.{length}
use Rattle.window.specs.Rules.Rows.{screen_row, changed, first_row, last_row, Shortest}
use Rattle.window.proofs.Laws.Rows.{unchanged-same, changed-differs, all-agree, Ends, Named, nothing, run, named}

module _ (H W : ℕ) (old new : List ℕ) where
  pub unchanged-shortest : old ≡ new → Shortest H W old new 0 0
  unchanged-shortest same =
      record {
        no-first = (λ _. same, λ _. refl);
        no_last = (λ _. same, λ _. refl);
        rows = λ differ. absurd (differ same);
        covers = λ i low high differs. absurd (differs (ap (screen_row W i) same));
        shortest = λ differ. absurd (differ same);
      }

  ends-shortest : {first last : ℕ} → Ends (changed W old new) H first last → Shortest H W old new first last
  ends-shortest {first} {last} ends =
      let first-differs = changed-differs W old new first ends.first_passes in
      let last-differs = changed-differs W old new last ends.last-passes in
      let differ : old ≢ new = λ same. first-differs (ap (screen_row W first) same) in
      record {
        no-first = (λ zero-first. absurd (omega arith), λ same. absurd (differ same));
        no_last = (λ zero-last. absurd (omega arith), λ same. absurd (differ same));
        rows = λ _. (ends.low, ends.ordered, ends.high);
        covers = λ i low high differs.
            let not-above : ¬ (i < first) = λ h. differs (unchanged-same W old new i (ends.above i low h)) in
            let not-below : ¬ (last < i) = λ h. differs (unchanged-same W old new i (ends.below i h high)) in
            omega arith;
        shortest = λ _ a b covered.
            let from_First = covered first (omega arith) (omega arith) first-differs in
            let to_last = covered last (omega arith) (omega arith) last-differs in
            (from_First.0, to_last.1);
      }

  named-shortest : length old ≡ H * W → length new ≡ H * W
      → (first last : ℕ) → Named (changed W old new) H first last → Shortest H W old new first last
  named-shortest old-size new-size _ _ (nothing none) =
      unchanged-shortest (all-agree H W old new old-size new-size (λ i low high. unchanged-same W old new i (none i low high)))
  named-shortest old-size new-size _ _ (run ends) = ends-shortest ends

  -- The rows that a call names are that run, for screens of H rows of W columns.
  pub named-rows : length old ≡ H * W → length new ≡ H * W → Shortest H W old new (first_row H W old new) (last_row H W old new)
  named-rows old-size new-size = named-shortest old-size new-size _ _ (named H W old new)

  -- There is only one shortest run.
  pub one-shortest : (first last first' last' : ℕ) → Shortest H W old new first last → Shortest H W old new first' last'
      → (first ≡ first') × (last ≡ last')
  one-shortest zero last first' last' one other =
      let same = one.no-first.0 refl in
      omega (arith, one.no_last.1 same, other.no-first.1 same, other.no_last.1 same)
  one-shortest (suc n) last first' last' one other =
      let differ : old ≢ new = λ same. omega (arith, one.no-first.1 same) in
      omega (arith, one.shortest differ first' last' other.covers, other.shortest differ (suc n) last one.covers)
