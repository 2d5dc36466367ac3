-- Laws of a writer: what it holds after some runs, one behind the other.
use mathlib.Core.Path.{◌≡◌, refl, sym, ap, ap₂, ◌∙◌}
use mathlib.Core.List.{List, [], ◌++◌}
use Prim.Native.Nat.{ℕ, ◌+◌, ◌≤◌}
use native.Mathlib.Omega.{arith}
use lib.ListN.{length, length-append}
use denote.Ref.{at_last}
use Rattle.gap.specs.Rules.Sequence.{patch}
use Rattle.gap.specs.Wording.Written.{Wrote}
use Rattle.gap.proofs.Laws.Runs.{length-patch, patch-none}
use Rattle.gap.proofs.Laws.Patches.{patch-behind}
use Rattle.window.specs.declared.writer.Writer.{Writer}
use Rattle.window.specs.Wording.Writing.{filled}

-- A writer was filled with a run, which its buffer had room for.
pub record Filled (first : Writer) (run : List ℕ) (t : Writer) : Type 0 where
  pub same : t ≡ filled first run
  pub fits : first.at + length run ≤ length first.out.now

pub filled-none : (t : Writer) → t.at ≤ length t.out.now → Filled t [] t
filled-none t fits =
    let bytes = sym (patch-none t.out.now t.at) in
    let mark : t.at ≡ t.at + 0 = omega arith in
    record { same = λ i. record { out = at_last t.out (bytes i); at = mark i }; fits = omega arith }

module _ {first t : Writer} {run : List ℕ} (so_far : Filled first run t) where
  pub mark : t.at ≡ first.at + length run
  mark = ap (λ q. q.at) so_far.same

  pub long : length t.out.now ≡ length first.out.now
  long = ap (λ q. length q.out.now) so_far.same ∙ length-patch first.at run first.out.now so_far.fits

  -- What the buffer has room for behind the run, it has room for with the run in front.
  module _ (more : List ℕ) (room : first.at + length (run ++ more) ≤ length first.out.now) where
    pub room-behind : t.at + length more ≤ length t.out.now
    room-behind = omega (arith, length-append run more, mark, long)

    pub filled-more : {u : Writer} → u ≡ filled t more → Filled first (run ++ more) u
    filled-more e =
        let bytes = patch-behind run more first.out.now first.at (length run) refl so_far.fits in
        let place : first.at + length run + length more ≡ first.at + length (run ++ more) = omega (arith, length-append run more) in
        record {
          same = e ∙ ap (λ q. filled q more) so_far.same ∙ (λ i. record { out = at_last first.out (bytes i); at = place i });
          fits = room;
        }

-- Two runs from the front of an empty writer on, as its buffer has room for both.
module _ (t : Writer) {old : List ℕ} (bytes : t.out.now ≡ old) (empty : t.at ≡ 0) (xs ys : List ℕ) (room : length (xs ++ ys) ≤ length old) where
  all-fits : t.at + length (xs ++ ys) ≤ length t.out.now
  all-fits = omega (arith, empty, ap length bytes)

  pub first-filled : {u : Writer} → u ≡ filled t xs → Filled t xs u
  first-filled e = filled-more (filled-none t (omega (arith, all-fits))) xs (omega (arith, all-fits, length-append xs ys)) e

  pub second-room : {u : Writer} → u ≡ filled t xs → u.at + length ys ≤ length u.out.now
  second-room e = room-behind (first-filled e) ys all-fits

  pub both-wrote : {u v : Writer} → u ≡ filled t xs → v ≡ filled u ys → Wrote 0 (xs ++ ys) old v.at v.out.now
  both-wrote e f =
      let both = filled-more (first-filled e) ys all-fits f in
      record {
        fits = omega arith;
        place = ap (λ q. q.at) both.same ∙ ap (λ n. n + length (xs ++ ys)) empty;
        bytes = ap (λ q. q.out.now) both.same ∙ ap₂ (λ n s. patch n (xs ++ ys) s) empty bytes;
      }
