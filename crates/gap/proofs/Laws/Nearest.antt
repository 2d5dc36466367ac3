-- Laws of the nearest number: what `nearest` answers is the least that passes, and it answers None exactly when none does.
use Rattle.std.proofs.Common.{Some, None}
use mathlib.Core.Path.{◌≡◌, refl, sym, ap, ap₂, ◌∙◌}
use mathlib.Core.Logic.{⊎_elim}
use mathlib.Core.Bool.{Bool, true, false, cond}
use Prim.Native.Nat.{ℕ, zero, suc, ◌+◌, ◌≤◌, ◌<◌}
use native.Mathlib.Nat.{le_refl, eq-or-lt_of_le}
use native.Mathlib.Omega.{arith}
use Rattle.gap.specs.Rules.Nearest.{nearest}
use Rattle.gap.proofs.Laws.Tests.{decided, cond-true, cond-false}

-- d is the least of the n numbers from k on that passes the test.
pub record Least (test : ℕ → Bool) (n k d : ℕ) : Type 0 where
  pub from : k ≤ d
  pub within : d < k + n
  pub passes : test d ≡ true
  pub before : (j : ℕ) → k ≤ j → j < d → test j ≡ false

-- Where the first number passes, the answer is that number; else it is the answer from the next number on.
module _ (test : ℕ → Bool) (n k : ℕ) where
  here : test k ≡ true → nearest test (suc n) k ≡ Some k
  unfolding nearest
  here e = cond-true _ _ e

  further : test k ≡ false → nearest test (suc n) k ≡ nearest test n (suc k)
  unfolding nearest
  further e = cond-false _ _ e

-- What fails at k and from k + 1 on fails from k on.
fails-from : (test : ℕ → Bool) (k j : ℕ) → test k ≡ false → (k < j → test j ≡ false) → k ≤ j → test j ≡ false
fails-from test k j at-k above low = ⊎_elim (λ e. ap test (sym e) ∙ at-k) above (eq-or-lt_of_le low)

pub reached-least : (test : ℕ → Bool) (n k d : ℕ) → nearest test n k ≡ Some d → Least test n k d
unfolding nearest
reached-least test zero k d e = let clash : ◌≡◌ {A = ℕ} 0 1 = cc in absurd (omega arith)
reached-least test (suc n) k d e =
    ⊎_elim now (λ f. later f (reached-least test n (suc k) d (sym (further test n k f) ∙ e))) (decided (test k))
  where
    now : test k ≡ true → Least test (suc n) k d
    now t =
        let same : k ≡ d = cc (here test n k t) in
        record { from = omega arith; within = omega arith; passes = ap test (sym same) ∙ t; before = λ j low high. absurd (omega arith) }

    later : test k ≡ false → Least test n (suc k) d → Least test (suc n) k d
    later f least = record {
      from = omega arith;
      within = omega arith;
      passes = least.passes;
      before = λ j low high. fails-from test k j f (λ above. least.before j above high) low;
    }

pub least-reached : (test : ℕ → Bool) (n k d : ℕ) → Least test n k d → nearest test n k ≡ Some d
least-reached test zero k d least = absurd (omega arith)
least-reached test (suc n) k d least =
    ⊎_elim (λ e. here test n k (ap test e ∙ least.passes) ∙ ap Some e)
    (λ above. further test n k (least.before k (le_refl k) above) ∙ least-reached test n (suc k) d (next above))
    (eq-or-lt_of_le least.from)
  where
    next : k < d → Least test n (suc k) d
    next above =
        record { from = above; within = omega arith; passes = least.passes; before = λ j low high. least.before j (omega arith) high }

pub nowhere-none : (test : ℕ → Bool) (n k : ℕ) → nearest test n k ≡ None → (j : ℕ) → k ≤ j → j < k + n → test j ≡ false
nowhere-none test zero k e j low high = absurd (omega arith)
nowhere-none test (suc n) k e j low high =
    ⊎_elim (λ t. let clash : ◌≡◌ {A = ℕ} 0 1 = cc (here test n k t) in absurd (omega arith))
    (λ f. fails-from test k j f (λ above. nowhere-none test n (suc k) (sym (further test n k f) ∙ e) j above (omega arith)) low)
    (decided (test k))

pub none-nowhere : (test : ℕ → Bool) (n k : ℕ) → ((j : ℕ) → k ≤ j → j < k + n → test j ≡ false) → nearest test n k ≡ None
unfolding nearest
none-nowhere test zero k none = refl
none-nowhere test (suc n) k none =
    further test n k (none k (le_refl k) (omega arith))
    ∙ none-nowhere test n (suc k) (λ j low high. none j (omega arith) (omega arith))

-- Tests that agree on the numbers looked at find the same number.
pub nearest-same : {f g : ℕ → Bool} (n k : ℕ) → ((j : ℕ) → k ≤ j → j < k + n → f j ≡ g j) → nearest f n k ≡ nearest g n k
unfolding nearest
nearest-same zero k same = refl
nearest-same (suc n) k same =
    ap₂ (λ passes further. cond passes (Some k) further) (same k (omega arith) (omega arith))
    (nearest-same n (suc k) (λ j low high. same j (omega arith) (omega arith)))
