-- Streams: turns enough are all alike, and a stream can be cut.
use mathlib.Core.Path.{◌≡◌, refl, sym, ap, ◌∙◌}
use mathlib.Core.Logic.{◌≢◌, ⊎_elim}
use mathlib.Core.List.{List, [], ◌∷◌, ◌++◌, append_assoc, append-nil}
use Prim.Native.Nat.{ℕ, zero, suc, ◌≤◌}
use native.Mathlib.Omega.{arith}
use lib.ListN.{length, drop, length-drop}
use lib.Seq.{drop-append-le}
use Rattle.keyboard.specs.Words.{Received, Pressed, More, Refused}
use Rattle.keyboard.specs.Rules.Keyboard.{received, used_of}
use Rattle.keyboard.specs.Rules.Streams.{Item, a_key, a_refusal, Reading, waits, behind, then, turns, reading, reading_on, joined}
use Rattle.keyboard.proofs.Laws.Answers.{pressed-more, refused-more, looked, waits-more}
use Rattle.keyboard.proofs.Laws.Answers.{decided-used, decided-within, decided-longer}

-- What is not "more" uses a byte at least, and those that are there.
pub some-used : (s : List ℕ) → received s ≢ More → 1 ≤ used_of (received s)
some-used s some =
    ⊎_elim (λ waiting. absurd (some (waits-more s waiting))) (λ w. omega (arith, decided-used s w)) (looked s)

pub used-within : (s : List ℕ) → used_of (received s) ≤ length s
used-within s = ⊎_elim (λ waiting. omega (arith, ap used_of (waits-more s waiting))) (λ w. decided-within s w) (looked s)

pub settled : (s t : List ℕ) → received s ≢ More → received (s ++ t) ≡ received s
settled s t some = ⊎_elim (λ waiting. absurd (some (waits-more s waiting))) (λ w. decided-longer s w t) (looked s)

-- ---- Turns

-- What is read behind an answer matters only if there is one.
then_same : (answer : Received) (s : List ℕ) (f g : List ℕ → Reading) → (answer ≢ More → f (drop (used_of answer) s) ≡ g (drop (used_of answer) s))
    → then answer s f ≡ then answer s g
then_same (Pressed k used) s f g same = ap (behind (a_key k ∷ [])) (same pressed-more)
then_same More s f g same = refl
then_same (Refused code used) s f g same = ap (behind (a_refusal code ∷ [])) (same refused-more)

shorter : (s : List ℕ) (n : ℕ) → received s ≢ More → length s ≤ suc n → length (drop (used_of (received s)) s) ≤ n
shorter s n some enough = omega (arith, length-drop (used_of (received s)) s, some-used s some, used-within s, enough)

turns-enough : (n m : ℕ) (s : List ℕ) → length s ≤ n → length s ≤ m → turns n s ≡ turns m s
unfolding turns received
turns-enough zero zero s p q = refl
turns-enough zero (suc m) [] p q = refl
turns-enough zero (suc m) (b ∷ s) p q = absurd (omega arith)
turns-enough (suc n) zero [] p q = refl
turns-enough (suc n) zero (b ∷ s) p q = absurd (omega arith)
turns-enough (suc n) (suc m) s p q =
    then_same (received s) s (turns n) (turns m)
    (λ some. turns-enough n m (drop (used_of (received s)) s) (shorter s n some p) (shorter s m some q))

-- A stream's reading is its first answer, and then what is read behind that.
pub reading-on : (s : List ℕ) → reading s ≡ then (received s) s reading
unfolding reading turns received
reading-on [] = refl
reading-on (b ∷ s) =
    let rest = drop (used_of (received (b ∷ s))) (b ∷ s) in
    then_same (received (b ∷ s)) (b ∷ s) (turns (length s)) reading
    (λ some. turns-enough (length s) (length rest) rest (shorter (b ∷ s) (length s) some (omega arith)) (omega arith))

pub reading-more : (s : List ℕ) → received s ≡ More → reading s ≡ waits s
reading-more s more = reading-on s ∙ ap (λ a. then a s reading) more

-- ---- Cuts

module _ (t : List ℕ) where
  -- Of a stream s ++ t: what is read of s, and then what is read of the bytes of s that wait and t.
  abbrev Cut : List ℕ → Type 0
  Cut s = reading (s ++ t) ≡ behind (reading s).items (reading ((reading s).waiting ++ t))

  cut-behind : (item : Item) (s rest : List ℕ) → reading s ≡ behind (item ∷ []) (reading rest)
      → reading (s ++ t) ≡ behind (item ∷ []) (reading (rest ++ t)) → Cut rest → Cut s
  cut-behind item s rest one both later =
      both ∙ ap (behind (item ∷ [])) later ∙ sym (ap (λ r. behind r.items (reading (r.waiting ++ t))) one)

  cut_at : (s : List ℕ) (answer : Received) → received s ≡ answer → (answer ≢ More → Cut (drop (used_of answer) s)) → Cut s
  cut_at s (Pressed k used) e later =
      let some : received s ≢ More = λ more. pressed-more (sym e ∙ more) in
      let inside : used ≤ length s = omega (arith, used-within s, ap used_of e) in
      cut-behind (a_key k) s (drop used s)
      (reading-on s ∙ ap (λ a. then a s reading) e)
      (reading-on (s ++ t) ∙ ap (λ a. then a (s ++ t) reading) (settled s t some ∙ e)
      ∙ ap (λ rest. behind (a_key k ∷ []) (reading rest)) (drop-append-le used s t inside))
      (later pressed-more)
  cut_at s More e later = sym (ap (λ r. behind r.items (reading (r.waiting ++ t))) (reading-more s e))
  cut_at s (Refused code used) e later =
      let some : received s ≢ More = λ more. refused-more (sym e ∙ more) in
      let inside : used ≤ length s = omega (arith, used-within s, ap used_of e) in
      cut-behind (a_refusal code) s (drop used s)
      (reading-on s ∙ ap (λ a. then a s reading) e)
      (reading-on (s ++ t) ∙ ap (λ a. then a (s ++ t) reading) (settled s t some ∙ e)
      ∙ ap (λ rest. behind (a_refusal code ∷ []) (reading rest)) (drop-append-le used s t inside))
      (later refused-more)

  cut-within : (n : ℕ) (s : List ℕ) → length s ≤ n → Cut s
  unfolding reading turns received
  cut-within zero [] enough = refl
  cut-within zero (b ∷ s) enough = absurd (omega arith)
  cut-within (suc n) s enough =
      cut_at s (received s) refl (λ some. cut-within n (drop (used_of (received s)) s) (shorter s n some enough))

  pub reading-append : (s : List ℕ) → Cut s
  reading-append s = cut-within (length s) s (omega arith)

-- What a reading leaves waits for more.
waiting-at : (s : List ℕ) (answer : Received) → received s ≡ answer
    → (answer ≢ More → received (reading (drop (used_of answer) s)).waiting ≡ More) → received (reading s).waiting ≡ More
waiting-at s (Pressed k used) e later =
    ap (λ r. received r.waiting) (reading-on s ∙ ap (λ a. then a s reading) e) ∙ later pressed-more
waiting-at s More e later = ap (λ r. received r.waiting) (reading-more s e) ∙ e
waiting-at s (Refused code used) e later =
    ap (λ r. received r.waiting) (reading-on s ∙ ap (λ a. then a s reading) e) ∙ later refused-more

waiting-within : (n : ℕ) (s : List ℕ) → length s ≤ n → received (reading s).waiting ≡ More
unfolding reading turns received
waiting-within zero [] enough = refl
waiting-within zero (b ∷ s) enough = absurd (omega arith)
waiting-within (suc n) s enough =
    waiting-at s (received s) refl (λ some. waiting-within n (drop (used_of (received s)) s) (shorter s n some enough))

pub waiting-more : (s : List ℕ) → received (reading s).waiting ≡ More
waiting-more s = waiting-within (length s) s (omega arith)

-- Pieces behind bytes that wait read as one stream.
pub pieces-on : (waiting : List ℕ) (pieces : List (List ℕ)) → received waiting ≡ More
    → reading_on waiting pieces ≡ reading (waiting ++ joined pieces)
unfolding reading_on joined
pieces-on waiting [] more = sym (ap reading (append-nil waiting) ∙ reading-more waiting more)
pieces-on waiting (piece ∷ pieces) more =
    let now = reading (waiting ++ piece) in
    ap (behind now.items) (pieces-on now.waiting pieces (waiting-more (waiting ++ piece)))
    ∙ sym (reading-append (joined pieces) (waiting ++ piece))
    ∙ ap reading (append_assoc waiting piece (joined pieces))
