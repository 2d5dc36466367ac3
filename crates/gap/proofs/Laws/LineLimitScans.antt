-- Laws of the loop that looks for a longer line from the back of each stretch that one line could fill.
use mathlib.Core.Path.{◌≡◌, refl, sym, ap, ap₂, ◌∙◌}
use mathlib.Core.Logic.{⊎_elim}
use mathlib.Core.Bool.{Bool, true, false, cond}
use mathlib.Core.List.{List, [], ◌∷◌, ◌++◌, append_assoc}
use Prim.Native.Nat.{ℕ, suc, ◌+◌, ◌-◌, ◌≤◌, ◌<◌}
use native.Mathlib.Omega.{arith}
use lib.Dec.{eqb, ltb}
use lib.ListN.{length, take, drop, length-append, length-drop, take-append-drop}
use lib.Seq.{drop-append-add, length-take-le}
use borrow.Author.Tests.{ltb-true, ltb-false, leb-true, eqb-true}
use Rattle.std.proofs.lemmas.Bool.{false_from_ne_true}
use Rattle.gap.specs.Rules.Lines.{newline, newlines, since_after}
use Rattle.gap.specs.Wording.LinesAfter.{lines_fit_after}
use Rattle.gap.proofs.Laws.Tests.{decided, and_left}
use Rattle.gap.proofs.Laws.Lines.{since-fits, since-unbroken}
use Rattle.gap.proofs.Laws.LineLimits.{after-append, after-short, after-ended, after-since, carried-fits}

-- ---- The last newline of a text

-- A newline, and k bytes behind it.
record Broken (s : List ℕ) (k : ℕ) : Type 0 where
  front : List ℕ
  behind : List ℕ
  cut : s ≡ front ++ (newline ∷ behind)
  last : length behind ≡ k

behind-byte : (b : ℕ) {s : List ℕ} {k : ℕ} → Broken s k → Broken (b ∷ s) k
behind-byte b broken =
    record { front = b ∷ broken.front; behind = broken.behind; cut = ap (λ t. b ∷ t) broken.cut; last = broken.last }

broken-with : (is : Bool) (n b : ℕ) (s : List ℕ) → eqb b newline ≡ is
    → ((m : ℕ) → since_after m s < m + length s → Broken s (since_after m s))
    → since_after (cond is 0 (suc n)) s < n + suc (length s) → Broken (b ∷ s) (since_after (cond is 0 (suc n)) s)
broken-with true n b s e rest less =
    ⊎_elim (λ more. behind-byte b (rest 0 (ltb-true _ _ more)))
    (λ none. record {
      front = [];
      behind = s;
      cut = ap (λ c. c ∷ s) (eqb-true b newline e);
      last = omega (arith, since-fits 0 s, ltb-false (since_after 0 s) (0 + length s) none);
    })
    (decided (ltb (since_after 0 s) (0 + length s)))
broken-with false n b s e rest less = behind-byte b (rest (suc n) (omega arith))

-- Where there are fewer bytes since the last newline than bytes, there is one.
since-broken : (n : ℕ) (s : List ℕ) → since_after n s < n + length s → Broken s (since_after n s)
unfolding since_after
since-broken n [] less = absurd (omega arith)
since-broken n (b ∷ s) less = broken-with (eqb b newline) n b s refl (λ m. since-broken m s) less

whole_with : (is : Bool) (n k count : ℕ) (after : ℕ → ℕ) → after 0 ≤ k → (after (suc n) ≡ suc n + k → count ≡ 0)
    → after (cond is 0 (suc n)) ≡ n + suc k → cond is (suc count) count ≡ 0
whole_with true n k count after fits rest e = absurd (omega arith)
whole_with false n k count after fits rest e = rest (e ∙ omega arith)

-- Where there are as many, there is none.
since-whole : (n : ℕ) (s : List ℕ) → since_after n s ≡ n + length s → newlines s ≡ 0
unfolding since_after newlines
since-whole n [] e = refl
since-whole n (b ∷ s) e =
    whole_with (eqb b newline) n (length s) (newlines s) (λ m. since_after m s) (omega (arith, since-fits 0 s)) (since-whole (suc n) s) e

-- ---- The loop

-- The lines before what is left are within the limit, and on the line that goes on there is room for so many bytes: what is left decides.
pub record Fitting (limit n : ℕ) (s : List ℕ) (room : ℕ) (left : List ℕ) : Type 0 where
  pub within : length left ≤ length s
  pub spare : room ≤ limit
  pub rest : lines_fit_after limit n s ≡ lines_fit_after limit (limit - room) left

module _ (limit n : ℕ) (s : List ℕ) where
  pub fitting-over : limit < n → false ≡ lines_fit_after limit n s
  fitting-over over = sym (false_from_ne_true _ (λ fits. omega (arith, leb-true n limit (carried-fits limit n s fits))))

  module _ {room : ℕ} {left : List ℕ} (so_far : Fitting limit n s room left) where
    pub fitting-all : length left ≤ room → true ≡ lines_fit_after limit n s
    fitting-all short = sym (so_far.rest ∙ after-short limit (limit - room) left (omega (arith, so_far.spare)))

    -- The stretch up to the place that the line does not reach if it fits, and the bytes since its last newline.
    module _ {last : ℕ} (inside : room < length left) (found : last ≡ since_after 0 (take (room + 1) left)) where
      abbrev stretch : List ℕ
      stretch = take (room + 1) left

      long : length stretch ≡ room + 1
      long = length-take-le (room + 1) left (omega arith)

      pub fitting-none : room < last → false ≡ lines_fit_after limit n s
      fitting-none none = sym (false_from_ne_true _ never)
        where
          never : lines_fit_after limit n s ≡ true → ⊥
          never fits =
              let all : since_after 0 stretch ≡ 0 + length stretch = omega (arith, since-fits 0 stretch, long, found) in
              let carried = since-unbroken (limit - room) _ (since-whole 0 stretch all) in
              let cut : lines_fit_after limit (limit - room) (stretch ++ drop (room + 1) left) ≡ true =
              ap (lines_fit_after limit (limit - room)) (take-append-drop (room + 1) left) ∙ sym so_far.rest ∙ fits in
              let front : lines_fit_after limit (limit - room) stretch ≡ true =
              and_left _ _ (sym (after-append limit (limit - room) stretch _) ∙ cut) in
              omega (arith, carried, after-since limit (limit - room) stretch front, long, so_far.spare)

      pub fitting-more : last ≤ room → {next : List ℕ} → next ≡ drop (room + 1 - last) left → Fitting limit n s limit next
      fitting-more some {next} lent = onward (since-broken 0 stretch (omega (arith, found, long)))
        where
          onward : Broken stretch (since_after 0 stretch) → Fitting limit n s limit next
          onward broken =
              let front = broken.front in
              let m = limit - room in
              let behind = broken.behind ++ drop (room + 1) left in
              let size : length front + suc (length broken.behind) ≡ room + 1 =
              sym (length-append front (newline ∷ broken.behind)) ∙ sym (ap length broken.cut) ∙ long in
              let cut : left ≡ front ++ (newline ∷ behind) =
              sym (take-append-drop (room + 1) left)
              ∙ ap (λ t. t ++ drop (room + 1) left) broken.cut
              ∙ append_assoc front (newline ∷ broken.behind) (drop (room + 1) left) in
              let place : length front + 1 ≡ room + 1 - last = omega (arith, size, broken.last, found) in
              let rest : next ≡ behind =
              lent ∙ ap (λ k. drop k left) (sym place) ∙ ap (drop (length front + 1)) cut ∙ drop-append-add front (newline ∷ behind) 1 in
              let none : 0 ≡ limit - limit = omega arith in
              let within-front : m + length front ≤ limit = omega (arith, size, so_far.spare) in
              record {
                within = omega (arith, so_far.within, ap length lent, length-drop (room + 1 - last) left);
                spare = omega arith;
                rest =
                    so_far.rest
                    ∙ ap (lines_fit_after limit m) cut
                    ∙ after-ended limit m front behind within-front
                    ∙ ap₂ (lines_fit_after limit) none (sym rest);
              }
