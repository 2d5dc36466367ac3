-- Laws of line starts: the last line of a text, and lines passed one by one from its end.
use mathlib.Core.Path.{◌≡◌, refl, sym, ap, ◌∙◌}
use mathlib.Core.Bool.{Bool, true, false, cond}
use mathlib.Core.List.{List, [], ◌∷◌, ◌++◌}
use Prim.Native.Nat.{ℕ, zero, suc, ◌+◌, ◌-◌, ◌≤◌, ◌<◌}
use native.Mathlib.Nat.{zero-add}
use native.Mathlib.Omega.{arith}
use lib.Dec.{eqb}
use lib.ListN.{length, take, length-append}
use lib.Seq.{take-take, length-take-le, take-append_seam, take-append-add}
use borrow.Author.Tests.{eqb-true}
use Rattle.gap.specs.Rules.Lines.{newline, newlines, since_after, since}
use Rattle.gap.proofs.Laws.Lines.{newlines-append, since-append, since-unbroken}
use Rattle.window.specs.Wording.Painter.{LineStart}

-- A text with a newline, cut at its last one.
record LastNewline (s : List ℕ) : Type 0 where
  before : List ℕ
  after : List ℕ
  whole : s ≡ before ++ (newline ∷ after)
  unbroken : newlines after ≡ 0

cut-byte : (b : ℕ) (s : List ℕ) (is : Bool) (n : ℕ) → eqb b newline ≡ is → newlines s ≡ n → 0 < cond is (suc n) n
    → (0 < newlines s → LastNewline s) → LastNewline (b ∷ s)
cut-byte b s true zero is none some rest =
    record { before = []; after = s; whole = ap (λ x. x ∷ s) (eqb-true b newline is); unbroken = none }
cut-byte b s false zero is none some rest = absurd (omega arith)
cut-byte b s this (suc n) is more some rest =
    let cut = rest (omega arith) in
    record { before = b ∷ cut.before; after = cut.after; whole = ap (λ x. b ∷ x) cut.whole; unbroken = cut.unbroken }

last-newline : (s : List ℕ) → 0 < newlines s → LastNewline s
unfolding newlines
last-newline [] some = absurd (omega arith)
last-newline (b ∷ s) some = cut-byte b s (eqb b newline) (newlines s) refl refl some (last-newline s)

-- Where the last line of a text starts, counted back from its end.
record LastLine (s : List ℕ) : Type 0 where
  room : since s < length s
  before : newlines (take (length s - since s - 1) s) + 1 ≡ newlines s
  up_to : newlines (take (length s - since s) s) ≡ newlines s
  start : (x : ℕ) → since_after x (take (length s - since s) s) ≡ 0

last_line_lem : (a z : List ℕ) → newlines z ≡ 0 → LastLine (a ++ (newline ∷ z))
unfolding newlines since_after
last_line_lem a z unbroken =
    let s = a ++ (newline ∷ z) in
    let column : since s ≡ length z = since-append 0 a (newline ∷ z) ∙ since-unbroken 0 z unbroken ∙ zero-add (length z) in
    let whole : newlines s ≡ newlines a + 1 = newlines-append a (newline ∷ z) ∙ omega arith in
    let size = length-append a (newline ∷ z) in
    let behind : length s - since s - 1 ≡ length a = omega arith in
    let from : length s - since s ≡ length a + 1 = omega arith in
    let up_to : take (length s - since s) s ≡ a ++ (newline ∷ []) = rw (from, take-append-add) in
    record {
      room = omega arith;
      before = rw (behind, take-append_seam) (sym whole);
      up_to = rw up_to (newlines-append a (newline ∷ []) ∙ sym whole);
      start = λ x. rw up_to (since-append x a (newline ∷ []));
    }

-- Going back: of the k newlines to pass, i lie behind index `end`, and in front of it one more at least than are left.
pub record Back (t : List ℕ) (k i end : ℕ) : Type 0 where
  pub some : k < newlines t
  pub passed : i ≤ k
  pub within : end ≤ length t
  pub lines : newlines (take end t) + i ≡ newlines t

module _ {t : List ℕ} {k i end : ℕ} (so_far : Back t k i end) {column : ℕ} (here : column ≡ since (take end t)) where
  line : LastLine (take end t)
  line =
      let cut = last-newline (take end t) (omega (arith, so_far.some, so_far.passed, so_far.lines)) in rw cut.whole (last_line_lem cut.before cut.after cut.unbroken)

  long : length (take end t) ≡ end
  long = length-take-le end t so_far.within

  pub back_inside : column ≤ end
  back_inside = omega (arith, line.room, long)

  pub back-room : 1 ≤ end - column
  back-room = omega (arith, line.room, long)

  -- Up to an index in front of `end`, the first `end` bytes and all bytes are the same.
  same : (n m : ℕ) → n ≤ end → n ≡ m → take n t ≡ take m (take end t)
  same n m inside e = sym (take-take n end t inside) ∙ ap (λ x. take x (take end t)) e

  pub back_more : i < k → Back t k (i + 1) (end - column - 1)
  back_more more =
      let front = same (end - column - 1) (length (take end t) - since (take end t) - 1) (omega arith) (omega (arith, long)) in
      record {
        some = so_far.some;
        passed = omega arith;
        within = omega arith;
        lines = omega (arith, so_far.lines, ap newlines front, line.before);
      }

  pub back-all : k ≤ i → LineStart t k (end - column)
  back-all none =
      let front = same (end - column) (length (take end t) - since (take end t)) (omega arith) (omega (arith, long)) in
      record {
        within = omega arith;
        lines = omega (arith, so_far.passed, so_far.lines, ap newlines front, line.up_to);
        start = λ x. ap (since_after x) front ∙ line.start x;
      }
