-- Laws of leading spaces: how a loop counts them, of spaces put together, and of the line on which a text ends.
use mathlib.Core.Path.{◌≡◌, refl, ap, ◌∙◌}
use mathlib.Core.Bool.{Bool, true, false, ◌&&◌, cond}
use mathlib.Core.List.{List, [], ◌∷◌, ◌++◌}
use Prim.Native.Nat.{ℕ, zero, suc, ◌+◌, ◌-◌, ◌≤◌}
use native.Mathlib.Nat.{zero-add}
use native.Mathlib.Omega.{arith}
use lib.Dec.{eqb}
use Rattle.std.specs.List.{prefix_len}
use Rattle.std.proofs.lemmas.List.Folds.{length-prefix_len}
use lib.ListN.{length, take, drop, replicate, length-append, length-drop, length-replicate}
use lib.Seq.{drop-append-add}
use Rattle.gap.specs.Rules.Sequence.{every}
use Rattle.gap.specs.Rules.Lines.{newline, newlines, since_after, since}
use Rattle.gap.specs.Rules.Indents.{space, spaces, leading, current_line, indent}
use Rattle.gap.specs.Rules.Layout.{allowed}
use Rattle.gap.proofs.Laws.Tests.{clash}
use Rattle.gap.proofs.Laws.Lines.{since-append, since-fits, since-unbroken}
use Rattle.gap.proofs.Laws.Runs.{tail_of, tail-lent}

-- They are as many as code takes while they last.
leading-prefix : (s : List ℕ) → prefix_len (λ b. eqb b space) s ≡ leading s
unfolding leading
leading-prefix [] = refl
leading-prefix (b ∷ s) = ap (λ n. cond (eqb b space) n 0) (omega (arith, leading-prefix s))

pub leading-taken : (s : List ℕ) → length (take (prefix_len (λ b. eqb b space) s) s) ≡ leading s
leading-taken s = length-prefix_len _ s ∙ leading-prefix s

-- ---- Spaces

pub length-spaces : (n : ℕ) → length (spaces n) ≡ n
unfolding spaces
length-spaces n = length-replicate n space

-- They have no newline, and are all leading.
pub spaces-unbroken : (n : ℕ) → newlines (spaces n) ≡ 0
unfolding spaces newlines
spaces-unbroken zero = refl
spaces-unbroken (suc n) = spaces-unbroken n

pub spaces-lead : (n : ℕ) → leading (spaces n) ≡ n
unfolding spaces leading
spaces-lead zero = refl
spaces-lead (suc n) = ap suc (spaces-lead n)

-- They are allowed bytes.
pub spaces-allowed : (n : ℕ) → every allowed (spaces n) ≡ true
unfolding spaces every
spaces-allowed zero = refl
spaces-allowed (suc n) = spaces-allowed n

-- One space more is one in front.
pub spaces-suc : (n : ℕ) → spaces (1 + n) ≡ space ∷ spaces n
unfolding spaces
spaces-suc n = let e : 1 + n ≡ suc n = omega arith in ap (λ k. replicate k space) e

-- A text has no more leading spaces than bytes; where it has nothing else, they are all.
leading-byte-fits : (is : Bool) {m n : ℕ} → m ≤ n → cond is (suc m) 0 ≤ suc n
leading-byte-fits true h = omega arith
leading-byte-fits false h = omega arith

pub leading-fits : (s : List ℕ) → leading s ≤ length s
unfolding leading
leading-fits [] = omega arith
leading-fits (b ∷ s) = leading-byte-fits (eqb b space) (leading-fits s)

leading-byte-all : (is rest : Bool) (m n : ℕ) → (is && rest) ≡ true → (rest ≡ true → m ≡ n) → cond is (suc m) 0 ≡ suc n
leading-byte-all true rest m n all law = ap suc (law all)
leading-byte-all false rest m n all law = clash all refl

pub leading-all : (s : List ℕ) → every (λ b. eqb b space) s ≡ true → leading s ≡ length s
unfolding leading every
leading-all [] all = refl
leading-all (b ∷ s) all = leading-byte-all (eqb b space) (every (λ b. eqb b space) s) (leading s) (length s) all (leading-all s)

-- ---- The line on which a text ends

-- It is as long as the bytes since the last newline.
pub length-current : (l : List ℕ) → length (current_line l) ≡ since l
length-current l = omega (arith, length-drop (length l - since l) l, since-fits 0 l)

pub indent-fits : (l : List ℕ) → indent l ≤ length l
unfolding indent
indent-fits l = omega (arith, leading-fits (current_line l), length-current l, since-fits 0 l)

-- What code lends of it.
pub line-lent : (l : List ℕ) {start : ℕ} → start ≡ length l - since l → {n : ℕ} → n ≡ leading (tail_of start l) → n ≡ indent l
unfolding indent
line-lent l starts counted = counted ∙ ap leading (tail-lent _ l ∙ ap (λ k. drop k l) starts)

-- A newline and then a run without one: that run is the last line.
module _ (l run : List ℕ) (unbroken : newlines run ≡ 0) where
  pub since-newline : since (l ++ (newline ∷ run)) ≡ length run
  unfolding since_after
  since-newline = since-append 0 l (newline ∷ run) ∙ (since-unbroken 0 run unbroken ∙ zero-add (length run))

  pub current-newline : current_line (l ++ (newline ∷ run)) ≡ run
  current-newline =
      let all = l ++ (newline ∷ run) in
      let place : length all - since all ≡ length l + 1 = omega (arith, length-append l (newline ∷ run), since-newline) in
      ap (λ k. drop k all) place ∙ drop-append-add l (newline ∷ run) 1

  -- A run without a newline that goes in at the end makes the last line that much longer.
  pub since-longer : since (l ++ run) ≡ since l + length run
  since-longer = since-append 0 l run ∙ since-unbroken (since l) run unbroken
