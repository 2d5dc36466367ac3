-- Laws of the turns, and of playing them one after the other.
use mathlib.Core.Path.{◌≡◌, refl, sym, ap, subst}
use mathlib.Core.List.{List}
use Prim.Native.Nat.{ℕ, suc, ◌+◌, ◌-◌, ◌≤◌, ◌<◌, zero-le}
use native.Mathlib.Omega.{arith}
use lib.ListN.{length}
use Rattle.gap.proofs.Laws.Writers.{wrote_none}
use Rattle.editor.specs.declared.Key.{Key}
use Rattle.window.specs.Rules.Core.{Lent}
use Rattle.bench.specs.Words.{ControlFlow, Continue, Break, Header, Pressed, Finished}
use Rattle.bench.specs.declared.Next.{Next}
use Rattle.bench.specs.declared.Turn.{Turn}
use Rattle.bench.specs.Rules.Script.{reading_at}
use Rattle.bench.specs.Rules.Run.{opening_turn, read, next_turn}
use Rattle.bench.proofs.Laws.Scripts.{pressed-goes-on}
use Rattle.bench.specs.Wording.Turns.{state_from, handed_on, Does, Onward}

-- ---- Turns

module _ (input : List ℕ) (from : Next) where
  -- At the end of the input nothing is printed, and all is left as it was.
  pub next-finished : (b : Lent) → Finished ≡ reading_at input from.at → (out : List ℕ)
      → Does (next_turn input (state_from from b)) (record { printed = 0; next = Break from }) b out out
  unfolding next_turn
  next-finished b e out =
      subst (λ r. Does (read input (state_from from b) r) (record { printed = 0; next = Break from }) b out out) e
      (record { state = refl; prints = wrote_none 0 out zero-le })

  -- The program goes on only behind a key line, and that line has a byte at least.
  pub onward-pressed : (k : Key) (at : ℕ) → Pressed k at ≡ reading_at input from.at → (t : Turn)
      → ((then : Next) × (t.next ≡ Continue then) × (then.at ≡ at)) → Onward from (length input) t
  onward-pressed k at e t (then, left, there) =
      let along = pressed-goes-on input from.at (sym e) in
      let here : (next : Next) → t.next ≡ Continue next → at ≡ next.at = λ next same. cc in
      record {
        further = λ next same. omega (arith, along.0, here next same);
        inside = rw left (omega (arith, along.1, there));
      }

-- ---- Playing

-- The first line behind the text starts within the input, or at its end.
pub opening-inside : (h : Header) (input : List ℕ) (b : Lent) (t : Turn) (after : Lent) (old new : List ℕ)
    → Does (opening_turn h input b) t after old new → h.at + h.length < length input → (handed_on t.next).at ≤ length input
unfolding opening_turn
opening-inside h input b t after old new does inside =
    let place : (handed_on t.next).at ≡ suc (h.at + h.length) = ap (λ s. s.at) does.state in omega (arith, place, inside)

-- How many turns there can be, at the most.
abbrev pub turns_left : ControlFlow Next Next → ℕ → ℕ
turns_left (Continue next) end = suc (end - next.at)
turns_left (Break last) end = 0
