-- Turns: the bound on their number leaves none out, so that with more of them allowed the program prints the same; which are the last; and
-- the promise of a turn leaves nothing open.
use mathlib.Core.Path.{◌≡◌, refl, sym, ap, ◌∙◌}
use mathlib.Core.Logic.{⊎_elim}
use mathlib.Core.Bool.{true, false, cond, false≢true}
use mathlib.Core.List.{List, [], ◌++◌, append-nil}
use Prim.Native.Nat.{ℕ, zero, suc, ◌+◌, ◌-◌, ◌≤◌, ◌<◌}
use native.Mathlib.Nat.{zero-add, suc-add}
use native.Mathlib.Omega.{arith}
use lib.ListN.{length}
use borrow.Author.Tests.{eq-eqb, ne_eqb}
use Rattle.bench.specs.Words.{Ok, ControlFlow, Continue, Break, Key, Header, Reading, Pressed, Finished, Unknown}
use Rattle.bench.specs.Rules.Script.{heading_of, reading_at}
use Rattle.bench.specs.Rules.Print.{block, script_line}
use Rattle.gap.specs.Rules.Fields.{line_number}
use Rattle.gap.proofs.Laws.Tests.{decided, cond-true}
use Rattle.gap.proofs.Laws.Writers.{one_written}
use Rattle.window.specs.declared.Session.{Session}
use Rattle.window.specs.Rules.Core.{Lent, Called, opened, keyed}
use Rattle.bench.specs.declared.Next.{Next}
use Rattle.bench.specs.declared.Turn.{Turn}
use Rattle.bench.specs.Wording.Turns.{goes_on, handed_on, state_of, Does}
use Rattle.bench.specs.Rules.Run.{beginning, State, Turned, laid_out, opening_turn, pressed_turn, read, next_turn, turns, fresh, printed_from, output}
use Rattle.bench.proofs.Laws.Scripts.{pressed-goes-on, headed-inside}
use Rattle.bench.proofs.Laws.Beginnings.{begun-as}

-- Where a turn goes on, its next line starts further on, and within the input or at its end.
onward : (input : List ℕ) (s : State) (r : Reading) → reading_at input s.at ≡ r → (read input s r).state.going ≡ true
    → (s.at < (read input s r).state.at) × ((read input s r).state.at ≤ length input)
unfolding pressed_turn
onward input s (Pressed k next) e going = pressed-goes-on input s.at e
onward input s Finished e going = absurd (false≢true going)
onward input s Unknown e going = absurd (false≢true going)

-- Enough turns are allowed for the lines that are left.
pub record Enough (input : List ℕ) (n : ℕ) (s : State) : Type 0 where
  pub inside : s.going ≡ true → s.at ≤ length input
  pub left : s.going ≡ true → length input - s.at < n

still : (input : List ℕ) (n : ℕ) (s : State) → Enough input (suc n) s → s.going ≡ true → Enough input n (next_turn input s).state
unfolding next_turn
still input n s enough going =
    record {
      inside = λ on. (onward input s (reading_at input s.at) refl on).1;
      left =
          λ on.
          let along = onward input s (reading_at input s.at) refl on in
          omega (arith, along.0, along.1, enough.left going, enough.inside going);
    }

none_more : (k : ℕ) (input : List ℕ) (t : Turned) → t.state.going ≡ false → turns k input t ≡ t.printed
unfolding turns
none_more zero input t stops = refl
none_more (suc k) input t stops =
    ap (λ going. t.printed ++ cond going (turns k input (next_turn input t.state)) []) stops ∙ append-nil t.printed

pub turns-enough : (n k : ℕ) (input : List ℕ) (t : Turned) → Enough input n t.state → turns (n + k) input t ≡ turns n input t
unfolding turns
turns-enough zero k input t enough =
    ⊎_elim (λ going. let never : ⊥ = omega (arith, enough.left going) in absurd never) (λ stops. rw zero-add (none_more k input t stops))
    (decided t.state.going)
turns-enough (suc n) k input t enough =
    rw suc-add (
    ⊎_elim
    (λ going.
    ap (λ rest. t.printed ++ cond t.state.going rest [])
    (turns-enough n k input (next_turn input t.state) (still input n t.state enough going)))
    (λ stops. none_more (suc (n + k)) input t stops ∙ sym (none_more (suc n) input t stops))
    (decided t.state.going)
    )

-- So it is from the opening on: a header has a byte at least, and the text stands within the input.
pub all-turns : (k : ℕ) (input : List ℕ) (h : Header) (b : Lent) → heading_of input ≡ Ok h
    → turns (length input + k) input (opening_turn h input b) ≡ turns (length input) input (opening_turn h input b)
unfolding opening_turn
all-turns k input h b e =
    let inside = headed-inside input e in
    turns-enough (length input) k input (opening_turn h input b)
    (record { inside = λ going. omega (arith, inside); left = λ going. omega (arith, inside) })

-- So the program prints every turn, however many are allowed.
pub all-printed : (k : ℕ) (input : List ℕ) (h : Header) → beginning input ≡ Ok h
    → output input ≡ turns (length input + k) input (opening_turn h input (fresh h))
unfolding output
all-printed k input h e = ap (printed_from input) e ∙ sym (all-turns k input h (fresh h) (begun-as input h (sym e)).0)

-- 01, the bench program: a refused opening ends the program, whatever refuses it, and an accepted one or a refused key does not.
pub refused-opening-ends : (n : ℕ) (h : Header) (input : List ℕ) (b : Lent)
    → 0 < (opened h.length h.rows h.columns (laid_out h input b)).answer.code
    → turns n input (opening_turn h input b) ≡ (opening_turn h input b).printed
unfolding opening_turn
refused-opening-ends n h input b refused =
    none_more n input (opening_turn h input b)
    (ne_eqb (opened h.length h.rows h.columns (laid_out h input b)).answer.code 0 (λ e. omega (arith, e, refused)))

pub accepted-opening-goes-on : (h : Header) (input : List ℕ) (b : Lent)
    → (opened h.length h.rows h.columns (laid_out h input b)).answer.code ≡ 0
    → (opening_turn h input b).state.going ≡ true
unfolding opening_turn
accepted-opening-goes-on h input b accepted = eq-eqb (opened h.length h.rows h.columns (laid_out h input b)).answer.code 0 accepted

pub key-goes-on : (s : Session) (k : Key) (next : ℕ) (b : Lent) → (pressed_turn s k next b).state.going ≡ true
unfolding pressed_turn
key-goes-on s k next b = refl

-- Either turn prints the block of its call's answer, with the screen that the call left, and hands on the record and the stores.
abbrev Hands : Turned → Called → ℕ → ℕ → ℕ → Type 0
Hands t o H W next =
    (t.printed ≡ block H W o.answer o.lent.screen)
    × (t.state.at ≡ next)
    × (t.state.session ≡ o.session)
    × (t.state.lent ≡ o.lent)

pub opening-hands : (h : Header) (input : List ℕ) (b : Lent)
    → Hands (opening_turn h input b) (opened h.length h.rows h.columns (laid_out h input b)) h.rows h.columns (h.at + h.length + 1)
unfolding opening_turn
opening-hands h input b = (refl, omega arith, refl, refl)

pub key-hands : (s : Session) (k : Key) (next : ℕ) (b : Lent) → Hands (pressed_turn s k next b) (keyed s k b) s.frame.h s.frame.w next
unfolding pressed_turn
key-hands s k next b = (refl, refl, refl, refl)

-- It ends at the end of the input, where it prints nothing, and at a line that cannot be read, whose number it prints. All else is left as it
-- was.
abbrev ended : State → State
ended s = record { going = false; at = s.at; session = s.session; lent = s.lent }

pub last_turn : (input : List ℕ) (s : State)
    → (reading_at input s.at ≡ Finished → next_turn input s ≡ record { printed = []; state = ended s })
    × (reading_at input s.at ≡ Unknown → next_turn input s ≡ record { printed = script_line (line_number input s.at); state = ended s })
unfolding next_turn
last_turn input s = (ap (read input s), ap (read input s))

-- Else its key is pressed on what the turn before handed on, and its turn is printed behind that one's.
pub each_turn : (n : ℕ) (input : List ℕ) (t : Turned) (k : Key) (next : ℕ)
    → t.state.going ≡ true
    → reading_at input t.state.at ≡ Pressed k next
    → turns (suc n) input t ≡ t.printed ++ turns n input (pressed_turn t.state.session k next t.state.lent)
unfolding next_turn turns
each_turn n input t k next going e =
    ap (λ rest. t.printed ++ rest) (cond-true _ _ going ∙ ap (λ r. turns n input (read input t.state r)) e)

-- What a turn hands on is told by its state.
abbrev told : State → ControlFlow Next Next
told s = let next : Next = record { at = s.at; session = s.session } in cond s.going (Continue next) (Break next)

all-told : (t : Turn) (b : Lent) → t.next ≡ told (state_of t b)
all-told t b = of t.next
  where
    of : (f : ControlFlow Next Next) → f ≡ told (record { going = goes_on f; at = (handed_on f).at; session = (handed_on f).session; lent = b })
    of (Continue next) = refl
    of (Break last) = refl

-- Two turns of the code that do the same turn of the definitions are the same: what is left, the stores, and what is printed.
pub one-turn : {turned : Turned} {t u : Turn} {b c : Lent} {old new other : List ℕ} → Does turned t b old new → Does turned u c old other
    → (t ≡ u) × (b ≡ c) × (new ≡ other)
one-turn {turned} {t} {u} {b} {c} v w =
    let left : state_of t b ≡ state_of u c = v.state ∙ sym w.state in
    let next : t.next ≡ u.next = all-told t b ∙ ap told left ∙ sym (all-told u c) in
    let printed = one_written v.prints w.prints in
    (λ i. record { printed = printed.0 i; next = next i }, ap (λ s. s.lent) left, printed.1)
