-- The numbers of the host's boundary: what goes over and back is the same, and which numbers name which key.
use Rattle.std.proofs.Common.{Option, Some, None, Result, Ok, Err}
use Rattle.std.specs.Prelude.{IfOk}
use mathlib.Core.Path.{◌≡◌, refl, sym, ap, ◌∙◌}
use mathlib.Core.Logic.{◌↔◌, ⊎_elim}
use mathlib.Core.Bool.{Bool, true, false, cond, ◌&&◌, false≢true}
use Prim.Native.Nat.{ℕ, zero, suc, ◌≤◌, ◌<◌}
use native.Mathlib.Omega.{arith}
use lib.Dec.{eqb, leb}
use borrow.Author.Tests.{leb-true, lt-leb, eqb-true, eq-eqb, ne_eqb}
use Rattle.gap.proofs.Laws.Tests.{decided, clash, and_left, and_right, and_both, cond-true, cond-false}
use Rattle.gap.specs.Rules.Numbers.{bit}
use Rattle.editor.specs.Rules.Refusals.{SIZE, LONG, TEXT, SESSION, KEY, FULL, ROOM}
use Rattle.editor.specs.declared.refusals.Refusal.{Refusal}
use Rattle.editor.specs.declared.refusals.Refusal.TheVariants as refusals
use Rattle.window.specs.Words.{Mode, Main, Quoted, Session, Direction, Left, Right, Action, Move, Delete}
use Rattle.window.specs.Words.{Place, Character, Word, LineBeginning, LineEnding, Document}
use Rattle.window.specs.Words.{Key, Insert, Function, Recall, Quote, Find, Replace, Mark, Cut, Paste, Newline, Tab}
use Rattle.window.specs.declared.host.Record.{Record}
use Rattle.window.specs.declared.host.Said.{Said}
use Rattle.window.specs.declared.Rows.{Rows}
use Rattle.window.specs.declared.Accepted.{Accepted}
use Rattle.window.specs.declared.Unopened.{Unopened}
use Rattle.window.specs.declared.Unopened.TheVariants as openings
use Rattle.window.specs.Rules.Core.{Answer}
use Rattle.window.specs.Rules.Host.{mode_of, mode_number, no_mark, mark_from, mark_number, session_from, record_from, said_of, answer_from, none}
use Rattle.window.specs.Rules.Host.{action_from, direction_from, place_from, function_from, key_from, KeyNumbers, key_of, names, looked_at}
use Rattle.window.specs.Rules.Host.{action_number, direction_number, place_number, numbers, numbers_of_key, of_byte}
use Rattle.window.specs.Wording.Painter.{rows_in, FromOne}
use Rattle.window.specs.Wording.Calls.{accepted_reply, open_reply, key_reply}

-- ---- The record

mode-over : (m : Mode) → mode_of (mode_number m) ≡ m
mode-over Main = refl
mode-over Quoted = refl

unmarked-at : {m : ℕ} → ¬ (None ≡ Some m)
unmarked-at e = false≢true cc

at_same : {m n : ℕ} → Some m ≡ Some n → m ≡ n
at_same e = cc

mark-over : (mark : Option ℕ) → (mark_from (mark_number mark) ≡ mark) ↔ (¬ (mark ≡ Some no_mark))
mark-over None = (λ e. unmarked-at, λ other. cond-true _ _ (eq-eqb no_mark no_mark refl))
mark-over (Some m) = (
  λ e same. unmarked-at (sym (cond-true _ _ (eq-eqb m no_mark (at_same same))) ∙ e),
  λ other. cond-false _ _ (ne_eqb m no_mark (λ same. other (ap Some same))),
)

-- A session record comes back from its numbers as it was exactly when its mark is not at the number that says that there is none. So does every
-- session: session-comes-back in Theorems/Marks.
pub session-over : (s : Session) → (session_from (record_from s) ≡ s) ↔ (¬ (s.lengths.mark ≡ Some no_mark))
session-over s = (
  λ e. (mark-over s.lengths.mark).0 (ap (λ t. t.lengths.mark) e),
  λ other. rw (mode-over s.lengths.mode, (mark-over s.lengths.mark).1 other),
)

number-over : (m : ℕ) → m ≤ 1 → mode_number (mode_of m) ≡ m
number-over zero low = refl
number-over (suc zero) low = refl
number-over (suc (suc m)) low = absurd (omega arith)

pub mode-low : (m : Mode) → mode_number m ≤ 1
mode-low Main = omega arith
mode-low Quoted = omega arith

mark-number-over : (m : ℕ) → mark_number (mark_from m) ≡ m
mark-number-over m =
    ⊎_elim
    (λ none. ap mark_number (cond-true None (Some m) none) ∙ sym (eqb-true m no_mark none))
    (λ some. ap mark_number (cond-false None (Some m) some))
    (decided (eqb m no_mark))

-- A host's record comes back from the core as it was, number for number, exactly when its mode is 0 or 1.
pub record-over : (n : Record) → (record_from (session_from n) ≡ n) ↔ (n.mode ≤ 1)
record-over n = (
  λ e. omega (arith, ap (λ r. r.mode) e, mode-low (mode_of n.mode)),
  λ low. rw (number-over n.mode low, mark-number-over n.mark),
)

-- ---- The answer

bell-over : (b : Bool) → eqb (bit b) 1 ≡ b
bell-over true = refl
bell-over false = refl

-- The numbers of an answer give the answer back, the bell included.
pub answer-over : (a : Answer) → answer_from (said_of a) ≡ a
answer-over a = rw (bell-over a.report.bell)

-- Numbers come back from the answer that they are read as exactly when the bell is 0 or 1.
pub said-over : (said : Said) → (said_of (answer_from said) ≡ said) ↔ (said.bell ≤ 1)
said-over said = (
  λ e. omega (arith, ap (λ q. q.bell) e, bit-low (eqb said.bell 1)),
  λ low. rw (bit-over said.bell low),
)
  where
    bit-low : (b : Bool) → bit b ≤ 1
    bit-low true = omega arith
    bit-low false = omega arith

    bit-over : (n : ℕ) → n ≤ 1 → bit (eqb n 1) ≡ n
    bit-over zero low = refl
    bit-over (suc zero) low = refl
    bit-over (suc (suc n)) low = absurd (omega arith)

-- The rows named, what an accepted call answers, and the outcome of an opening and of a key, as they are read from an answer's numbers.
abbrev pub rows_from : ℕ → ℕ → Option Rows
rows_from first last = cond (eqb first 0) None (Some (record { first = first; last = last }))

abbrev pub accepted_from : Answer → Session → Accepted
accepted_from a s = record { report = a.report; named = rows_from a.first a.last; row = a.row; column = a.column; session = s }

abbrev pub unopened_from : ℕ → ℕ → Unopened
unopened_from code place =
    cond (eqb code SIZE) openings.Size
    (cond (eqb code LONG) openings.Long (cond (eqb code TEXT) (openings.Text place) (openings.Line place)))

abbrev pub refusal_from : ℕ → Refusal
refusal_from code =
    cond (eqb code SIZE) refusals.Size
    (cond (eqb code LONG) refusals.Long
    (cond (eqb code TEXT) refusals.Text
    (cond (eqb code SESSION) refusals.Session
    (cond (eqb code KEY) refusals.Key
    (cond (eqb code FULL) refusals.Full (cond (eqb code ROOM) refusals.Room refusals.Line))))))

abbrev pub opened_from : Answer → Session → Result Accepted Unopened
opened_from a s = cond (eqb a.code 0) (Ok (accepted_from a s)) (Err (unopened_from a.code a.place))

abbrev pub pressed_from : Answer → Session → Result Accepted Refusal
pressed_from a s = cond (eqb a.code 0) (Ok (accepted_from a s)) (Err (refusal_from a.code))

-- Rows come back where those that are named are numbered from 1 on.
pub rows-over : (named : Option Rows) → FromOne named → rows_from (rows_in named).first (rows_in named).last ≡ named
rows-over None _ = refl
rows-over (Some rows) low = cond-false _ _ (ne_eqb rows.first 0 (λ zero. omega (arith, low, zero)))

-- So what the code answers comes back: an accepted call with its record, and the outcome of an opening and of a key.
pub accepted-over : (a : Accepted) → FromOne a.named → accepted_from (answer_from (said_of (accepted_reply a).answer)) a.session ≡ a
accepted-over a low = rw (bell-over a.report.bell, rows-over a.named low)

pub open-over : (r : Result Accepted Unopened) → IfOk r (λ a. FromOne a.named)
    → opened_from (answer_from (said_of (open_reply r).answer)) (open_reply r).session ≡ r
open-over (Ok a) low = ap Ok (accepted-over a low)
open-over (Err openings.Size) _ = refl
open-over (Err openings.Long) _ = refl
open-over (Err (openings.Text place)) _ = refl
open-over (Err (openings.Line place)) _ = refl

pub press-over : (s : Session) (r : Result Accepted Refusal) → IfOk r (λ a. FromOne a.named)
    → pressed_from (answer_from (said_of (key_reply s r).answer)) (key_reply s r).session ≡ r
press-over s (Ok a) low = ap Ok (accepted-over a low)
press-over s (Err refusals.Size) _ = refl
press-over s (Err refusals.Long) _ = refl
press-over s (Err refusals.Text) _ = refl
press-over s (Err refusals.Session) _ = refl
press-over s (Err refusals.Key) _ = refl
press-over s (Err refusals.Full) _ = refl
press-over s (Err refusals.Room) _ = refl
press-over s (Err refusals.Line) _ = refl

-- ---- Keys

action-over : (action : Action) → (leb (action_number action) 1 ≡ true) × (action_from (action_number action) ≡ action)
action-over Move = (refl, refl)
action-over Delete = (refl, refl)

direction-over : (way : Direction) → (leb (direction_number way) 1 ≡ true) × (direction_from (direction_number way) ≡ way)
direction-over Left = (refl, refl)
direction-over Right = (refl, refl)

place-over : (place : Place) → (leb (place_number place) 4 ≡ true) × (place_from (place_number place) ≡ place)
place-over Character = (refl, refl)
place-over Word = (refl, refl)
place-over LineBeginning = (refl, refl)
place-over LineEnding = (refl, refl)
place-over Document = (refl, refl)

-- Every key that can be pressed has numbers that name it.
pub key-over : (k : Key) → of_byte k ≡ true → (names (numbers_of_key k) ≡ true) × (key_of (numbers_of_key k) ≡ k)
unfolding key_from
key-over (Insert b) low = (low, rw low)
key-over (Function action way place) low =
    let low = and_both (action-over action).0 (and_both (direction-over way).0 (place-over place).0) in
    (low, rw (low, (action-over action).1, (direction-over way).1, (place-over place).1))
key-over Recall low = (refl, refl)
key-over Quote low = (refl, refl)
key-over (Find way) low = ((direction-over way).0, rw ((direction-over way).0, (direction-over way).1))
key-over Replace low = (refl, refl)
key-over Mark low = (refl, refl)
key-over Cut low = (refl, refl)
key-over Paste low = (refl, refl)
key-over Newline low = (refl, refl)
key-over Tab low = (refl, refl)

action-back : (a : ℕ) → leb a 1 ≡ true → action_number (action_from a) ≡ a
action-back zero low = refl
action-back (suc zero) low = refl
action-back (suc (suc a)) low = absurd (omega (arith, leb-true (suc (suc a)) 1 low))

direction-back : (d : ℕ) → leb d 1 ≡ true → direction_number (direction_from d) ≡ d
direction-back zero low = refl
direction-back (suc zero) low = refl
direction-back (suc (suc d)) low = absurd (omega (arith, leb-true (suc (suc d)) 1 low))

place-back : (p : ℕ) → leb p 4 ≡ true → place_number (place_from p) ≡ p
place-back zero low = refl
place-back (suc zero) low = refl
place-back (suc (suc zero)) low = refl
place-back (suc (suc (suc zero))) low = refl
place-back (suc (suc (suc (suc zero)))) low = refl
place-back (suc (suc (suc (suc (suc p))))) low = absurd (omega (arith, leb-true (suc (suc (suc (suc (suc p))))) 4 low))

-- A kind is one of the eleven, or above 10 and then none of them.
record Above (kind : ℕ) : Type 0 where
  k0 : eqb kind 0 ≡ false
  k1 : eqb kind 1 ≡ false
  k2 : eqb kind 2 ≡ false
  k3 : eqb kind 3 ≡ false
  k4 : eqb kind 4 ≡ false
  k5 : eqb kind 5 ≡ false
  k6 : eqb kind 6 ≡ false
  k7 : eqb kind 7 ≡ false
  k8 : eqb kind 8 ≡ false
  k9 : eqb kind 9 ≡ false
  k10 : eqb kind 10 ≡ false
  high : leb kind 10 ≡ false

is-above : (kind : ℕ) → 10 < kind → Above kind
is-above kind high =
    record {
      k0 = ne_eqb kind 0 (λ e. omega arith);
      k1 = ne_eqb kind 1 (λ e. omega arith);
      k2 = ne_eqb kind 2 (λ e. omega arith);
      k3 = ne_eqb kind 3 (λ e. omega arith);
      k4 = ne_eqb kind 4 (λ e. omega arith);
      k5 = ne_eqb kind 5 (λ e. omega arith);
      k6 = ne_eqb kind 6 (λ e. omega arith);
      k7 = ne_eqb kind 7 (λ e. omega arith);
      k8 = ne_eqb kind 8 (λ e. omega arith);
      k9 = ne_eqb kind 9 (λ e. omega arith);
      k10 = ne_eqb kind 10 (λ e. omega arith);
      high = lt-leb kind 10 high;
    }

by_kind : (P : ℕ → Type 0) → P 0 → P 1 → P 2 → P 3 → P 4 → P 5 → P 6 → P 7 → P 8 → P 9 → P 10
    → ((kind : ℕ) → Above kind → P kind) → (kind : ℕ) → P kind
by_kind P p0 p1 p2 p3 p4 p5 p6 p7 p8 p9 p10 above zero = p0
by_kind P p0 p1 p2 p3 p4 p5 p6 p7 p8 p9 p10 above (suc zero) = p1
by_kind P p0 p1 p2 p3 p4 p5 p6 p7 p8 p9 p10 above (suc (suc zero)) = p2
by_kind P p0 p1 p2 p3 p4 p5 p6 p7 p8 p9 p10 above (suc (suc (suc zero))) = p3
by_kind P p0 p1 p2 p3 p4 p5 p6 p7 p8 p9 p10 above (suc (suc (suc (suc zero)))) = p4
by_kind P p0 p1 p2 p3 p4 p5 p6 p7 p8 p9 p10 above (suc (suc (suc (suc (suc zero))))) = p5
by_kind P p0 p1 p2 p3 p4 p5 p6 p7 p8 p9 p10 above (suc (suc (suc (suc (suc (suc zero)))))) = p6
by_kind P p0 p1 p2 p3 p4 p5 p6 p7 p8 p9 p10 above (suc (suc (suc (suc (suc (suc (suc zero))))))) = p7
by_kind P p0 p1 p2 p3 p4 p5 p6 p7 p8 p9 p10 above (suc (suc (suc (suc (suc (suc (suc (suc zero)))))))) = p8
by_kind P p0 p1 p2 p3 p4 p5 p6 p7 p8 p9 p10 above (suc (suc (suc (suc (suc (suc (suc (suc (suc zero))))))))) = p9
by_kind P p0 p1 p2 p3 p4 p5 p6 p7 p8 p9 p10 above (suc (suc (suc (suc (suc (suc (suc (suc (suc (suc zero)))))))))) = p10
by_kind P p0 p1 p2 p3 p4 p5 p6 p7 p8 p9 p10 above (suc (suc (suc (suc (suc (suc (suc (suc (suc (suc (suc kind))))))))))) =
    let high : 10 < suc (suc (suc (suc (suc (suc (suc (suc (suc (suc (suc kind)))))))))) = omega arith in
    above (suc (suc (suc (suc (suc (suc (suc (suc (suc (suc (suc kind))))))))))) (is-above _ high)

module _ {kind : ℕ} (above : Above kind) (a b c : ℕ) where
  above-none : key_from kind a b c ≡ none
  unfolding key_from
  above-none = rw (above.k0, above.k1, above.k2, above.k3, above.k4, above.k5, above.k6, above.k7, above.k8, above.k9, above.k10)

  above-looked : looked_at (numbers kind a b c) ≡ numbers kind 0 0 0
  above-looked = rw (above.k1, above.k0, above.k4)

  above-unnamed : names (numbers kind a b c) ≡ false
  above-unnamed = rw (above.k0, above.k1, above.k4, above.high)

-- Numbers that name no key become an insert of byte 0, which is none.
pub unnamed : (x : KeyNumbers) → names x ≡ false → key_of x ≡ none
unfolding key_from
unnamed x =
    by_kind (λ kind. let y = numbers kind x.a x.b x.c in names y ≡ false → key_of y ≡ none)
    (λ e. rw e)
    (λ e. rw e)
    (λ e. clash refl e)
    (λ e. clash refl e)
    (λ e. rw e)
    (λ e. clash refl e)
    (λ e. clash refl e)
    (λ e. clash refl e)
    (λ e. clash refl e)
    (λ e. clash refl e)
    (λ e. clash refl e)
    (λ kind above e. above-none above x.a x.b x.c)
    x.kind

-- Numbers that are not looked at make no difference.
pub unlooked : (x : KeyNumbers) → key_of (looked_at x) ≡ key_of x
unfolding key_from
unlooked x =
    by_kind (λ kind. let y = numbers kind x.a x.b x.c in key_of (looked_at y) ≡ key_of y)
    refl
    refl
    refl
    refl
    refl
    refl
    refl
    refl
    refl
    refl
    refl
    (λ kind above.
    ap key_of (above-looked above x.a x.b x.c) ∙ (above-none above 0 0 0 ∙ sym (above-none above x.a x.b x.c)))
    x.kind

-- What is looked at as the numbers of an insert of byte 0 names it.
zeros-name : (x : KeyNumbers) → looked_at x ≡ numbers 0 0 0 0 → names x ≡ true
zeros-name x =
    by_kind (λ kind. let y = numbers kind x.a x.b x.c in looked_at y ≡ numbers 0 0 0 0 → names y ≡ true)
    (λ e. ap (λ y. leb y.a 255) e)
    (λ e. absurd (omega (arith, ap (λ y. y.kind) e)))
    (λ e. refl)
    (λ e. refl)
    (λ e. absurd (omega (arith, ap (λ y. y.kind) e)))
    (λ e. refl)
    (λ e. refl)
    (λ e. refl)
    (λ e. refl)
    (λ e. refl)
    (λ e. refl)
    (λ kind above e. clash (eq-eqb kind 0 (ap (λ y. y.kind) (sym (above-looked above x.a x.b x.c) ∙ e))) above.k0)
    x.kind

function-back : (a b c : ℕ) → (leb a 1 && (leb b 1 && leb c 4)) ≡ true → numbers 1 a b c ≡ numbers_of_key (function_from a b c)
function-back a b c low =
    let rest = and_right (leb a 1) (leb b 1 && leb c 4) low in
    rw (
      low,
      action-back a (and_left (leb a 1) (leb b 1 && leb c 4) low),
      direction-back b (and_left (leb b 1) (leb c 4) rest),
      place-back c (and_right (leb b 1) (leb c 4) rest),
    )

-- Numbers name a key exactly when, as far as they are looked at, they are the numbers of the key that they are taken for.
pub names-exactly : (x : KeyNumbers) → (names x ≡ true) ↔ (looked_at x ≡ numbers_of_key (key_of x))
unfolding key_from
names-exactly x = (
  by_kind (λ kind. let y = numbers kind x.a x.b x.c in names y ≡ true → looked_at y ≡ numbers_of_key (key_of y))
      (λ low. rw low)
      (function-back x.a x.b x.c)
      (λ low. refl)
      (λ low. refl)
      (λ low. rw (low, direction-back x.a low))
      (λ low. refl)
      (λ low. refl)
      (λ low. refl)
      (λ low. refl)
      (λ low. refl)
      (λ low. refl)
      (λ kind above low. clash low (above-unnamed above x.a x.b x.c))
      x.kind,
  λ e. ⊎_elim (λ named. named) (λ none. zeros-name x (e ∙ ap numbers_of_key (unnamed x none))) (decided (names x)),
)

-- So no key has two names: numbers that name the same key are the same as far as they are looked at.
pub named-once : (x y : KeyNumbers) → names x ≡ true → names y ≡ true → key_of x ≡ key_of y → looked_at x ≡ looked_at y
named-once x y p q same = (names-exactly x).0 p ∙ (ap numbers_of_key same ∙ sym ((names-exactly y).0 q))
