-- A host that presses keys as they arrive: it has pressed the keys of the reading.
use mathlib.Core.Path.{◌≡◌, refl, sym, ap, ◌∙◌}
use mathlib.Core.List.{List, [], ◌∷◌, ◌++◌}
use Prim.Native.Nat.{ℕ, zero, suc}
use lib.ListN.{length, drop}
use Rattle.keyboard.specs.Words.{Key, Received, Pressed, More, Refused}
use Rattle.keyboard.specs.Rules.Keyboard.{received}
use Rattle.keyboard.specs.Rules.Streams.{Item, a_key, a_refusal, Reading, then, turns, reading, reading_on, keys_in}
use Rattle.keyboard.specs.Rules.Streams.{Host, host, press_then, press_turns, arrive, arrive_all, press_all}

pub keys-append : (items others : List Item) → keys_in (items ++ others) ≡ keys_in items ++ keys_in others
unfolding keys_in
keys-append [] others = refl
keys-append (a_key k ∷ items) others = ap (λ ks. k ∷ ks) (keys-append items others)
keys-append (a_refusal code ∷ items) others = keys-append items others

module _ {A : Type 0} (press : Key → A → A) where
  pub press-append : (ks others : List Key) (at : A) → press_all press (ks ++ others) at ≡ press_all press others (press_all press ks at)
  unfolding press_all
  press-append [] others at = refl
  press-append (k ∷ ks) others at = press-append ks others (press k at)

  -- What a reading makes of where the host is.
  abbrev pub after : Reading → A → Host A
  after r at = host (press_all press (keys_in r.items) at) r.waiting

  turn : (answer : Received) (s : List ℕ) (at : A) (n : ℕ) → ((rest : List ℕ) (at : A) → press_turns press n rest at ≡ after (turns n rest) at)
      → press_then press answer s at (press_turns press n) ≡ after (then answer s (turns n)) at
  unfolding press_all keys_in
  turn (Pressed k used) s at n later = later (drop used s) (press k at)
  turn More s at n later = refl
  turn (Refused code used) s at n later = later (drop used s) at

  turns-pressed : (n : ℕ) (s : List ℕ) (at : A) → press_turns press n s at ≡ after (turns n s) at
  unfolding press_turns turns press_all keys_in
  turns-pressed zero s at = refl
  turns-pressed (suc n) s at = turn (received s) s at n (turns-pressed n)

  pub arrived : (piece : List ℕ) (h : Host A) → arrive press piece h ≡ after (reading (h.waiting ++ piece)) h.at
  unfolding arrive reading
  arrived piece h = turns-pressed (length (h.waiting ++ piece)) (h.waiting ++ piece) h.at

  pub all-arrived : (pieces : List (List ℕ)) (h : Host A) → arrive_all press pieces h ≡ after (reading_on h.waiting pieces) h.at
  unfolding arrive_all reading_on press_all keys_in
  all-arrived [] h = refl
  all-arrived (piece ∷ pieces) h =
      let now = reading (h.waiting ++ piece) in
      let later = reading_on now.waiting pieces in
      ap (arrive_all press pieces) (arrived piece h)
      ∙ all-arrived pieces (after now h.at)
      ∙ ap (λ at. host at later.waiting)
      (sym (press-append (keys_in now.items) (keys_in later.items) h.at)
      ∙ ap (λ ks. press_all press ks h.at) (sym (keys-append now.items later.items)))
