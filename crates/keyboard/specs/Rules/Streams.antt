-- A stream of bytes as keys and refusals, whole and in pieces. (02, M-107: a stream has one reading.)
use Rattle.std.specs.Prelude.{List, [], ◌∷◌, ◌++◌, ℕ, zero, suc, length, drop}
use Rattle.keyboard.specs.Words.{Key, Received, Pressed, More, Refused}
use Rattle.keyboard.specs.Rules.Keyboard.{received}

-- What a stream is read as: keys, and refusals by their number.
pub data Item : Type 0 where
  a_key : Key → Item
  a_refusal : ℕ → Item

-- A stream's reading: its items in order, and the bytes behind them that wait for more.
pub record Reading : Type 0 where
  pub items : List Item
  pub waiting : List ℕ

abbrev pub waits : List ℕ → Reading
waits s = record { items = []; waiting = s }

abbrev pub behind : List Item → Reading → Reading
behind items r = record { items = items ++ r.items; waiting = r.waiting }

-- What was received of these bytes, and then what is read behind the bytes that it used.
abbrev pub then : Received → List ℕ → (List ℕ → Reading) → Reading
then (Pressed k used) s next = behind (a_key k ∷ []) (next (drop used s))
then More s next = waits s
then (Refused code used) s next = behind (a_refusal code ∷ []) (next (drop used s))

-- So many turns; each uses a byte at least, so as many as there are bytes are enough.
unfoldable pub turns : ℕ → List ℕ → Reading
turns zero s = waits s
turns (suc n) s = then (received s) s (turns n)

unfoldable pub reading : List ℕ → Reading
reading s = turns (length s) s

-- The same stream as it arrives: each piece is read behind the bytes that wait from before.
unfoldable pub reading_on : List ℕ → List (List ℕ) → Reading
reading_on waiting [] = waits waiting
reading_on waiting (piece ∷ pieces) =
    let now = reading (waiting ++ piece) in behind now.items (reading_on now.waiting pieces)

abbrev pub reading_pieces : List (List ℕ) → Reading
reading_pieces pieces = reading_on [] pieces

-- The pieces as one stream, and the keys of a reading.
unfoldable pub joined : List (List ℕ) → List ℕ
joined [] = []
joined (piece ∷ pieces) = piece ++ joined pieces

unfoldable pub keys_in : List Item → List Key
keys_in [] = []
keys_in (a_key k ∷ items) = k ∷ keys_in items
keys_in (a_refusal code ∷ items) = keys_in items

-- ---- A host at work

-- Where it is, whatever a key makes of that, and the bytes that wait.
pub record Host (A : Type 0) : Type 0 where
  pub at : A
  pub waiting : List ℕ

abbrev pub host : {A : Type 0} → A → List ℕ → Host A
host at waiting = record { at = at; waiting = waiting }

module _ {A : Type 0} (press : Key → A → A) where
  -- A key that was received is pressed at once; a refusal presses nothing. Both go on behind the bytes that they used.
  abbrev pub press_then : Received → List ℕ → A → (List ℕ → A → Host A) → Host A
  press_then (Pressed k used) s at next = next (drop used s) (press k at)
  press_then More s at next = host at s
  press_then (Refused code used) s at next = next (drop used s) at

  unfoldable pub press_turns : ℕ → List ℕ → A → Host A
  press_turns zero s at = host at s
  press_turns (suc n) s at = press_then (received s) s at (press_turns n)

  -- A piece arrives behind the bytes that wait; and pieces, one after the other.
  unfoldable pub arrive : List ℕ → Host A → Host A
  arrive piece h = let s = h.waiting ++ piece in press_turns (length s) s h.at

  unfoldable pub arrive_all : List (List ℕ) → Host A → Host A
  arrive_all [] h = h
  arrive_all (piece ∷ pieces) h = arrive_all pieces (arrive piece h)

  -- A list of keys.
  unfoldable pub press_all : List Key → A → A
  press_all [] at = at
  press_all (k ∷ ks) at = press_all ks (press k at)
