-- Streams and their readings, whole and in pieces. (02, M-107.)
use Rattle.std.specs.Prelude.{List, [], ◌∷◌, ℕ}
use Rattle.keyboard.specs.Words.{Right, Move, Character, Insert, Function, Quote}
use Rattle.keyboard.specs.Rules.Streams.{Item, a_key, a_refusal, Reading}

-- Pieces, and what they are read as.
pub record Stream : Type 0 where
  pub pieces : List (List ℕ)
  pub items : List Item
  pub waiting : List ℕ

abbrev pub stream : List (List ℕ) → List Item → List ℕ → Stream
stream pieces items waiting = record { pieces = pieces; items = items; waiting = waiting }

abbrev pub read_as : Stream → Reading
read_as s = record { items = s.items; waiting = s.waiting }

abbrev pub inserted : ℕ → Item
inserted b = a_key (Insert b)

abbrev pub stream_pins : List Stream
stream_pins =
    stream [] [] []
    ∷ stream ((97 ∷ 98 ∷ []) ∷ []) (inserted 97 ∷ inserted 98 ∷ []) []
    ∷ stream ((97 ∷ 27 ∷ []) ∷ (91 ∷ []) ∷ [] ∷ (67 ∷ 27 ∷ []) ∷ (113 ∷ 27 ∷ 91 ∷ []) ∷ [])
    (inserted 97 ∷ a_key (Function Move Right Character) ∷ a_key Quote ∷ []) (27 ∷ 91 ∷ [])
    ∷ stream ((200 ∷ 27 ∷ []) ∷ (27 ∷ 98 ∷ []) ∷ []) (a_refusal 9 ∷ a_refusal 9 ∷ inserted 98 ∷ []) []
    ∷ stream ((27 ∷ 91 ∷ []) ∷ (65 ∷ 13 ∷ 10 ∷ []) ∷ []) (a_refusal 9 ∷ inserted 10 ∷ a_refusal 9 ∷ []) []
    ∷ []
