-- The words in which theorems say what bytes received so far must give, from the table of the keys' bytes alone. (02, M-107.)
use Rattle.std.specs.Prelude.{◌≡◌, ◌≢◌, List, [], ◌∷◌, ◌++◌, Bool, true, ℕ, suc, length}
use Rattle.gap.specs.Rules.Layout.{allowed}
use Rattle.keyboard.specs.Words.{Received, Pressed, More, Refused}
use Rattle.keyboard.specs.Words.{Key, Insert, Function, Recall, Quote, Find, Replace, Mark, Cut, Paste, Newline, Tab}
use Rattle.keyboard.specs.Rules.Refusals.{SEQUENCE}
use Rattle.keyboard.specs.Rules.Keyboard.{bytes_of}

-- Keys that a terminal sends: all but an insert of a byte that no text may have.
abbrev pub of_terminal : Key → Bool
of_terminal (Insert b) = allowed b
of_terminal (Function action way place) = true
of_terminal Recall = true
of_terminal Quote = true
of_terminal (Find way) = true
of_terminal Replace = true
of_terminal Mark = true
of_terminal Cut = true
of_terminal Paste = true
of_terminal Newline = true
of_terminal Tab = true

-- The bytes begin with those of a key that terminals send, and it uses these.
pub record Whole (s : List ℕ) (key : Key) (used : ℕ) : Type 0 where
  pub sent : bytes_of key ≢ []
  pub rest : List ℕ
  pub split : s ≡ bytes_of key ++ rest
  pub count : used ≡ length (bytes_of key)

-- Some key's bytes begin with these, and it has more.
pub record Begun (s : List ℕ) : Type 0 where
  pub key : Key
  pub next : ℕ
  pub rest : List ℕ
  pub split : bytes_of key ≡ s ++ (next ∷ rest)

-- No key's bytes begin with these.
abbrev pub Unbegun : List ℕ → Type 0
Unbegun s = (k : Key) (rest : List ℕ) → bytes_of k ≢ s ++ rest

-- The first byte that no key continues stands behind bytes that some key begins with, and is the last one used.
pub record Broken (s : List ℕ) (code used : ℕ) : Type 0 where
  pub number : code ≡ SEQUENCE
  pub front : List ℕ
  pub byte : ℕ
  pub rest : List ℕ
  pub split : s ≡ front ++ (byte ∷ rest)
  pub count : used ≡ suc (length front)
  pub begun : Begun front
  pub unbegun : Unbegun (front ++ (byte ∷ []))

-- The table gives this answer for these bytes.
abbrev pub Gives : List ℕ → Received → Type 0
Gives s (Pressed k used) = Whole s k used
Gives s More = Begun s
Gives s (Refused code used) = Broken s code used
