-- Sequences of bytes: the few notions beyond length, take, drop and append that the rules speak with.
use Rattle.std.specs.Prelude.{List, [], ◌∷◌, ◌++◌, Bool, true, false, ◌&&◌, ℕ, zero, suc, ◌-◌, eqb, length, take, drop, replicate}

-- A sequence without its last byte, and that byte alone; of nothing, nothing. (001, section 1.1: head, last.)
abbrev pub but_last : List ℕ → List ℕ
but_last s = take (length s - 1) s

abbrev pub last_of : List ℕ → List ℕ
last_of s = drop (length s - 1) s

-- A test that each byte passes.
unfoldable pub every : (ℕ → Bool) → List ℕ → Bool
every test [] = true
every test (b ∷ s) = test b && every test s

-- Equality, byte for byte, as a test.
unfoldable pub same_bytes : List ℕ → List ℕ → Bool
same_bytes [] [] = true
same_bytes [] (b ∷ t) = false
same_bytes (a ∷ s) [] = false
same_bytes (a ∷ s) (b ∷ t) = eqb a b && same_bytes s t

-- The pattern stands at the front of the text. (01, plain editor: search.)
unfoldable pub begins : List ℕ → List ℕ → Bool
begins pattern text = same_bytes pattern (take (length pattern) text)

-- The k bytes from place a on.
unfoldable pub part : ℕ → ℕ → List ℕ → List ℕ
part a k s = take k (drop a s)

-- A run put in the place of as many bytes from place a on.
unfoldable pub patch : ℕ → List ℕ → List ℕ → List ℕ
patch a run s = take a s ++ (run ++ drop (length run) (drop a s))

-- n bytes of value 0. (01, stores: zeros.)
unfoldable pub zeros : ℕ → List ℕ
zeros n = replicate n 0

-- n numbers in a row, from k on.
unfoldable pub counted : ℕ → ℕ → List ℕ
counted zero k = []
counted (suc n) k = k ∷ counted n (suc k)
