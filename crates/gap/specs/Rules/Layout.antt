-- How bytes hold texts: gap stores and pair stores. (01, what the core holds: below the table of stores.)
use Rattle.std.specs.Prelude.{◌≡◌, ◌≤◌, List, ◌++◌, Bool, true, ◌&&◌, ◌||◌, ℕ, ◌+◌, ◌-◌, eqb, leb, length, take, drop}
use Rattle.gap.specs.Rules.Sequence.{every, part, zeros}
use Rattle.gap.specs.Rules.Doc.{Doc, content}
use Rattle.gap.specs.Rules.Lines.{newline}

-- Bytes that are printed, each in a cell of its own.
abbrev pub printable : ℕ → Bool
printable b = leb 32 b && leb b 126

-- Bytes that a text may have: newline, and what is printed. (01, what the core holds: allowed bytes.)
abbrev pub allowed : ℕ → Bool
allowed b = eqb b newline || printable b

-- The byte of a place that no text uses. (01, session: free byte.)
abbrev pub free : ℕ → Bool
free b = eqb b 0

-- How many such places a store of this size has.
abbrev pub spare : ℕ → Doc → ℕ
spare size d = size - (length d.l + length d.r)

-- A gap store has the texts at its two ends and its free bytes in the middle.
unfoldable pub gapped : ℕ → Doc → List ℕ
gapped size d = d.l ++ (zeros (spare size d) ++ d.r)

-- A pair store has both texts at its front, one behind the other, and its free bytes at the end.
unfoldable pub paired : ℕ → Doc → List ℕ
paired size d = d.l ++ (d.r ++ zeros (spare size d))

-- Reading a gap store, given the lengths of its texts.
unfoldable pub ungap : ℕ → ℕ → List ℕ → Doc
ungap l r s = record { l = take l s; r = drop (length s - r) s }

-- Reading a pair store.
unfoldable pub unpair : ℕ → ℕ → List ℕ → Doc
unpair l r s = record { l = take l s; r = take r (drop l s) }

-- A store is sound for two lengths: they fit, the texts have allowed bytes only, and what is free is 0. (01, session.)
unfoldable pub sound_gap : ℕ → ℕ → List ℕ → Bool
sound_gap l r s =
    leb (l + r) (length s) && (every allowed (content (ungap l r s)) && every free (part l (length s - (l + r)) s))

unfoldable pub sound_pair : ℕ → ℕ → List ℕ → Bool
sound_pair l r s = leb (l + r) (length s) && (every allowed (content (unpair l r s)) && every free (drop (l + r) s))

-- What a routine on a gap store asks of it, whatever the bytes of its texts: they fit, and the store is the encoding of what it
-- holds, so that the middle is free.
pub record IsGap (l r : ℕ) (s : List ℕ) : Type 0 where
  pub fits : l + r ≤ length s
  pub holds : gapped (length s) (ungap l r s) ≡ s

-- The same of a pair store.
pub record IsPair (l r : ℕ) (s : List ℕ) : Type 0 where
  pub fits : l + r ≤ length s
  pub holds : paired (length s) (unpair l r s) ≡ s

-- A store of this size can hold the two texts, and their bytes are allowed.
pub record Holdable (size : ℕ) (d : Doc) : Type 0 where
  pub fits : length d.l + length d.r ≤ size
  pub bytes : every allowed (content d) ≡ true
