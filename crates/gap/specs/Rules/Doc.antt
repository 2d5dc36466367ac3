-- The plain document and its single steps. (01, plain editor: document; 001, section 1.1.)
use Rattle.std.specs.Prelude.{List, [], ◌++◌, ℕ, zero, suc, ◌-◌, length, take, drop}
use Rattle.gap.specs.Words.{Direction, Left, Right}
use Rattle.gap.specs.Rules.Sequence.{but_last, last_of}

-- A document is what stands before the cursor and what stands behind it. Recall pairs and the replacement have this shape too.
pub record Doc : Type 0 where
  pub l : List ℕ
  pub r : List ℕ

abbrev pub empty : Doc
empty = record { l = []; r = [] }

abbrev pub content : Doc → List ℕ
content d = d.l ++ d.r

-- How many single moves a direction has left.
abbrev pub room : Direction → Doc → ℕ
room Left d = length d.l
room Right d = length d.r

-- One byte crosses the cursor: going left, from the end of l to the front of r; going right, the other way. At an end of the text
-- there is none to cross. (01, plain editor: move. DECISIONS E1.)
unfoldable pub move : Direction → Doc → Doc
move Left d = record { l = but_last d.l; r = last_of d.l ++ d.r }
move Right d = record { l = d.l ++ take 1 d.r; r = drop 1 d.r }

-- The byte that such a move would cross is gone. (01, plain editor: deletion.)
unfoldable pub delete : Direction → Doc → Doc
delete Left d = record { l = but_last d.l; r = d.r }
delete Right d = record { l = d.l; r = drop 1 d.r }

-- n single steps in a row.
unfoldable pub times : {A : Type 0} → (A → A) → ℕ → A → A
times step zero a = a
times step (suc n) a = times step n (step a)

-- The bytes that n moves cross, as they stand in the text.
unfoldable pub passed : Direction → ℕ → Doc → List ℕ
passed Left n d = drop (length d.l - n) d.l
passed Right n d = take n d.r

-- What n deletions take away, as a pair: left of the cursor it was, or right of it. (01, plain editor: recall text.)
unfoldable pub removed : Direction → ℕ → Doc → Doc
removed Left n d = record { l = passed Left n d; r = [] }
removed Right n d = record { l = []; r = passed Right n d }

-- One change around the cursor: l loses its last a bytes and gains x.l behind, r loses its first b bytes and gains x.r before.
-- Insertion, RECALL and REPLACE are such changes; n deletions are one too (deletions-left, deletions-right in proofs/Laws/Doc).
unfoldable pub splice : ℕ → ℕ → Doc → Doc → Doc
splice a b x d = record { l = take (length d.l - a) d.l ++ x.l; r = x.r ++ drop b d.r }
