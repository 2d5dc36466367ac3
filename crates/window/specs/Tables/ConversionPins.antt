-- What request M-109 says of the conversion's refusals, on a session that needs little: one row and one column, and no text at all.
use Rattle.std.specs.Prelude.{List, [], ◌∷◌, Bool, ℕ, eqb, None}
use Rattle.window.specs.Words.{Main, Quoted, Mode, Lengths}
use Rattle.gap.specs.Rules.Sequence.{zeros}
use Rattle.gap.specs.Tables.Sentence.{Sentence, sentence}
use Rattle.editor.specs.Rules.Bytes.{Stores}
use Rattle.editor.specs.Tables.SessionPins.{sizes, lengths}
use Rattle.window.specs.Rules.Conversion.{converted}
use Rattle.window.specs.Tables.CallPins.{record_in, nothing}

-- Old stores of zeros.
abbrev pub olds : ℕ → ℕ → ℕ → ℕ → Stores
olds text recall held side = record { text = zeros text; recall = zeros recall; held = zeros held; side = zeros side }

-- H and W, the lengths of the five stores, and the code: the new side store comes last.
abbrev pub sizes_give : ℕ → ℕ → ℕ → ℕ → ℕ → ℕ → ℕ → ℕ → Bool
sizes_give H W text recall held old side code = eqb (converted (record_in 0 0 H W nothing) (olds text recall held old) (zeros side)).answer.code code

-- A record of these lengths with offsets r and c.
abbrev pub record_gives : ℕ → ℕ → Lengths → ℕ → Bool
record_gives r c n code = eqb (converted (record_in r c 1 1 n) (olds 1 1 1 1024) (zeros 4096)).answer.code code

abbrev pub quoted_of : ℕ → Mode → Lengths
quoted_of n mode = lengths (sizes 0 0 0 0) (sizes 0 n 0 0) 0 0 0 mode 0 0 None

abbrev pub convert_pins : List (Sentence Bool)
convert_pins =
    sentence "SIZE: old stores by the old table, H and W by theirs, the new side store 4,096"
    (sizes_give 1 1 1 1 1 1024 4096 0
    ∷ sizes_give 1 1 0 0 0 1024 4096 1
    ∷ sizes_give 1 1 1 2 1 1024 4096 1
    ∷ sizes_give 1 1 1 1 2 1024 4096 1
    ∷ sizes_give 1 1 1 1 1 4096 4096 1
    ∷ sizes_give 1 1 1 1 1 1023 4096 1
    ∷ sizes_give 1 1 1 1 1 1024 1024 1
    ∷ sizes_give 1 1 1 1 1 1024 4095 1
    ∷ sizes_give 0 1 1 1 1 1024 4096 1
    ∷ sizes_give 65 1 1 1 1 1024 4096 1
    ∷ sizes_give 1 0 1 1 1 1024 4096 1
    ∷ sizes_give 1 257 1 1 1 1024 4096 1
    ∷ [])
    ∷ sentence "then SESSION by the old rule; the cursor is visible, by the record"
    (record_gives 0 0 (quoted_of 0 Main) 0
    ∷ record_gives 1 0 (quoted_of 0 Quoted) 0
    ∷ record_gives 0 0 (quoted_of 0 Quoted) 4
    ∷ record_gives 1 0 (quoted_of 0 Main) 4
    ∷ record_gives 0 1 (quoted_of 0 Main) 4
    ∷ record_gives 1 0 (quoted_of 1 Quoted) 4
    ∷ record_gives 1 0 (quoted_of 257 Quoted) 4
    ∷ [])
    ∷ []
