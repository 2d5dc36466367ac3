-- What request M-109 says of longer quarters, on quarters so small that they can be read: old ones of 4 bytes, new ones of 6, and one of 16
-- for FULL. A free byte is written `_`.
use Rattle.std.specs.Prelude.{List, [], ◌∷◌, Bool, not, ℕ, eqb}
use Rattle.editor.specs.Words.{Key, Insert, Quote, Newline, Tab}
use Rattle.gap.specs.Tables.Sentence.{Sentence, sentence}
use Rattle.gap.specs.Tables.Written.{is_bytes, is_store, is_doc}
use Rattle.editor.specs.Rules.Plain.{opening}
use Rattle.editor.specs.Rules.Keys.{key, keys}
use Rattle.editor.specs.Rules.Bytes.{Stores, quarter, sized, plain_of, editor_ok}
use Rattle.editor.specs.Rules.Conversion.{old_quarter, converted_side, converted_stores}
use Rattle.editor.specs.Tables.KeyExamples.{seen_after}
use Rattle.editor.specs.Tables.SessionPins.{full_lengths, full_stores}

abbrev pub full_converted : Stores
full_converted = converted_stores 4 6 full_lengths full_stores

-- The code of a key in QUOTED behind these, where a quarter has 16 bytes and the document is full.
abbrev pub quoted_code : List Key → Key → ℕ
quoted_code ks k =
    let p = keys 0 16 (Quote ∷ ks) (opening []) in
    (seen_after p (key 0 16 k p)).code

abbrev pub conversion_pins : List (Sentence Bool)
conversion_pins =
    sentence "each quarter of the side store has 1,024 bytes, and had 256 before" (eqb quarter 1024 ∷ eqb old_quarter 256 ∷ [])
    ∷ sentence "the conversion takes an old session's stores and record to the new side store; the other stores stay"
    (is_store (converted_side 4 6 full_lengths full_stores) "e___fghi____jkl___mnop__"
    ∷ is_store full_converted.text "ab___c"
    ∷ is_store full_converted.recall "d_____"
    ∷ is_store full_converted.held "qrstu_"
    ∷ [])
    ∷ sentence "same plain state, and a session by the new rule; by the old rule it was none in longer quarters"
    (is_doc (plain_of 6 full_lengths full_converted).quoted.text "e|fg"
    ∷ is_doc (plain_of 6 full_lengths full_converted).quoted.recall "hi|"
    ∷ is_bytes (plain_of 6 full_lengths full_converted).pattern "jkl"
    ∷ is_doc (plain_of 6 full_lengths full_converted).replacement "mn|op"
    ∷ is_doc (plain_of 6 full_lengths full_converted).main.text "ab|c"
    ∷ sized 6 full_converted
    ∷ editor_ok 6 full_lengths full_converted
    ∷ editor_ok 4 full_lengths full_stores
    ∷ not (editor_ok 6 full_lengths full_stores)
    ∷ not (editor_ok 4 full_lengths full_converted)
    ∷ [])
    ∷ sentence "SIZE for old lengths" (not (sized 6 full_stores) ∷ not (sized 4 full_converted) ∷ [])
    ∷ sentence "FULL in QUOTED: above a quarter's bytes"
    (eqb (quoted_code (Tab ∷ []) Tab) 0
    ∷ eqb (quoted_code (Tab ∷ Tab ∷ []) Tab) 6
    ∷ eqb (quoted_code (Tab ∷ Tab ∷ []) (Insert 97)) 6
    ∷ eqb (quoted_code (Tab ∷ []) Newline) 6
    ∷ eqb (quoted_code (Tab ∷ Insert 10 ∷ []) Newline) 0
    ∷ [])
    ∷ []
