-- What document 01 and request M-101 say of lengths, stores and sessions, on stores so small that they can be read: T is 6, and a quarter
-- has 4 bytes. A free byte is written `_`.
use Rattle.std.specs.Prelude.{List, [], ◌∷◌, Bool, not, ◌&&◌, ℕ, eqb, Option, Some, None}
use Prim.Native.String.{String}
use Rattle.editor.specs.Words.{Mode, Main, Quoted, Sizes, Lengths}
use Rattle.editor.specs.Words.{Move, Right, Character, Insert, Function, Quote}
use Rattle.gap.specs.Rules.Sequence.{same_bytes}
use Rattle.gap.specs.Rules.Strings.{bytes}
use Rattle.gap.specs.Rules.Layout.{paired}
use Rattle.gap.specs.Tables.Sentence.{Sentence, sentence}
use Rattle.gap.specs.Tables.Written.{marked, stored, is_bytes, is_store, is_doc}
use Rattle.editor.specs.Rules.Plain.{Plain, opening}
use Rattle.editor.specs.Rules.Keys.{fits, keys}
use Rattle.editor.specs.Rules.Bytes.{Stores, quarter, sized, quarter_of, alone, plain_of, lengths_of, opening_lengths, stores_of, editor_ok}
use Rattle.editor.specs.Tables.KeyExamples.{same_mode, same_marking}

-- A plain state whose texts all have other lengths, and its stores.
abbrev pub full : Plain
full =
    record {
      main = record { text = marked "ab|c"; recall = marked "|d" };
      quoted = record { text = marked "e|fg"; recall = marked "hi|" };
      pattern = bytes "jkl";
      replacement = marked "mn|op";
      mode = Quoted;
      held = marked "|qrstu";
      mark = Some 1;
    }

abbrev pub sizes : ℕ → ℕ → ℕ → ℕ → Sizes
sizes l r rl rr = record { l = l; r = r; rl = rl; rr = rr }

abbrev pub lengths : Sizes → Sizes → ℕ → ℕ → ℕ → Mode → ℕ → ℕ → Option ℕ → Lengths
lengths main quoted xl xr pl mode hl hr mark =
    record { main = main; quoted = quoted; xl = xl; xr = xr; pl = pl; mode = mode; hl = hl; hr = hr; mark = mark }

abbrev pub full_lengths : Lengths
full_lengths = lengths (sizes 2 1 0 1) (sizes 1 2 2 0) 2 2 3 Quoted 0 5 (Some 1)

abbrev pub stores : String → String → String → String → Stores
stores text recall held side = record { text = stored text; recall = stored recall; held = stored held; side = stored side }

abbrev pub full_stores : Stores
full_stores = stores "ab___c" "d_____" "qrstu_" "e_fghi__jkl_mnop"

abbrev pub are_sizes : Sizes → Sizes → Bool
are_sizes m n = (eqb m.l n.l && eqb m.r n.r) && (eqb m.rl n.rl && eqb m.rr n.rr)

abbrev pub are_lengths : Lengths → Lengths → Bool
are_lengths m n =
    (are_sizes m.main n.main && are_sizes m.quoted n.quoted)
    && (((eqb m.xl n.xl && eqb m.xr n.xr) && (eqb m.pl n.pl && same_mode m.mode n.mode))
    && ((eqb m.hl n.hl && eqb m.hr n.hr) && same_marking m.mark n.mark))

abbrev pub are_stores : Stores → Stores → Bool
are_stores a b =
    (same_bytes a.text b.text && same_bytes a.recall b.recall)
    && (same_bytes a.held b.held && same_bytes a.side b.side)

-- ---- Layout

abbrev pub layout_pins : List (Sentence Bool)
layout_pins =
    sentence "text and first quarter are gap stores; recall and held store, second and fourth quarters hold a pair; the pattern its text; in order"
    (are_stores (stores_of 6 4 full) full_stores
    ∷ is_store (stores_of 6 4 full).held "qrstu_"
    ∷ is_store (quarter_of 4 0 full_stores.side) "e_fg"
    ∷ is_store (quarter_of 4 1 full_stores.side) "hi__"
    ∷ is_store (quarter_of 4 2 full_stores.side) "jkl_"
    ∷ is_store (quarter_of 4 3 full_stores.side) "mnop"
    ∷ [])
    ∷ sentence "the pattern holds its text and then zeros: a pair without a right half"
    (is_doc (alone (bytes "jkl")) "jkl|" ∷ is_store (paired 4 (alone (bytes "jkl"))) "jkl_" ∷ [])
    ∷ sentence "the record holds the lengths of all of them, the mode, and the mark as it is" (are_lengths (lengths_of full) full_lengths ∷ [])
    ∷ sentence "record and stores are read back"
    (is_doc (plain_of 4 full_lengths full_stores).main.text "ab|c"
    ∷ is_doc (plain_of 4 full_lengths full_stores).main.recall "|d"
    ∷ is_doc (plain_of 4 full_lengths full_stores).quoted.text "e|fg"
    ∷ is_doc (plain_of 4 full_lengths full_stores).quoted.recall "hi|"
    ∷ is_bytes (plain_of 4 full_lengths full_stores).pattern "jkl"
    ∷ is_doc (plain_of 4 full_lengths full_stores).replacement "mn|op"
    ∷ same_mode (plain_of 4 full_lengths full_stores).mode Quoted
    ∷ is_doc (plain_of 4 full_lengths full_stores).held "|qrstu"
    ∷ same_marking (plain_of 4 full_lengths full_stores).mark (Some 1)
    ∷ [])
    ∷ sentence "opening: all of the text lies right of the cursor, there is no mark, and every pair is empty, the held one too (M-101)"
    (are_lengths (lengths_of (opening (bytes "ab"))) (lengths (sizes 0 2 0 0) (sizes 0 0 0 0) 0 0 0 Main 0 0 None)
    ∷ are_lengths (opening_lengths 2) (lengths (sizes 0 2 0 0) (sizes 0 0 0 0) 0 0 0 Main 0 0 None)
    ∷ are_stores (stores_of 4 2 (opening (bytes "ab"))) (stores "__ab" "____" "____" "________")
    ∷ [])
    ∷ sentence "a quarter has 1,024 bytes (M-109)" (eqb quarter 1024 ∷ [])
    ∷ sentence "SIZE: text 1 byte at least, recall and held as long as text, side four quarters"
    (sized 4 full_stores
    ∷ sized 4 (stores "_" "_" "_" "________________")
    ∷ not (sized 4 (stores "" "" "" "________________"))
    ∷ not (sized 4 (stores "ab___c" "d____" "______" "________________"))
    ∷ not (sized 4 (stores "ab___c" "d______" "______" "________________"))
    ∷ not (sized 4 (stores "ab___c" "d_____" "_____" "________________"))
    ∷ not (sized 4 (stores "ab___c" "d_____" "_______" "________________"))
    ∷ not (sized 4 (stores "ab___c" "d_____" "" "________________"))
    ∷ not (sized 4 (stores "ab___c" "d_____" "______" "_______________"))
    ∷ not (sized 4 (stores "ab___c" "d_____" "______" "_________________"))
    ∷ [])
    ∷ sentence "FULL: the document has T bytes and the quotation those of a quarter, each at the most"
    (fits 3 3 full ∷ not (fits 2 3 full) ∷ not (fits 3 2 full) ∷ [])
    ∷ sentence "a refused key leaves the state as it was, and the next goes on from there"
    (is_doc (keys 3 4 (Insert 120 ∷ Insert 121 ∷ Insert 9 ∷ Function Move Right Character ∷ []) (opening (bytes "ab"))).main.text "xa|b"
    ∷ is_doc (keys 3 4 (Quote ∷ Insert 120 ∷ Insert 9 ∷ Insert 121 ∷ []) (opening (bytes "ab"))).quoted.text "xy|"
    ∷ [])
    ∷ []

-- ---- Sessions

-- The held pair and the mark are those of the full state.
abbrev pub is_ok : Sizes → Sizes → ℕ → ℕ → ℕ → Mode → String → String → String → Bool
is_ok main quoted xl xr pl mode text recall side =
    editor_ok 4 (lengths main quoted xl xr pl mode 0 5 (Some 1)) (stores text recall "qrstu_" side)

-- The full state with another record, with another store, with another held pair, with another mark.
abbrev pub with_sizes : Sizes → Sizes → ℕ → ℕ → ℕ → Bool
with_sizes main quoted xl xr pl = is_ok main quoted xl xr pl Quoted "ab___c" "d_____" "e_fghi__jkl_mnop"

abbrev pub with_stores : String → String → String → Bool
with_stores text recall side = is_ok (sizes 2 1 0 1) (sizes 1 2 2 0) 2 2 3 Quoted text recall side

abbrev pub with_held : ℕ → ℕ → String → Bool
with_held hl hr held =
    editor_ok 4 (lengths (sizes 2 1 0 1) (sizes 1 2 2 0) 2 2 3 Quoted hl hr (Some 1)) (stores "ab___c" "d_____" held "e_fghi__jkl_mnop")

abbrev pub with_marking : Option ℕ → Bool
with_marking mark = editor_ok 4 (lengths (sizes 2 1 0 1) (sizes 1 2 2 0) 2 2 3 Quoted 0 5 mark) full_stores

-- An empty document with this mark.
abbrev pub is_empty_with : Option ℕ → Bool
is_empty_with mark =
    editor_ok 4 (lengths (sizes 0 0 0 0) (sizes 0 0 0 0) 0 0 0 Main 0 0 mark) (stores "______" "______" "______" "________________")

abbrev pub session_pins : List (Sentence Bool)
session_pins =
    sentence "a session; of the replacement both halves may be there" (editor_ok 4 full_lengths full_stores ∷ [])
    ∷ sentence "lengths fit their areas"
    (not (is_ok (sizes 4 3 0 1) (sizes 1 2 2 0) 2 2 3 Quoted "abcdef" "d_____" "e_fghi__jkl_mnop")
    ∷ not (is_ok (sizes 2 1 0 7) (sizes 1 2 2 0) 2 2 3 Quoted "ab___c" "dddddd" "e_fghi__jkl_mnop")
    ∷ not (is_ok (sizes 2 1 0 1) (sizes 3 2 2 0) 2 2 3 Quoted "ab___c" "d_____" "eefghi__jkl_mnop")
    ∷ not (is_ok (sizes 2 1 0 1) (sizes 1 2 5 0) 2 2 3 Quoted "ab___c" "d_____" "e_fghiiijkl_mnop")
    ∷ not (is_ok (sizes 2 1 0 1) (sizes 1 2 2 0) 2 2 5 Quoted "ab___c" "d_____" "e_fghi__jkllmnop")
    ∷ not (is_ok (sizes 2 1 0 1) (sizes 1 2 2 0) 2 3 3 Quoted "ab___c" "d_____" "e_fghi__jkl_mnop")
    ∷ [])
    ∷ sentence "each free byte is 0"
    (not (with_stores "abx__c" "d_____" "e_fghi__jkl_mnop")
    ∷ not (with_stores "ab__xc" "d_____" "e_fghi__jkl_mnop")
    ∷ not (with_stores "ab___c" "dx____" "e_fghi__jkl_mnop")
    ∷ not (with_stores "ab___c" "d____x" "e_fghi__jkl_mnop")
    ∷ not (with_stores "ab___c" "d_____" "exfghi__jkl_mnop")
    ∷ not (with_stores "ab___c" "d_____" "e_fghi_xjkl_mnop")
    ∷ not (with_stores "ab___c" "d_____" "e_fghi__jklxmnop")
    ∷ not (with_sizes (sizes 2 1 0 1) (sizes 1 2 2 0) 2 1 3)
    ∷ [])
    ∷ sentence "each text byte is allowed"
    (not (with_stores "a\t___c" "d_____" "e_fghi__jkl_mnop")
    ∷ not (with_stores "ab___\t" "d_____" "e_fghi__jkl_mnop")
    ∷ not (with_stores "ab___c" "\t_____" "e_fghi__jkl_mnop")
    ∷ not (with_stores "ab___c" "d_____" "\t_fghi__jkl_mnop")
    ∷ not (with_stores "ab___c" "d_____" "e_fgh\t__jkl_mnop")
    ∷ not (with_stores "ab___c" "d_____" "e_fghi__jk\t_mnop")
    ∷ not (with_stores "ab___c" "d_____" "e_fghi__jkl_\tnop")
    ∷ not (with_stores "ab___c" "d_____" "e_fghi__jkl_mno\t")
    ∷ with_stores "a\n___c" "\n_____" "e_f\nhi__jk\n_m\nop"
    ∷ [])
    ∷ sentence "of each recall pair at least one half is empty"
    (not (is_ok (sizes 2 1 1 1) (sizes 1 2 2 0) 2 2 3 Quoted "ab___c" "dd____" "e_fghi__jkl_mnop")
    ∷ not (with_sizes (sizes 2 1 0 1) (sizes 1 2 1 1) 2 2 3)
    ∷ with_sizes (sizes 2 1 1 0) (sizes 1 2 0 2) 2 2 3
    ∷ [])
    ∷ sentence "the held pair is under the recall pair's rule: it fits, its bytes are allowed, free bytes are 0, one half is empty (M-101)"
    (with_held 5 0 "qrstu_"
    ∷ with_held 0 5 "qrstu_"
    ∷ with_held 0 0 "______"
    ∷ with_held 6 0 "qrstuv"
    ∷ with_held 0 6 "qrst\nv"
    ∷ not (with_held 7 0 "qrstuv")
    ∷ not (with_held 0 7 "qrstuv")
    ∷ not (with_held 5 0 "qrst\t_")
    ∷ not (with_held 0 5 "\trstu_")
    ∷ not (with_held 5 0 "qrstux")
    ∷ not (with_held 0 4 "qrstu_")
    ∷ not (with_held 0 0 "_____x")
    ∷ not (with_held 6 0 "qrstu_")
    ∷ not (with_held 4 1 "qrstu_")
    ∷ not (with_held 1 1 "qr____")
    ∷ [])
    ∷ sentence "the mark is within the document, and both of the document's ends are; or there is none (M-101)"
    (with_marking None
    ∷ with_marking (Some 0)
    ∷ with_marking (Some 2)
    ∷ with_marking (Some 3)
    ∷ not (with_marking (Some 4))
    ∷ not (with_marking (Some 6))
    ∷ is_empty_with None
    ∷ is_empty_with (Some 0)
    ∷ not (is_empty_with (Some 1))
    ∷ [])
    ∷ sentence "in mode MAIN the quotation and its recall text are empty"
    (is_ok (sizes 2 1 0 1) (sizes 0 0 0 0) 2 2 3 Main "ab___c" "d_____" "________jkl_mnop"
    ∷ not (is_ok (sizes 2 1 0 1) (sizes 1 0 0 0) 2 2 3 Main "ab___c" "d_____" "e_______jkl_mnop")
    ∷ not (is_ok (sizes 2 1 0 1) (sizes 0 1 0 0) 2 2 3 Main "ab___c" "d_____" "___e____jkl_mnop")
    ∷ not (is_ok (sizes 2 1 0 1) (sizes 0 0 1 0) 2 2 3 Main "ab___c" "d_____" "____e___jkl_mnop")
    ∷ not (is_ok (sizes 2 1 0 1) (sizes 0 0 0 1) 2 2 3 Main "ab___c" "d_____" "____e___jkl_mnop")
    ∷ [])
    ∷ []
