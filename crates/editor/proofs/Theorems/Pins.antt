-- The definitions of this layer give each example of its tables.
use mathlib.Core.Path.{◌≡◌, refl}
use mathlib.Core.Bool.{false}
use mathlib.Core.List.{[], ◌++◌}
use Prim.Native.Nat.{ℕ}
use lib.ListN.{length}
use Rattle.gap.specs.Rules.Sequence.{every, same_bytes, begins, part, zeros}
use Rattle.gap.specs.Rules.Strings.{bytes}
use Rattle.gap.specs.Rules.Doc.{move, delete, times, passed, removed, splice}
use Rattle.gap.specs.Rules.Nearest.{nearest, distance}
use Rattle.gap.specs.Rules.Lines.{newlines, since_after, lines}
use Rattle.gap.specs.Rules.LineLimits.{none_longer, lines_fit}
use Rattle.gap.specs.Rules.Indents.{spaces, leading, indent}
use Rattle.gap.specs.Rules.Layout.{gapped, paired, ungap, unpair, sound_gap, sound_pair}
use Rattle.gap.specs.Tables.Sentence.{all_of, broken, itself}
use Rattle.gap.specs.Tables.Written.{marked_after, stored_as}
use Rattle.editor.specs.Words.{Lengths}
use Rattle.editor.specs.Rules.Plain.{Plain, Did, refused, done}
use Rattle.editor.specs.Rules.Passages.{with_lines, passage_to}
use Rattle.editor.specs.Rules.Places.{line_beginning, line_ending, word, document_end, is_at}
use Rattle.editor.specs.Rules.LongLines.{longest_line}
use Rattle.editor.specs.Rules.Marks.{mark_through}
use Rattle.editor.specs.Rules.Indents.{inserted_run, newlined, tabbed}
use Rattle.editor.specs.Rules.Keys.{sound_key, inserted, carried, function, recalled, on_side, quoted, with_pattern, searched, found}
use Rattle.editor.specs.Rules.Keys.{with_replacement, exchanged, substituted, replaced, marked_here, cut_to, pasted, acted, change_of, pressed}
use Rattle.editor.specs.Rules.Keys.{fits, bounded, key, keys}
use Rattle.editor.specs.Rules.Bytes.{Stores, quarter, sized, plain_of, lengths_of, stores_of, editor_ok, edited_to}
use Rattle.editor.specs.Tables.KeyExamples.{unmarked, mark_after, states, states_all, seeing, seen_in, on_plain}
use Rattle.editor.specs.Tables.KeyPins.{place_pins, edit_pins}
use Rattle.editor.specs.Tables.QuotationPins.{quotation_pins, search_pins, replace_pins}
use Rattle.editor.specs.Tables.MarkPins.{mark_pins, change_pins}
use Rattle.editor.specs.Tables.CutPins.{cut_pins, paste_pins}
use Rattle.editor.specs.Tables.IndentPins.{newline_pins, tab_pins, indent_pins, max0, margin_pins}
use Rattle.editor.specs.Tables.LinePins.{line_pins}
use Rattle.editor.specs.Tables.SessionPins.{layout_pins, session_pins}

pub places-pinned : broken on_plain place_pins ≡ []
unfolding same_bytes bytes move delete times nearest distance passed with_lines passage_to newlines all_of broken marked_after line_beginning
    line_ending word document_end is_at sound_key carried function on_side acted change_of mark_through pressed lines_fit none_longer lines longest_line
    fits bounded key quarter unmarked mark_after states states_all seeing seen_in on_plain
places-pinned = refl

pub edits-pinned : broken on_plain edit_pins ≡ []
unfolding same_bytes bytes move delete times passed removed splice nearest distance with_lines passage_to newlines all_of broken marked_after
    line_beginning line_ending word document_end is_at sound_key inserted carried function recalled on_side quoted acted change_of mark_through pressed
    lines_fit none_longer lines longest_line fits bounded key quarter unmarked mark_after states states_all seeing seen_in on_plain
edits-pinned = refl

pub quotations-pinned : broken on_plain quotation_pins ≡ []
unfolding same_bytes bytes move delete times passed removed splice nearest distance with_lines passage_to newlines all_of broken marked_after
    line_beginning word is_at sound_key inserted carried function recalled on_side quoted acted change_of mark_through pressed lines_fit none_longer
    lines longest_line fits bounded key quarter unmarked mark_after states states_all seeing seen_in on_plain
quotations-pinned = refl

pub searches-pinned : broken on_plain search_pins ≡ []
unfolding same_bytes begins bytes move delete times passed removed splice nearest distance with_lines passage_to newlines all_of broken
    marked_after is_at sound_key inserted carried function on_side quoted with_pattern searched found with_replacement exchanged substituted replaced
    acted change_of mark_through pressed lines_fit none_longer lines longest_line fits bounded key quarter unmarked mark_after states states_all seeing
    seen_in on_plain
searches-pinned = refl

pub replacements-pinned : broken on_plain replace_pins ≡ []
unfolding same_bytes begins bytes move delete times passed removed splice nearest distance with_lines passage_to newlines all_of broken
    marked_after is_at sound_key inserted carried function on_side quoted with_pattern searched found with_replacement exchanged substituted replaced
    acted change_of mark_through pressed lines_fit none_longer lines longest_line fits bounded key quarter unmarked mark_after states states_all seeing
    seen_in on_plain
replacements-pinned = refl

pub marks-pinned : broken on_plain (mark_pins ++ (cut_pins ++ paste_pins)) ≡ []
unfolding same_bytes begins bytes move delete times passed removed splice nearest distance with_lines passage_to newlines all_of broken
    marked_after line_beginning word document_end is_at sound_key inserted carried function recalled on_side quoted with_pattern searched found
    with_replacement exchanged substituted replaced marked_here cut_to pasted acted change_of mark_through pressed lines_fit none_longer lines
    longest_line fits bounded key quarter unmarked mark_after states states_all seeing seen_in on_plain
marks-pinned = refl

pub changes-pinned : broken itself change_pins ≡ []
unfolding same_bytes begins bytes move delete times passed removed splice nearest distance with_lines passage_to newlines all_of broken
    marked_after line_beginning word document_end is_at sound_key inserted carried function recalled on_side quoted with_pattern searched found
    with_replacement exchanged substituted replaced marked_here cut_to pasted acted change_of mark_through pressed lines_fit none_longer lines
    longest_line fits bounded key quarter unmarked mark_after seeing seen_in
changes-pinned = refl

pub indents-pinned : broken on_plain (newline_pins ++ tab_pins) ≡ []
unfolding same_bytes bytes move delete times passed removed splice nearest distance with_lines passage_to newlines since_after spaces leading
    indent all_of broken marked_after is_at sound_key inserted carried function recalled on_side quoted marked_here inserted_run newlined tabbed acted
    change_of mark_through pressed lines_fit none_longer lines longest_line fits bounded key quarter unmarked mark_after states states_all seeing
    seen_in on_plain
indents-pinned = refl

pub indent-changes-pinned : broken itself indent_pins ≡ []
unfolding same_bytes bytes move times splice since_after spaces leading indent all_of broken marked_after is_at sound_key inserted on_side quoted
    inserted_run newlined tabbed acted change_of mark_through pressed lines_fit none_longer lines longest_line fits bounded key quarter unmarked
    mark_after seeing seen_in
indent-changes-pinned = refl

pub margins-pinned : broken itself margin_pins ≡ []
unfolding same_bytes bytes move times nearest since_after leading indent line_beginning word max0 all_of broken marked_after
margins-pinned = refl

pub lines-pinned : broken itself line_pins ≡ []
unfolding every same_bytes begins part zeros bytes move delete times passed removed splice nearest distance with_lines passage_to newlines
    since_after spaces leading indent ungap unpair sound_gap sound_pair all_of broken marked_after is_at document_end sound_key inserted carried
    function recalled on_side quoted with_replacement exchanged substituted replaced marked_here cut_to pasted inserted_run newlined tabbed acted
    change_of mark_through pressed lines_fit none_longer lines longest_line fits bounded key quarter editor_ok seeing
lines-pinned = refl

pub layouts-pinned : broken itself layout_pins ≡ []
unfolding same_bytes part zeros bytes move times splice nearest distance passed with_lines passage_to newlines gapped paired ungap unpair all_of
    broken marked_after stored_as is_at sound_key inserted carried function on_side quoted acted change_of mark_through pressed lines_fit none_longer
    lines longest_line fits bounded key keys quarter sized plain_of lengths_of stores_of
layouts-pinned = refl

pub sessions-pinned : broken itself session_pins ≡ []
unfolding every same_bytes part bytes ungap unpair sound_gap sound_pair all_of broken stored_as lines_fit none_longer lines longest_line editor_ok
sessions-pinned = refl

-- 01, what a refused key leaves, as this layer says it: the record and the stores it was given, no steps, no lines and no bell.
pub refused-edit : (Q : ℕ) (n : Lengths) (b : Stores) (code : ℕ) → edited_to Q n b (refused code) ≡ record {
  reply = record { code = code; report = record { steps = 0; lines = 0; bell = false }; lengths = n };
  stores = b;
}
refused-edit Q n b code = refl

-- A key that is done: its report, and the plain state written down.
pub done-edit : (Q : ℕ) (n : Lengths) (b : Stores) (did : Did Plain) → edited_to Q n b (done did) ≡ record {
  reply = record { code = 0; report = did.report; lengths = lengths_of did.state };
  stores = stores_of (length b.text) Q did.state;
}
done-edit Q n b did = refl
