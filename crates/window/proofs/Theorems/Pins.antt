-- The definitions give each example of the tables, through opening and keys on bytes.
use Rattle.std.proofs.Common.{None}
use mathlib.Core.Path.{◌≡◌, refl}
use mathlib.Core.Bool.{false}
use mathlib.Core.List.{[], ◌++◌}
use Prim.Native.Nat.{ℕ}
use Rattle.gap.specs.Rules.Sequence.{every, same_bytes, begins, part, patch, zeros, counted}
use Rattle.gap.specs.Rules.Strings.{bytes}
use Rattle.gap.specs.Rules.Doc.{move, delete, times, passed, removed, splice}
use Rattle.gap.specs.Rules.Nearest.{nearest, distance}
use Rattle.gap.specs.Rules.Lines.{newlines, since_after, lines}
use Rattle.gap.specs.Rules.Layout.{gapped, paired, ungap, unpair, sound_gap, sound_pair}
use Rattle.gap.specs.Rules.Decimal.{digits_in, decimal}
use Rattle.gap.specs.Tables.Sentence.{all_of, broken, itself}
use Rattle.gap.specs.Tables.Written.{marked_after, stored_as}
use Rattle.gap.specs.Rules.LineLimits.{none_longer, lines_fit, long_line}
use Rattle.gap.specs.Rules.Fields.{line_of, line_at}
use Rattle.editor.specs.Rules.LongLines.{longest_line}
use Rattle.editor.specs.Rules.Passages.{with_lines, passage_to}
use Rattle.editor.specs.Rules.Places.{line_beginning, line_ending, word, document_end, is_at}
use Rattle.editor.specs.Rules.Marks.{mark_through}
use Rattle.editor.specs.Rules.Keys.{sound_key, inserted, carried, function, recalled, on_side, quoted, with_pattern, searched, found}
use Rattle.editor.specs.Rules.Keys.{with_replacement, exchanged, substituted, replaced, marked_here, cut_to, pasted, acted, change_of, pressed, fits, bounded, key}
use Rattle.editor.specs.Rules.Bytes.{quarter, sized, plain_of, lengths_of, stores_of, editor_ok}
use Rattle.editor.specs.Tables.KeyExamples.{unmarked, mark_after, states, states_all}
use Rattle.editor.specs.Tables.KeyPins.{place_pins, edit_pins}
use Rattle.editor.specs.Tables.QuotationPins.{quotation_pins, search_pins, replace_pins}
use Rattle.editor.specs.Tables.CutPins.{cut_pins, paste_pins}
use Rattle.window.specs.Words.{Main, Session}
use Rattle.window.specs.Rules.Window.{virtual_in, row_cells, joined, window, visible, policy}
use Rattle.window.specs.Rules.Rows.{first_row, last_row}
use Rattle.window.specs.Rules.Core.{Lent, tabled, is_session, unopened, opened_text, opened, turned_down, shown, finished, keyed}
use Rattle.window.specs.Rules.Sequences.{sent_spot, sent_row, sent_rows, sent_screen}
use Rattle.window.specs.Rules.Sending.{sendable, sending}
use Rattle.window.specs.Rules.Terminal.{repaint, struck, typed, viewed}
use Rattle.window.specs.Rules.Machine.{step, feed, opened_line, struck_line, typed_line}
use Rattle.window.specs.Tables.Table.{pressing, moving, outcome, holds, all_hold}
use Rattle.window.specs.Tables.WindowPins.{is_right, window_pins}
use Rattle.window.specs.Tables.BytesPins.{editing_bytes, on_bytes}
use Rattle.window.specs.Tables.CallPins.{size_pins, opening_pins, call_pins}
use Rattle.window.specs.Tables.TerminalPins.{terminal_pins}

pub windows-pinned : broken is_right window_pins ≡ []
unfolding every same_bytes begins part zeros counted move delete times passed splice nearest distance with_lines passage_to newlines since_after
    lines gapped paired ungap unpair sound_gap sound_pair line_beginning line_ending word document_end is_at sound_key inserted removed carried
    function recalled on_side quoted with_pattern searched found with_replacement exchanged substituted replaced marked_here cut_to pasted acted
    change_of mark_through pressed fits bounded key quarter sized plain_of lengths_of stores_of editor_ok lines_fit none_longer longest_line
    virtual_in row_cells joined window visible policy first_row last_row tabled is_session opened_text opened long_line line_at line_of shown
    finished keyed bytes marked_after pressing moving outcome holds all_hold all_of broken
windows-pinned = refl

pub calls-pinned : broken itself (size_pins ++ (opening_pins ++ call_pins)) ≡ []
unfolding every same_bytes begins part zeros counted move delete times passed splice nearest distance with_lines passage_to newlines since_after
    lines gapped paired ungap unpair sound_gap sound_pair line_beginning line_ending word document_end is_at sound_key inserted removed carried
    function recalled on_side quoted with_pattern searched found with_replacement exchanged substituted replaced marked_here cut_to pasted acted
    change_of mark_through pressed fits bounded key quarter sized plain_of lengths_of stores_of editor_ok lines_fit none_longer longest_line
    virtual_in row_cells joined window visible policy first_row last_row tabled is_session opened_text opened long_line line_at line_of shown
    finished keyed bytes stored_as all_of broken
calls-pinned = refl

pub terminals-pinned : broken itself terminal_pins ≡ []
unfolding every same_bytes begins part patch zeros counted move delete times passed splice nearest distance with_lines passage_to newlines
    since_after lines gapped paired ungap unpair sound_gap sound_pair line_beginning line_ending word document_end is_at sound_key inserted removed
    carried function recalled on_side quoted with_pattern searched found with_replacement exchanged substituted replaced marked_here cut_to
    pasted acted change_of mark_through pressed fits bounded key quarter sized plain_of lengths_of stores_of editor_ok lines_fit none_longer
    longest_line virtual_in row_cells joined window visible policy first_row last_row tabled is_session opened_text opened long_line line_at line_of
    shown finished keyed bytes stored_as digits_in decimal sent_spot sent_row sent_rows sent_screen sendable sending repaint struck typed viewed
    step feed opened_line struck_line typed_line all_of broken
terminals-pinned = refl

pub keys-on-bytes : broken on_bytes (place_pins ++ (edit_pins ++ (quotation_pins ++ (search_pins ++ replace_pins)))) ≡ []
unfolding every same_bytes begins part zeros move delete times passed splice nearest distance with_lines passage_to newlines gapped paired ungap unpair
    sound_gap sound_pair line_beginning line_ending word document_end is_at sound_key inserted removed carried function recalled on_side quoted
    with_pattern searched found with_replacement exchanged substituted replaced marked_here cut_to pasted acted change_of mark_through pressed fits
    bounded key sized plain_of lengths_of stores_of editor_ok lines_fit none_longer longest_line lines bytes marked_after unmarked mark_after states states_all editing_bytes on_bytes all_of broken
keys-on-bytes = refl

pub cuts-on-bytes : broken on_bytes cut_pins ≡ []
unfolding every same_bytes begins part zeros move delete times passed splice nearest distance with_lines passage_to newlines gapped paired ungap unpair
    sound_gap sound_pair line_beginning line_ending word document_end is_at sound_key inserted removed carried function recalled on_side quoted
    with_pattern searched found with_replacement exchanged substituted replaced marked_here cut_to pasted acted change_of mark_through pressed fits
    bounded key sized plain_of lengths_of stores_of editor_ok lines_fit none_longer longest_line lines bytes marked_after unmarked mark_after states states_all editing_bytes on_bytes all_of broken
cuts-on-bytes = refl

pub pastes-on-bytes : broken on_bytes paste_pins ≡ []
unfolding every same_bytes begins part zeros move delete times passed splice nearest distance with_lines passage_to newlines gapped paired ungap unpair
    sound_gap sound_pair line_beginning line_ending word document_end is_at sound_key inserted removed carried function recalled on_side quoted
    with_pattern searched found with_replacement exchanged substituted replaced marked_here cut_to pasted acted change_of mark_through pressed fits
    bounded key sized plain_of lengths_of stores_of editor_ok lines_fit none_longer longest_line lines bytes marked_after unmarked mark_after states states_all editing_bytes on_bytes all_of broken
pastes-on-bytes = refl

-- 01, what a refusal leaves: all five stores as they were; steps, bell, named rows and cursor 0; after opening a record of zeros in mode
-- MAIN with no mark, after a key the record it was given. Every refusal is one of these (opening-leaves, key-leaves in Theorems/Refusals).
pub refused-opening : (b : Lent) (code place : ℕ) → unopened b code place ≡ record {
  answer = record { code = code; place = place; report = record { steps = 0; lines = 0; bell = false }; first = 0; last = 0; row = 0; column = 0 };
  session = record {
    lengths = record {
      main = record { l = 0; r = 0; rl = 0; rr = 0 };
      quoted = record { l = 0; r = 0; rl = 0; rr = 0 };
      xl = 0;
      xr = 0;
      pl = 0;
      mode = Main;
      hl = 0;
      hr = 0;
      mark = None;
    };
    frame = record { r = 0; c = 0; h = 0; w = 0 };
  };
  lent = b;
}
refused-opening b code place = refl

pub refused-key : (s : Session) (b : Lent) (code : ℕ) → turned_down s b code ≡ record {
  answer = record { code = code; place = 0; report = record { steps = 0; lines = 0; bell = false }; first = 0; last = 0; row = 0; column = 0 };
  session = s;
  lent = b;
}
refused-key s b code = refl
