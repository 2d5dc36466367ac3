-- The definitions give each edge that document 01 marks with P, through opening and keys on bytes.
use mathlib.Core.Path.{◌≡◌, refl}
use mathlib.Core.Bool.{true}
use Rattle.gap.specs.Rules.Sequence.{every, same_bytes, begins, part, zeros, counted}
use Rattle.gap.specs.Rules.Strings.{bytes}
use Rattle.gap.specs.Rules.Doc.{move, delete, times, passed, removed, splice}
use Rattle.gap.specs.Rules.Nearest.{nearest, distance}
use Rattle.gap.specs.Rules.Lines.{newlines, since_after, lines}
use Rattle.gap.specs.Rules.Layout.{gapped, paired, ungap, unpair, sound_gap, sound_pair}
use Rattle.gap.specs.Tables.Written.{marked_after}
use Rattle.gap.specs.Rules.LineLimits.{none_longer, lines_fit, long_line}
use Rattle.gap.specs.Rules.Fields.{line_of, line_at}
use Rattle.editor.specs.Rules.LongLines.{longest_line}
use Rattle.editor.specs.Rules.Passages.{with_lines, passage_to}
use Rattle.editor.specs.Rules.Places.{line_beginning, line_ending, word, document_end, is_at}
use Rattle.editor.specs.Rules.Marks.{mark_through}
use Rattle.editor.specs.Rules.Keys.{sound_key, inserted, carried, function, recalled, on_side, quoted, with_pattern, searched, found}
use Rattle.editor.specs.Rules.Keys.{with_replacement, exchanged, substituted, replaced, marked_here, cut_to, pasted, acted, change_of, pressed, fits, bounded, key}
use Rattle.editor.specs.Rules.Bytes.{quarter, sized, plain_of, lengths_of, stores_of, editor_ok}
use Rattle.window.specs.Rules.Window.{virtual_in, row_cells, joined, window, visible, policy}
use Rattle.window.specs.Rules.Rows.{first_row, last_row}
use Rattle.window.specs.Rules.Core.{tabled, is_session, opened_text, opened, shown, finished, keyed}
use Rattle.window.specs.Tables.Table.{pressing, moving, outcome, holds, all_hold, right, edges, requested}

pub edges-right : right edges ≡ true
unfolding every same_bytes begins part zeros counted move delete times passed splice nearest distance with_lines passage_to newlines since_after
    lines gapped paired ungap unpair sound_gap sound_pair line_beginning line_ending word document_end is_at sound_key inserted removed carried
    function recalled on_side quoted with_pattern searched found with_replacement exchanged substituted replaced marked_here cut_to pasted acted
    change_of mark_through pressed fits bounded key quarter sized plain_of lengths_of stores_of editor_ok lines_fit none_longer longest_line
    virtual_in row_cells joined window visible policy first_row last_row tabled is_session opened_text opened long_line line_at line_of shown
    finished keyed bytes marked_after pressing moving outcome holds all_hold right
edges-right = refl

-- So do they with what the change requests tell of.
pub requests-right : right requested ≡ true
unfolding every same_bytes begins part zeros counted move delete times passed splice nearest distance with_lines passage_to newlines since_after
    lines gapped paired ungap unpair sound_gap sound_pair line_beginning line_ending word document_end is_at sound_key inserted removed carried
    function recalled on_side quoted with_pattern searched found with_replacement exchanged substituted replaced marked_here cut_to pasted acted
    change_of mark_through pressed fits bounded key quarter sized plain_of lengths_of stores_of editor_ok lines_fit none_longer longest_line
    virtual_in row_cells joined window visible policy first_row last_row tabled is_session opened_text opened long_line line_at line_of shown
    finished keyed bytes marked_after pressing moving outcome holds all_hold right
requests-right = refl
