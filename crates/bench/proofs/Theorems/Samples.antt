-- The definitions print what document 01's sample prints, and what each script that ends early prints.
use mathlib.Core.Path.{◌≡◌, refl}
use mathlib.Core.Bool.{true}
use Rattle.gap.specs.Rules.Sequence.{every, same_bytes, begins, part, patch, zeros, counted}
use Rattle.gap.specs.Rules.Strings.{bytes}
use Rattle.gap.specs.Rules.Doc.{move, delete, times, passed, removed, splice}
use Rattle.gap.specs.Rules.Nearest.{nearest, distance}
use Rattle.gap.specs.Rules.Lines.{newlines, since_after, lines}
use Rattle.gap.specs.Rules.Layout.{gapped, paired, ungap, unpair, sound_gap, sound_pair}
use Rattle.gap.specs.Rules.Decimal.{value_after, is_number, number_of, digits_in, decimal}
use Rattle.gap.specs.Rules.Fields.{line_of, line_at, end_at, next_at, line_number, field_of, header_at, entry}
use Rattle.gap.specs.Rules.LineLimits.{none_longer, lines_fit, long_line}
use Rattle.editor.specs.Rules.LongLines.{longest_line}
use Rattle.editor.specs.Rules.Passages.{with_lines, passage_to}
use Rattle.editor.specs.Rules.Places.{line_beginning, line_ending, word, document_end, is_at}
use Rattle.editor.specs.Rules.Marks.{mark_through}
use Rattle.editor.specs.Rules.Keys.{marked_here, cut_to, pasted, acted, change_of}
use Rattle.editor.specs.Rules.Keys.{sound_key, inserted, carried, function, recalled, on_side, quoted, with_pattern, searched, found}
use Rattle.editor.specs.Rules.Keys.{with_replacement, exchanged, substituted, replaced, pressed, fits, bounded, key}
use Rattle.editor.specs.Rules.Bytes.{quarter, sized, plain_of, lengths_of, stores_of, editor_ok}
use Rattle.window.specs.Rules.Window.{virtual_in, row_cells, joined, window, visible, policy}
use Rattle.window.specs.Rules.Rows.{first_row, last_row}
use Rattle.window.specs.Rules.Core.{tabled, is_session, opened_text, opened, shown, finished, keyed}
use Rattle.bench.specs.Rules.Names.{combinations, function_named, indent_named, mark_named, key_named}
use Rattle.bench.specs.Rules.Script.{text_there, heading_of, key_of, reading_at}
use Rattle.bench.specs.Rules.Print.{rows_of, accepted_block, refused_block, block, script_line}
use Rattle.bench.specs.Rules.Run.{beginning, opening_turn, pressed_turn, next_turn, turns, fresh, output}
use Rattle.bench.specs.Tables.Samples.{samples, printed}

pub samples-printed : printed samples ≡ true
unfolding every same_bytes begins part patch zeros counted bytes move delete times passed removed splice nearest distance with_lines passage_to
    newlines since_after lines gapped paired ungap unpair sound_gap sound_pair value_after is_number number_of digits_in decimal line_beginning
    line_ending word document_end is_at sound_key inserted carried function recalled on_side quoted with_pattern searched found with_replacement
    exchanged substituted replaced mark_through marked_here cut_to pasted acted change_of pressed fits bounded key quarter sized plain_of
    lengths_of stores_of editor_ok lines_fit none_longer longest_line virtual_in row_cells joined window visible policy first_row last_row tabled
    is_session opened_text opened long_line line_at line_of shown finished keyed combinations function_named indent_named mark_named key_named end_at
    next_at line_number field_of header_at text_there heading_of key_of reading_at entry rows_of accepted_block refused_block block script_line
    beginning opening_turn pressed_turn next_turn turns fresh output printed
samples-printed = refl
