-- The definitions give each example of the host's numbers.
use mathlib.Core.Path.{◌≡◌, refl}
use mathlib.Core.Bool.{true, false}
use mathlib.Core.List.{map}
use Rattle.gap.specs.Rules.Sequence.{every, same_bytes, begins, part, zeros, counted}
use Rattle.gap.specs.Rules.Strings.{bytes}
use Rattle.gap.specs.Rules.Doc.{move, delete, times, passed, removed, splice}
use Rattle.gap.specs.Rules.Nearest.{nearest, distance}
use Rattle.gap.specs.Rules.Lines.{newlines, since_after, lines}
use Rattle.gap.specs.Rules.Layout.{gapped, paired, ungap, unpair, sound_gap, sound_pair}
use Rattle.gap.specs.Rules.LineLimits.{none_longer, lines_fit, long_line}
use Rattle.gap.specs.Rules.Fields.{line_of, line_at}
use Rattle.editor.specs.Rules.LongLines.{longest_line}
use Rattle.editor.specs.Rules.Passages.{with_lines, passage_to}
use Rattle.editor.specs.Rules.Places.{line_beginning, line_ending, word, document_end, is_at}
use Rattle.editor.specs.Rules.Marks.{mark_through}
use Rattle.editor.specs.Rules.Keys.{sound_key, inserted, carried, function, recalled, on_side, quoted, with_pattern, searched, found}
use Rattle.editor.specs.Rules.Keys.{with_replacement, exchanged, substituted, replaced, marked_here, cut_to, pasted, acted, change_of, pressed, fits, bounded, key}
use Rattle.editor.specs.Rules.Bytes.{quarter, sized, plain_of, lengths_of, stores_of, editor_ok}
use Rattle.window.specs.Rules.Window.{virtual_in, row_cells, joined, window, visible, policy}
use Rattle.window.specs.Rules.Rows.{first_row, last_row}
use Rattle.window.specs.Rules.Core.{tabled, is_session, opened_text, opened, shown, finished, keyed}
use Rattle.window.specs.Rules.Host.{no_mark, none, key_from, key_of, names, host_opened, host_keyed}
use Rattle.window.specs.Tables.HostNumbers.{key_rows, no_keys, said, pressed_on, last_reply, call_rows, refused_reply, refused_rows}

-- Which number is which kind, action, direction and place.
pub keys-numbered : map (λ row. key_of row.numbers) key_rows ≡ map (λ row. row.key) key_rows
unfolding key_from
keys-numbered = refl

-- All of these name a key. One more than the largest names none, and is taken for none.
pub names-numbered : (map (λ row. names row.numbers) key_rows ≡ map (λ row. true) key_rows)
    × ((map names no_keys ≡ map (λ x. false) no_keys) × (map key_of no_keys ≡ map (λ x. none) no_keys))
unfolding key_from
names-numbered = (refl, (refl, refl))

-- What calls answer and hand back, and how a record that is no session is refused: SIZE, SESSION, KEY, and the record back as it was.
pub calls-numbered : (map last_reply call_rows ≡ map (λ row. row.reply) call_rows)
    × (map refused_reply refused_rows ≡ map (λ row. record { said = said row.code 0 0 0 0 0 0 0 0; back = row.handed }) refused_rows)
unfolding every same_bytes begins part zeros counted move delete times passed splice nearest distance with_lines passage_to newlines since_after
    lines gapped paired ungap unpair sound_gap sound_pair line_beginning line_ending word document_end is_at sound_key inserted removed carried
    function recalled on_side quoted with_pattern searched found with_replacement exchanged substituted replaced marked_here cut_to pasted acted
    change_of mark_through pressed fits bounded key quarter sized plain_of lengths_of stores_of editor_ok lines_fit none_longer longest_line
    virtual_in row_cells joined window visible policy first_row last_row tabled is_session opened_text opened long_line line_at line_of shown
    finished keyed bytes no_mark key_from host_opened host_keyed pressed_on last_reply refused_reply
calls-numbered = (refl, refl)
