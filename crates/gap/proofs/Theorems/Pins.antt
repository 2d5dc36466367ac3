-- The definitions of this layer give each example of the table.
use mathlib.Core.Path.{◌≡◌, refl}
use mathlib.Core.List.{[]}
use Rattle.gap.specs.Rules.Sequence.{every, same_bytes, begins, part, patch, zeros, counted}
use Rattle.gap.specs.Rules.Strings.{bytes}
use Rattle.gap.specs.Rules.Checks.{first_failed}
use Rattle.gap.specs.Rules.Doc.{move, delete, times, passed, removed, splice}
use Rattle.gap.specs.Rules.Nearest.{nearest, distance}
use Rattle.gap.specs.Rules.Lines.{newlines, since_after, lines}
use Rattle.gap.specs.Rules.Indents.{spaces, leading, indent}
use Rattle.gap.specs.Rules.Layout.{gapped, paired, ungap, unpair, sound_gap, sound_pair}
use Rattle.gap.specs.Rules.Decimal.{value_after, is_number, number_of, digits_in, decimal}
use Rattle.gap.specs.Rules.Fields.{line_of, line_at, end_at, next_at, line_number, field_of, header_at, entry}
use Rattle.gap.specs.Rules.LineLimits.{none_longer, lines_fit, long_line}
use Rattle.gap.specs.Wording.LinesAfter.{lines_fit_after}
use Rattle.gap.specs.Tables.Sentence.{all_of, broken, itself}
use Rattle.gap.specs.Tables.Written.{marked_after, stored_as}
use Rattle.gap.specs.Tables.Pins.{sequence_pins, document_pins, line_pins, store_pins, number_pins, limit_pins}

pub sequences-pinned : broken itself sequence_pins ≡ []
unfolding every same_bytes begins part patch zeros counted bytes first_failed all_of broken
sequences-pinned = refl

pub documents-pinned : broken itself document_pins ≡ []
unfolding same_bytes bytes move delete times passed removed splice nearest distance all_of broken marked_after
documents-pinned = refl

pub lines-pinned : broken itself line_pins ≡ []
unfolding same_bytes bytes newlines since_after lines spaces leading indent all_of broken marked_after
lines-pinned = refl

pub stores-pinned : broken itself store_pins ≡ []
unfolding every same_bytes part zeros counted bytes gapped paired ungap unpair sound_gap sound_pair all_of broken marked_after stored_as
stores-pinned = refl

pub numbers-pinned : broken itself number_pins ≡ []
unfolding every same_bytes begins bytes newlines value_after is_number number_of digits_in decimal line_of line_at end_at next_at line_number field_of
    header_at entry all_of broken
numbers-pinned = refl

pub limits-pinned : broken itself limit_pins ≡ []
unfolding bytes nearest lines line_of line_at none_longer lines_fit long_line lines_fit_after all_of broken
limits-pinned = refl
