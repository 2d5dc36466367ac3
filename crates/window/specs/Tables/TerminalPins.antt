-- What the third demand and M-100 say of a terminal that is kept up to date, with examples.
use Rattle.std.specs.Prelude.{List, [], ◌∷◌, Bool, ◌*◌}
use Rattle.window.specs.Words.{LineBeginning, Key, Insert}
use Rattle.gap.specs.Rules.Sequence.{zeros}
use Rattle.gap.specs.Rules.Strings.{bytes}
use Rattle.gap.specs.Tables.Sentence.{Sentence, sentence}
use Rattle.gap.specs.Tables.Written.{stored, is_bytes}
use Rattle.editor.specs.Rules.Bytes.{quarter}
use Rattle.editor.specs.Tables.KeyExamples.{move_right}
use Rattle.window.specs.Rules.Core.{Lent, opened}
use Rattle.window.specs.Rules.Terminal.{repaint, opened_bench, typed, opening_view, viewed, picture}
use Rattle.window.specs.Rules.Machine.{opened_line, typed_line, showing}
use Rattle.window.specs.Tables.SendSamples.{seen, is_seen, dots}

-- A deck of two rows and three columns, in stores of four bytes.
abbrev pub deck : Lent
deck =
    record { stores = record { text = stored "a\nb_"; recall = zeros 4; held = zeros 4; side = zeros (4 * quarter) }; screen = zeros 6 }

-- To the second line; an insert, one that is refused with KEY, and one that is refused with FULL.
abbrev pub strokes : List Key
strokes = move_right LineBeginning ∷ Insert 120 ∷ Insert 9 ∷ Insert 121 ∷ []

abbrev pub terminal_pins : List (Sentence Bool)
terminal_pins =
    sentence "a terminal repaints the named rows from the screen, and the others stay"
    (is_bytes (repaint 2 2 3 (bytes "aabbccdd") (bytes "........")) "..bbcc.."
    ∷ is_bytes (repaint 2 1 1 (bytes "aabbccdd") (bytes "........")) "aa......"
    ∷ is_bytes (repaint 2 4 4 (bytes "aabbccdd") (bytes "........")) "......dd"
    ∷ is_bytes (repaint 2 0 0 (bytes "aabbccdd") (bytes "........")) "........"
    ∷ [])
    ∷ sentence "at opening it is given the full screen; each key's named rows go to it, refused ones skipped"
    (is_bytes (opened_bench 3 2 3 deck).terminal "a  b  "
    ∷ is_bytes (typed strokes (opened_bench 3 2 3 deck)).terminal "a  xb "
    ∷ is_bytes (typed strokes (record { called = opened 3 2 3 deck; terminal = bytes "......" })).terminal "...xb "
    ∷ [])
    ∷ sentence "the plain document after the same keys, refused ones skipped"
    (is_bytes (picture (viewed 4 strokes (opening_view 3 2 3 deck))) "a  xb " ∷ is_bytes (picture (opening_view 3 2 3 deck)) "a  b  " ∷ [])
    ∷ sentence "M-100: the terminal at the end of a line shows the screen, with the cursor's column plus 1"
    (is_seen (seen "a  b  " 1 1) (opened_line 3 2 3 deck (zeros 50) (dots 2 3)).terminal
    ∷ is_seen (seen "a  xb " 2 2) (typed_line strokes (opened_line 3 2 3 deck (zeros 50) (dots 2 3))).terminal
    ∷ is_seen (seen "a  xb " 2 2) (showing (viewed 4 strokes (opening_view 3 2 3 deck)))
    ∷ [])
    ∷ []
