-- The refusals by number and name. In which order a call gives them is a list of checks (gap/specs/Rules/Checks). (01, refusal numbers.)
use Rattle.std.specs.Prelude.{ℕ}
use Rattle.editor.specs.declared.refusals.Refusal.{Refusal}
use Rattle.editor.specs.declared.refusals.Refusal.TheVariants as refusals

-- 01, the table of refusals; 7 is M-100's, 8 M-106's.
abbrev pub SIZE : ℕ
SIZE = 1

abbrev pub LONG : ℕ
LONG = 2

abbrev pub TEXT : ℕ
TEXT = 3

abbrev pub SESSION : ℕ
SESSION = 4

abbrev pub KEY : ℕ
KEY = 5

abbrev pub FULL : ℕ
FULL = 6

abbrev pub ROOM : ℕ
ROOM = 7

abbrev pub LINE : ℕ
LINE = 8

-- The number of each.
abbrev pub number : Refusal → ℕ
number refusals.Size = SIZE
number refusals.Long = LONG
number refusals.Text = TEXT
number refusals.Session = SESSION
number refusals.Key = KEY
number refusals.Full = FULL
number refusals.Room = ROOM
number refusals.Line = LINE
