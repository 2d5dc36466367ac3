-- What the program does with its input, and all that it prints. (01, the bench program.)
use Rattle.std.specs.Prelude.{List, [], ◌++◌, Bool, true, false, cond, ℕ, zero, suc, ◌+◌, ◌*◌, eqb, leb, length, take}
use Rattle.bench.specs.Words.{Result, Ok, Err, Key, Header, Broken, Reading, Pressed, Finished, Unknown}
use Rattle.gap.specs.Rules.Sequence.{part, patch, zeros}
use Rattle.gap.specs.Rules.Fields.{line_number}
use Rattle.editor.specs.Rules.Bytes.{quarter}
use Rattle.window.specs.declared.Session.{Session}
use Rattle.window.specs.Rules.Core.{Lent, Called, rows_and_columns, opened, keyed}
use Rattle.bench.specs.Rules.Script.{broken, heading_of, reading_at}
use Rattle.bench.specs.Rules.Print.{block, script_line}

-- ---- The beginning

abbrev pub longest_input : ℕ
longest_input = 8192

abbrev pub largest_store : ℕ
largest_store = 4096

abbrev pub unless_large : Result Header Broken → Result Header Broken
unless_large (Ok h) = cond (leb h.store largest_store) (Ok h) (broken 0)
unless_large (Err e) = Err e

-- Too long an input is found before any line is read, too large a store after the text. (DECISIONS A3, A11.)
unfoldable pub beginning : List ℕ → Result Header Broken
beginning input = cond (leb (length input) longest_input) (unless_large (heading_of input)) (broken 0)

-- ---- The turns

-- Between two turns: whether the program goes on, the place of the next line, and what the core was given back.
pub record State : Type 0 where
  pub going : Bool
  pub at : ℕ
  pub session : Session
  pub lent : Lent

-- A turn prints a block, or `script=` and a line number, or nothing at the end of the input.
pub record Turned : Type 0 where
  pub printed : List ℕ
  pub state : State

abbrev pub answered : Bool → ℕ → Called → ℕ → ℕ → Turned
answered going at o H W =
    record {
      printed = block H W o.answer o.lent.screen;
      state = record { going = going; at = at; session = o.session; lent = o.lent };
    }

-- The text goes to the front of the text store, as much of it as fits: where it does not fit, opening refuses it by its stated length.
abbrev pub laid_out : Header → List ℕ → Lent → Lent
laid_out h input b =
    record {
      stores =
          record {
            text = patch 0 (take (length b.stores.text) (part h.at h.length input)) b.stores.text;
            recall = b.stores.recall;
            held = b.stores.held;
            side = b.stores.side;
          };
      screen = b.screen;
    }

-- A refused opening ends the program; the first key line starts behind the text's newline.
unfoldable pub opening_turn : Header → List ℕ → Lent → Turned
opening_turn h input b =
    let o = opened h.length h.rows h.columns (laid_out h input b) in
    answered (eqb o.answer.code 0) (suc (h.at + h.length)) o h.rows h.columns

abbrev pub stopped : List ℕ → State → Turned
stopped printed s =
    record { printed = printed; state = record { going = false; at = s.at; session = s.session; lent = s.lent } }

-- A key is pressed; refused or not, the program goes on.
unfoldable pub pressed_turn : Session → Key → ℕ → Lent → Turned
pressed_turn s k next b = answered true next (keyed s k b) s.frame.h s.frame.w

abbrev pub read : List ℕ → State → Reading → Turned
read input s (Pressed k next) = pressed_turn s.session k next s.lent
read input s Finished = stopped [] s
read input s Unknown = stopped (script_line (line_number input s.at)) s

unfoldable pub next_turn : List ℕ → State → Turned
next_turn input s = read input s (reading_at input s.at)

-- ---- All of it

-- At most n turns more: each key line has a byte at least, so there are never more than the input has bytes.
unfoldable pub turns : ℕ → List ℕ → Turned → List ℕ
turns zero input t = t.printed
turns (suc n) input t = t.printed ++ cond t.state.going (turns n input (next_turn input t.state)) []

-- The stores that the program lends. A screen is lent as H and W ask where they are as tabled, and none otherwise: opening refuses
-- then. (DECISIONS A17.)
abbrev pub screen_size : ℕ → ℕ → ℕ
screen_size H W = cond (rows_and_columns H W) (H * W) 0

unfoldable pub fresh : Header → Lent
fresh h =
    record {
      stores = record { text = zeros h.store; recall = zeros h.store; held = zeros h.store; side = zeros (4 * quarter) };
      screen = zeros (screen_size h.rows h.columns);
    }

abbrev pub printed_from : List ℕ → Result Header Broken → List ℕ
printed_from input (Ok h) = turns (length input) input (opening_turn h input (fresh h))
printed_from input (Err e) = script_line e.line

unfoldable pub output : List ℕ → List ℕ
output input = printed_from input (beginning input)
