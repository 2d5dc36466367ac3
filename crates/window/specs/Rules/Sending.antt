-- The routine that writes these bytes into a lent buffer, as a total function on anything it is given. (02, M-100: refusals.)
use Rattle.std.specs.Prelude.{◌≡◌, List, Bool, not, ◌&&◌, ◌||◌, cond, ℕ, ◌*◌, eqb, leb, length, take, drop, get_or, Option, Some, None}
use Rattle.gap.specs.Rules.Sequence.{patch}
use Rattle.gap.specs.Rules.Nearest.{nearest}
use Rattle.gap.specs.Rules.Layout.{printable}
use Rattle.editor.specs.Rules.Refusals.{SIZE, TEXT, ROOM}
use Rattle.window.specs.Rules.Core.{rows_and_columns}
use Rattle.window.specs.Rules.Sequences.{sent_screen}

-- What the routine determines: 0 or a refusal's number, the place of TEXT, how many bytes it wrote, and the buffer.
pub record SendOutcome : Type 0 where
  pub code : ℕ
  pub place : ℕ
  pub count : ℕ
  pub buffer : List ℕ

-- The named rows are rows of the screen in their order, or none: 0 and 0. (M-100: rows out of order. DECISIONS C2.)
abbrev pub rows_on : ℕ → ℕ → ℕ → Bool
rows_on H first last = (eqb first 0 && eqb last 0) || (leb 1 first && (leb first last && leb last H))

-- The cursor is on the screen, or behind the last cell of a row. (01, the window: cursor. DECISIONS C3.)
abbrev pub cursor_on : ℕ → ℕ → ℕ → ℕ → Bool
cursor_on H W row column = leb 1 row && (leb row H && leb column W)

-- SIZE does not apply.
unfoldable pub sendable : ℕ → ℕ → ℕ → ℕ → ℕ → ℕ → List ℕ → Bool
sendable H W first last row column screen =
    (rows_and_columns H W && eqb (length screen) (H * W)) && (rows_on H first last && cursor_on H W row column)

-- The first byte of the screen that is not printed, wherever it stands. (M-100: TEXT. DECISIONS C1.)
abbrev pub bad_cell : List ℕ → Option ℕ
bad_cell screen = nearest (λ i. not (printable (get_or screen i 0))) (length screen) 0

-- Refused, nothing is written. (M-100: nothing is written then.)
abbrev pub unsent : ℕ → ℕ → List ℕ → SendOutcome
unsent code place buffer = record { code = code; place = place; count = 0; buffer = buffer }

-- A run put at the front of a buffer.
abbrev pub sent_front : List ℕ → List ℕ → SendOutcome
sent_front run buffer = record { code = 0; place = 0; count = length run; buffer = patch 0 run buffer }

-- The bytes stand at the front of the buffer, and those behind them are as they were; ROOM if there are more than the buffer has.
-- (M-100: bytes behind it stay; exactly when the bytes exceed the buffer.)
abbrev pub sent_into : List ℕ → List ℕ → SendOutcome
sent_into run buffer = cond (leb (length run) (length buffer)) (sent_front run buffer) (unsent ROOM 0 buffer)

-- TEXT comes before what else would be answered.
abbrev pub unless_bad_cell : Option ℕ → List ℕ → SendOutcome → SendOutcome
unless_bad_cell (Some i) buffer p = unsent TEXT i buffer
unless_bad_cell None buffer p = p

-- SIZE, then TEXT, then ROOM. (M-100: refusals, in order.)
unfoldable pub sending : ℕ → ℕ → ℕ → ℕ → ℕ → ℕ → List ℕ → List ℕ → SendOutcome
sending H W first last row column screen buffer =
    cond (sendable H W first last row column screen)
    (unless_bad_cell (bad_cell screen) buffer (sent_into (sent_screen W first last row column screen) buffer))
    (unsent SIZE 0 buffer)

-- ---- What it leaves in the buffer

-- The run is what the buffer begins with, the bytes behind it are as they were, and it is as long as it was.
pub record Fronted (run old : List ℕ) (count : ℕ) (new : List ℕ) : Type 0 where
  pub front : take count new ≡ run
  pub behind : drop count new ≡ drop count old
  pub long : length new ≡ length old
