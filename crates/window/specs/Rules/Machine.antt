-- A simple terminal as a machine over bytes, and a bench with such a terminal at the end of a line. (02, M-100: a simple terminal.)
use Rattle.std.specs.Prelude.{◌≡◌, ◌≢◌, ◌≤◌, List, [], ◌∷◌, Bool, ◌&&◌, cond, ℕ, suc, ◌+◌, ◌-◌, ◌*◌, eqb, leb, ltb, length, take, set}
use Rattle.window.specs.Words.{Key}
use Rattle.gap.specs.Rules.Decimal.{digit, worth}
use Rattle.gap.specs.Rules.Layout.{printable}
use Rattle.editor.specs.Rules.Refusals.{ROOM}
use Rattle.window.specs.Rules.Window.{virtual, row_of, column_of}
use Rattle.window.specs.Rules.Core.{Lent, Called, opened, keyed}
use Rattle.window.specs.Rules.Terminal.{View, picture, record_of, stores_with}
use Rattle.window.specs.Rules.Sequences.{sent_column}
use Rattle.window.specs.Rules.Sending.{SendOutcome, sending}

-- ---- The machine

-- What it is reading: bytes to show, or a sequence of which it has ESC, or ESC `[` and digits, or these, `;` and digits. It is lost once
-- it was sent anything else, and stays so.
pub data Reading : Type 0 where
  cells : Reading
  escape : Reading
  row_number : ℕ → Reading
  column_number : ℕ → ℕ → Reading
  lost : Reading

-- The cells that it shows, row by row, and where the next one goes, rows and columns from 1.
pub record Machine : Type 0 where
  pub shows : List ℕ
  pub row : ℕ
  pub column : ℕ
  pub reading : Reading

-- A machine with these cells at this spot, no sequence begun.
abbrev pub machine : List ℕ → ℕ → ℕ → Machine
machine s row column = record { shows = s; row = row; column = column; reading = cells }

-- The same, reading on.
abbrev pub reads : Machine → Reading → Machine
reads m r = record { shows = m.shows; row = m.row; column = m.column; reading = r }

-- A byte goes into the cell at the spot, and the next goes right of it; at the last column the spot stays. (M-100: neither wraps nor
-- scrolls.)
abbrev pub cell_shown : ℕ → ℕ → Machine → Machine
cell_shown W b m =
    record {
      shows = set m.shows ((m.row - 1) * W + (m.column - 1)) b;
      row = m.row;
      column = cond (ltb m.column W) (suc m.column) W;
      reading = cells;
    }

-- ESC begins a sequence, and a byte that is printed is shown.
abbrev pub cell_read : ℕ → ℕ → Machine → Machine
cell_read W b m = cond (eqb b 27) (reads m escape) (cond (printable b) (cell_shown W b m) (reads m lost))

-- At the end of a sequence it goes to the spot, if the screen has it.
abbrev pub goes : ℕ → ℕ → ℕ → ℕ → Machine → Machine
goes H W row column m =
    cond ((leb 1 row && leb row H) && (leb 1 column && leb column W))
    (machine m.shows row column) (reads m lost)

-- A digit behind those of n: none is a zero in front. (M-100: without leading zeros. DECISIONS E30.)
abbrev pub digit_more : ℕ → ℕ → Bool
digit_more n b = digit b && ltb 0 (n * 10 + worth b)

-- One byte. (M-100: a terminal that obeys these sequences.)
unfoldable pub step : ℕ → ℕ → Reading → ℕ → Machine → Machine
step H W cells b m = cell_read W b m
step H W escape b m = reads m (cond (eqb b 91) (row_number 0) lost)
step H W (row_number row) b m =
    reads m (cond (digit_more row b) (row_number (row * 10 + worth b)) (cond (eqb b 59) (column_number row 0) lost))
step H W (column_number row column) b m =
    cond (digit_more column b) (reads m (column_number row (column * 10 + worth b)))
    (cond (eqb b 72) (goes H W row column m) (reads m lost))
step H W lost b m = m

-- A run of bytes.
unfoldable pub feed : ℕ → ℕ → List ℕ → Machine → Machine
feed H W [] m = m
feed H W (b ∷ run) m = feed H W run (step H W m.reading b m)

-- ---- A bench with a line

-- What the last call gave, the host's buffer, and the terminal at the end of the line.
pub record Line : Type 0 where
  pub called : Called
  pub buffer : List ℕ
  pub terminal : Machine

-- After a call the routine is asked for the bytes, whatever the answer was, and as many as it counts go to the terminal.
abbrev pub bytes_after : Called → List ℕ → SendOutcome
bytes_after o buffer =
    sending o.session.frame.h o.session.frame.w o.answer.first o.answer.last o.answer.row o.answer.column
    o.lent.screen buffer

abbrev pub received : Called → SendOutcome → Machine → Line
received o p m =
    record {
      called = o;
      buffer = p.buffer;
      terminal = feed o.session.frame.h o.session.frame.w (take p.count p.buffer) m;
    }

-- Opening names every row, so that the terminal is given the full screen.
unfoldable pub opened_line : ℕ → ℕ → ℕ → Lent → List ℕ → Machine → Line
opened_line n H W b buffer m = let o = opened n H W b in received o (bytes_after o buffer) m

-- A key is called with record and stores as they came back, and the buffer is lent again as it was left.
unfoldable pub struck_line : Key → Line → Line
struck_line k at = let o = keyed at.called.session k at.called.lent in received o (bytes_after o at.buffer) at.terminal

-- A list of keys.
unfoldable pub typed_line : List Key → Line → Line
typed_line [] at = at
typed_line (k ∷ ks) at = typed_line ks (struck_line k at)

-- In a list of keys, the bytes have room in the buffer each time: the routine never answers ROOM.
abbrev pub AllSent : List Key → Line → Type 0
AllSent [] at = Unit {0}
AllSent (k ∷ ks) at = ((bytes_after (keyed at.called.session k at.called.lent) at.buffer).code ≢ ROOM) × AllSent ks (struck_line k at)

-- What it should show: the window of the plain document, with the cursor as a call reports it, its column plus 1, or W.
abbrev pub showing : View → Machine
showing v =
    let d = virtual v.plain in
    machine (picture v) (row_of d - v.frame.r) (sent_column v.frame.w (column_of d - v.frame.c))

-- A buffer in which there is always room: for a row's spot 7 bytes, for the cursor's 9.
abbrev pub enough : ℕ → ℕ → ℕ
enough H W = H * (W + 7) + 9

-- What a host brings: a buffer with room, and a terminal of the screen's size, which may show anything and is in no sequence.
pub record Ready (H W : ℕ) (buffer : List ℕ) (m : Machine) : Type 0 where
  pub room : enough H W ≤ length buffer
  pub size : length m.shows ≡ H * W
  pub reading : m.reading ≡ cells

-- Record, stores and terminal all hold the view.
pub record OnLine (size : ℕ) (v : View) (at : Line) : Type 0 where
  pub session : at.called.session ≡ record_of v
  pub lent : at.called.lent ≡ stores_with size v (picture v)
  pub terminal : at.terminal ≡ showing v
