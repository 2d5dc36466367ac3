-- Examples of the bytes for a terminal and of a terminal that reads them, worked out by hand from M-100's text.
-- proofs/Theorems/SendSamples shows that the definitions give each of them.
use Prim.Native.String.{String}
use Rattle.std.specs.Prelude.{replicate, List, [], ◌∷◌, ◌++◌, map, Bool, true, false, not, ◌&&◌, ◌||◌, cond, ℕ, ◌-◌, ◌*◌, eqb, length, take}
use Rattle.gap.specs.Rules.Sequence.{same_bytes}
use Rattle.gap.specs.Rules.Strings.{bytes}
use Rattle.window.specs.Rules.Sending.{SendOutcome, sending}
use Rattle.window.specs.Rules.Machine.{Reading, cells, escape, row_number, column_number, lost, Machine, machine, feed}

-- Bytes as they are written here: `^` (94) is ESC, and `$` (36) is a newline.
abbrev pub written : String → List ℕ
written s = map (λ b. cond (eqb b 94) 27 (cond (eqb b 36) 10 b)) (bytes s)

-- What a terminal shows at the end, and where its cursor is.
pub record Seen : Type 0 where
  pub shows : String
  pub row : ℕ
  pub column : ℕ

abbrev pub seen : String → ℕ → ℕ → Seen
seen shows row column = record { shows = shows; row = row; column = column }

abbrev pub ready : Reading → Bool
ready cells = true
ready escape = false
ready (row_number row) = false
ready (column_number row column) = false
ready lost = false

abbrev pub is_lost : Reading → Bool
is_lost cells = false
is_lost escape = false
is_lost (row_number row) = false
is_lost (column_number row column) = false
is_lost lost = true

abbrev pub is_seen : Seen → Machine → Bool
is_seen s m = (same_bytes m.shows (bytes s.shows) && ready m.reading) && (eqb m.row s.row && eqb m.column s.column)

-- ---- The routine

-- Bytes, and what a terminal shows that showed dots and was at its first cell; or a refusal and its place.
pub data Expected : Type 0 where
  Sends : String → Seen → Expected
  Refuses : ℕ → ℕ → Expected

-- What is asked, into a buffer of so many `#` (35).
pub record SendSample : Type 0 where
  pub H : ℕ
  pub W : ℕ
  pub first : ℕ
  pub last : ℕ
  pub row : ℕ
  pub column : ℕ
  pub screen : String
  pub room : ℕ
  pub expected : Expected

abbrev pub dots : ℕ → ℕ → Machine
dots H W = record { shows = replicate (H * W) 46; row = 1; column = 1; reading = cells }

-- Sent, the run stands at the front and the `#` behind it are left; refused, nothing is written.
abbrev pub meets : SendSample → SendOutcome → Expected → Bool
meets s p (Sends run after) =
    ((eqb p.code 0 && eqb p.place 0) && eqb p.count (length (written run)))
    && (same_bytes p.buffer (written run ++ replicate (s.room - length (written run)) 35)
    && is_seen after (feed s.H s.W (take p.count p.buffer) (dots s.H s.W)))
meets s p (Refuses code place) =
    (eqb p.code code && eqb p.place place) && (eqb p.count 0 && same_bytes p.buffer (replicate s.room 35))

abbrev pub is_sent : SendSample → Bool
is_sent s =
    meets s
    (sending s.H s.W s.first s.last s.row s.column (written s.screen) (replicate s.room 35))
    s.expected

unfoldable pub all_sent : List SendSample → Bool
all_sent [] = true
all_sent (s ∷ ss) = is_sent s && all_sent ss

-- A screen of 2 rows and 3 columns: the named rows, the cursor, and the room.
abbrev pub small : ℕ → ℕ → ℕ → ℕ → String → ℕ → Expected → SendSample
small first last row column screen room expected =
    record { H = 2; W = 3; first = first; last = last; row = row; column = column; screen = screen; room = room; expected = expected }

abbrev pub send_samples : List SendSample
send_samples =
    -- Both rows, and the cursor at the beginning: 24 bytes. One byte less is ROOM; what is behind them stays.
    small 1 2 1 0 "abcdef" 24 (Sends "^[1;1Habc^[2;1Hdef^[1;1H" (seen "abcdef" 1 1))
    ∷ small 1 2 1 0 "abcdef" 23 (Refuses 7 0)
    ∷ small 1 2 1 0 "abcdef" 30 (Sends "^[1;1Habc^[2;1Hdef^[1;1H" (seen "abcdef" 1 1))
    -- One row, and no row; the cursor in its last cell and behind it are the terminal's column 3.
    ∷ small 1 1 2 1 "abcdef" 99 (Sends "^[1;1Habc^[2;2H" (seen "abc..." 2 2))
    ∷ small 2 2 2 2 "abcdef" 99 (Sends "^[2;1Hdef^[2;3H" (seen "...def" 2 3))
    ∷ small 0 0 1 3 "abcdef" 6 (Sends "^[1;3H" (seen "......" 1 3))
    ∷ small 0 0 1 3 "abcdef" 5 (Refuses 7 0)
    ∷ small 0 0 1 3 "abcdef" 0 (Refuses 7 0)
    -- SIZE: half of the rows, rows out of order or off the screen; the cursor off the screen; a screen that is too short or too long.
    ∷ small 0 1 1 0 "abcdef" 99 (Refuses 1 0)
    ∷ small 1 0 1 0 "abcdef" 99 (Refuses 1 0)
    ∷ small 2 1 1 0 "abcdef" 99 (Refuses 1 0)
    ∷ small 2 3 1 0 "abcdef" 99 (Refuses 1 0)
    ∷ small 1 2 0 0 "abcdef" 99 (Refuses 1 0)
    ∷ small 1 2 3 0 "abcdef" 99 (Refuses 1 0)
    ∷ small 1 2 1 4 "abcdef" 99 (Refuses 1 0)
    ∷ small 1 2 1 0 "abcde" 99 (Refuses 1 0)
    ∷ small 1 2 1 0 "abcdefg" 99 (Refuses 1 0)
    -- SIZE: H or W is not as tabled.
    ∷ record { H = 0; W = 3; first = 0; last = 0; row = 1; column = 0; screen = ""; room = 99; expected = Refuses 1 0 }
    ∷ record { H = 2; W = 0; first = 0; last = 0; row = 1; column = 0; screen = ""; room = 99; expected = Refuses 1 0 }
    -- TEXT, also where the row is not named: the first such byte. SIZE comes before it, ROOM behind it.
    ∷ small 1 2 1 0 "ab$^ef" 99 (Refuses 3 2)
    ∷ small 1 1 1 0 "abcde^" 99 (Refuses 3 5)
    ∷ small 1 2 1 0 "abc\u{7f}ef" 99 (Refuses 3 3)
    ∷ small 0 0 1 0 "$bcdef" 0 (Refuses 3 0)
    ∷ small 0 0 0 0 "$bcdef" 0 (Refuses 1 0)
    -- Numbers of two digits.
    ∷ record {
      H = 12;
      W = 1;
      first = 9;
      last = 10;
      row = 12;
      column = 1;
      screen = "abcdefghijkl";
      room = 99;
      expected = Sends "^[9;1Hi^[10;1Hj^[12;1H" (seen "........ij.." 12 1);
    }
    ∷ record {
      H = 1;
      W = 12;
      first = 0;
      last = 0;
      row = 1;
      column = 9;
      screen = "abcdefghijkl";
      room = 99;
      expected = Sends "^[1;10H" (seen "............" 1 10);
    }
    ∷ []

-- ---- The terminal

-- Bytes for a terminal of 2 rows and 3 columns that shows `abcdef` and is at its first cell: what it shows then, what it shows in the
-- middle of a sequence, or that it is lost.
pub data Afterwards : Type 0 where
  Shows : Seen → Afterwards
  Waits : Seen → Afterwards
  Loses : Afterwards

pub record ReadSample : Type 0 where
  pub run : String
  pub after : Afterwards

abbrev pub read : String → Afterwards → ReadSample
read run after = record { run = run; after = after }

abbrev pub is_after : Afterwards → Machine → Bool
is_after (Shows s) m = is_seen s m
is_after (Waits s) m = not (ready m.reading || is_lost m.reading) && is_seen s (machine m.shows m.row m.column)
is_after Loses m = is_lost m.reading

unfoldable pub all_read : List ReadSample → Bool
all_read [] = true
all_read (r ∷ rs) =
    is_after r.after (feed 2 3 (written r.run) (record { shows = bytes "abcdef"; row = 1; column = 1; reading = cells })) && all_read rs

abbrev pub read_samples : List ReadSample
read_samples =
    read "" (Shows (seen "abcdef" 1 1))
    ∷ read "xy" (Shows (seen "xycdef" 1 3))
    -- At the last column the spot stays: it neither wraps nor scrolls.
    ∷ read "wxyz" (Shows (seen "wxzdef" 1 3))
    ∷ read "^[2;3Hwx^[2;1Hy" (Shows (seen "abcyex" 2 2))
    -- Until a sequence is at its end the spot stays.
    ∷ read "xy^[2" (Waits (seen "xycdef" 1 3))
    -- A byte that is not printed, spots off the screen, a number that is left out or has a zero in front, other sequences.
    ∷ read "x$y" Loses
    ∷ read "x\u{7f}" Loses
    ∷ read "^[3;1Hx" Loses
    ∷ read "^[1;4Hx" Loses
    ∷ read "^[0;1Hx" Loses
    ∷ read "^[2;Hx" Loses
    ∷ read "^[;1Hx" Loses
    ∷ read "^[02;1Hx" Loses
    ∷ read "^[2;01Hx" Loses
    ∷ read "^[2Jx" Loses
    ∷ read "^[2;3Jx" Loses
    ∷ read "^cx" Loses
    -- For good.
    ∷ read "^c^[1;1Hx" Loses
    ∷ []
