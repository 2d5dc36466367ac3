-- How a script is read: four header lines, the text, and lines of keys. (01, the bench program.)
use Rattle.std.specs.Prelude.{List, Bool, ◌&&◌, cond, ℕ, ◌+◌, eqb, ltb, length, drop, get_or}
use Rattle.bench.specs.Words.{Option, Some, None, Result, Ok, Err, Header, Broken}
use Rattle.bench.specs.Words.{Key, Reading, Pressed, Finished, Unknown}
use Rattle.gap.specs.Rules.Sequence.{begins}
use Rattle.gap.specs.Rules.Strings.{bytes}
use Rattle.gap.specs.Rules.Lines.{newline}
use Rattle.gap.specs.Rules.Fields.{line_at, next_at, header_at}
use Rattle.bench.specs.Rules.Names.{most_digits, key_named}

-- ---- The header

-- This line is the first that cannot be read.
abbrev pub broken : {A : Type 0} → ℕ → Result A Broken
broken line = Err (record { line = line })

abbrev pub when_read : {A : Type 0} → ℕ → Option ℕ → (ℕ → Result A Broken) → Result A Broken
when_read line (Some n) then = then n
when_read line None then = broken line

-- The n bytes from a place on are there, and a newline after them. (DECISIONS A5.)
unfoldable pub text_there : List ℕ → ℕ → ℕ → Bool
text_there s at n = ltb (at + n) (length s) && eqb (get_or s (at + n) 0) newline

-- The four numbers and where the text stands; or the number of the first line that cannot be read so, 4 for the text. Only the last
-- key line may lack its newline, so a header line may not. (DECISIONS A6.)
unfoldable pub heading_of : List ℕ → Result Header Broken
heading_of s =
    let second = next_at s 0 in
    let third = next_at s second in
    let fourth = next_at s third in
    let at = next_at s fourth in
    when_read 1 (header_at (bytes "rows=") most_digits s 0)
    (λ rows. when_read 2 (header_at (bytes "cols=") most_digits s second)
    (λ columns. when_read 3 (header_at (bytes "store=") most_digits s third)
    (λ store. when_read 4 (header_at (bytes "text=") most_digits s fourth)
    (λ n. cond (text_there s at n)
    (Ok (record { rows = rows; columns = columns; store = store; length = n; at = at }))
    (broken 4)))))

-- ---- Key lines

unfoldable pub key_of : List ℕ → Option Key
key_of line = cond (begins (bytes "key=") line) (key_named (drop 4 line)) None

abbrev pub read_as : Option Key → ℕ → Reading
read_as (Some k) next = Pressed k next
read_as None next = Unknown

-- At the end of the input there is no line more; an empty line is none that can be read. (DECISIONS A8.)
unfoldable pub reading_at : List ℕ → ℕ → Reading
reading_at s at = cond (ltb at (length s)) (read_as (key_of (line_at s at)) (next_at s at)) Finished
