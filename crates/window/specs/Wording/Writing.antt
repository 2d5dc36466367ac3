-- How the promises of the functions that write for a terminal speak.
use Rattle.std.specs.Prelude.{◌≤◌, List, ℕ, zero, suc, ◌+◌, ◌*◌, length}
use denote.Ref.{at_last}
use Rattle.gap.specs.Rules.Sequence.{patch}
use Rattle.window.specs.declared.Sending.{Sending}
use Rattle.window.specs.declared.writer.Writer.{Writer}
use Rattle.window.specs.Rules.Sequences.{sent_spot, row_count, sent_column}
use Rattle.window.specs.Rules.Sending.{SendOutcome}

-- The named rows, in their order or none, are rows of a screen that is no larger than tabled.
pub record RowsIn (W first last : ℕ) (screen : List ℕ) : Type 0 where
  pub ordered : first ≤ last
  pub few : last ≤ 64
  pub wide : W ≤ 256
  pub inside : last * W ≤ length screen

-- How long the bytes are, without a look at the screen: n rows from row i on, and all of them.
unfoldable pub rows_size : ℕ → ℕ → ℕ → ℕ
rows_size W zero i = 0
rows_size W (suc n) i = (length (sent_spot i 1) + W) + rows_size W n (suc i)

unfoldable pub sent_size : ℕ → ℕ → ℕ → ℕ → ℕ → ℕ
sent_size W first last row column = rows_size W (row_count first last) first + length (sent_spot row (sent_column W column))

-- A writer with a run behind what it holds: the same buffer, and the mark behind the run.
abbrev pub filled : Writer → List ℕ → Writer
filled w run = record { out = at_last w.out (patch w.at run w.out.now); at = w.at + length run }

-- The answer and the buffer as one value.
abbrev pub outcome_of : Sending → List ℕ → SendOutcome
outcome_of a buffer = record { code = a.code; place = a.place; count = a.count; buffer = buffer }
