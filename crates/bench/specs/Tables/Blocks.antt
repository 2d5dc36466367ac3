-- What is printed of an answer, in order and word for word. proofs/Theorems/Pins computes it.
use Rattle.std.specs.Prelude.{List, [], ◌∷◌, Bool, true, false, ℕ}
use Rattle.gap.specs.Rules.Strings.{bytes}
use Rattle.gap.specs.Tables.Sentence.{Sentence, sentence}
use Rattle.gap.specs.Tables.Written.{is_bytes}
use Rattle.window.specs.Rules.Core.{Answer}
use Rattle.bench.specs.Rules.Print.{block, script_line}

-- An answer whose numbers all differ.
abbrev pub answer : ℕ → Bool → Answer
answer code bell =
    record { code = code; place = 8; report = record { steps = 1; lines = 2; bell = bell }; first = 3; last = 4; row = 5; column = 6 }

abbrev pub block_pins : List (Sentence Bool)
block_pins =
    sentence "code 0: steps, lines (M-104), bell, first, last, row, col, then H line entries, all W cells with trailing spaces"
    (is_bytes (block 2 3 (answer 0 true) (bytes "abcd  ")) "code=0\nsteps=1\nlines=2\nbell=1\nfirst=3\nlast=4\nrow=5\ncol=6\nline=abc\nline=d  \n"
    ∷ is_bytes (block 1 1 (answer 0 false) (bytes "a")) "code=0\nsteps=1\nlines=2\nbell=0\nfirst=3\nlast=4\nrow=5\ncol=6\nline=a\n"
    ∷ [])
    ∷ sentence "refused: only code and place" (is_bytes (block 2 3 (answer 3 true) (bytes "abcd  ")) "code=3\nplace=8\n" ∷ [])
    ∷ sentence "script= and the line number" (is_bytes (script_line 12) "script=12\n" ∷ [])
    ∷ []
