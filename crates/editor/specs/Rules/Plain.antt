-- The editor's state without bytes, and what a key reports.
use Rattle.std.specs.Prelude.{List, [], true, false, ℕ, Option, None}
use Rattle.editor.specs.Words.{Mode, Main, Report}
use Rattle.gap.specs.Rules.Doc.{Doc, empty}

-- A text and what its last deletion took: the document has such a side, and so has the quotation.
pub record Side : Type 0 where
  pub text : Doc
  pub recall : Doc

abbrev pub empty_side : Side
empty_side = record { text = empty; recall = empty }

-- Everything that a session holds but for the window; `held` is what CUT took. (01, what the core holds. 02, M-101.)
pub record Plain : Type 0 where
  pub main : Side
  pub quoted : Side
  pub pattern : List ℕ
  pub replacement : Doc
  pub mode : Mode
  pub held : Doc
  pub mark : Option ℕ

-- The document with the held pair in the place of its recall text.
abbrev pub holding : Plain → Side
holding p = record { text = p.main.text; recall = p.held }

-- A text newly opened: all of it lies right of the cursor, and there is nothing else. (01, opening.)
abbrev pub opening : List ℕ → Plain
opening text =
    record {
      main = record { text = record { l = []; r = text }; recall = empty };
      quoted = empty_side;
      pattern = [];
      replacement = empty;
      mode = Main;
      held = empty;
      mark = None;
    }

-- The three ways to report: nothing to say, nothing found, or n steps gone over so many newlines. (01, plain editor: steps, bell. 02, M-104:
-- lines, 0 with the bell and for other keys.)
abbrev pub quiet : Report
quiet = record { steps = 0; lines = 0; bell = false }

abbrev pub rang : Report
rang = record { steps = 0; lines = 0; bell = true }

abbrev pub went : ℕ → ℕ → Report
went n lines = record { steps = n; lines = lines; bell = false }

-- What a key did: the state behind it and its report.
pub record Did (A : Type 0) : Type 0 where
  pub state : A
  pub report : Report

abbrev pub reporting : {A : Type 0} → Report → A → Did A
reporting report a = record { state = a; report = report }

-- The same report about the larger state that a part was put into.
abbrev pub within : {A B : Type 0} → (A → B) → Did A → Did B
within put did = record { state = put did.state; report = did.report }

-- A key is refused with a number, or it is done.
pub data Outcome : Type 0 where
  refused : ℕ → Outcome
  done : Did Plain → Outcome
