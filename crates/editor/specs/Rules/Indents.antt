-- NEWLINE and TAB on one side, the document's or the quotation's. (02, M-105: indented lines.)
use Rattle.std.specs.Prelude.{List, [], ◌∷◌, ℕ, ◌-◌, ◌%◌, length}
use Rattle.gap.specs.Rules.Doc.{Doc, splice}
use Rattle.gap.specs.Rules.Lines.{newline, since}
use Rattle.gap.specs.Rules.Indents.{spaces, indent}
use Rattle.editor.specs.Rules.Plain.{Side, went, Did, reporting}

-- A run of bytes to stand left of the cursor, as a pair.
abbrev pub leftward : List ℕ → Doc
leftward run = record { l = run; r = [] }

-- It goes in before the cursor. The bytes inserted are reported as steps, and the recall text stays. (02, M-105. DECISIONS C25: no lines.)
unfoldable pub inserted_run : List ℕ → Side → Did Side
inserted_run run s = reporting (went (length run) 0) (record { text = splice 0 0 (leftward run) s.text; recall = s.recall })

-- NEWLINE: a newline, and then as many spaces as the current line has leading spaces left of the cursor. (02, M-105. DECISIONS C23, C24.)
abbrev pub indented_line : Doc → List ℕ
indented_line d = newline ∷ spaces (indent d.l)

unfoldable pub newlined : Side → Did Side
newlined s = inserted_run (indented_line s.text) s

-- TAB: spaces up to the next column that is a multiple of eight, at least one. The column is that of the text's own line, in QUOTED of the
-- quotation's. (02, M-105. DECISIONS C25.)
abbrev pub spaces_to_tab : Doc → List ℕ
spaces_to_tab d = spaces (8 - since d.l % 8)

unfoldable pub tabbed : Side → Did Side
tabbed s = inserted_run (spaces_to_tab s.text) s
