-- The lines of the document against what the optimiser's reader takes. (02, M-106: no line longer than the reader takes.)
use Rattle.std.specs.Prelude.{Bool, ℕ}
use Rattle.gap.specs.Rules.Doc.{content}
use Rattle.gap.specs.Rules.LineLimits.{lines_fit}
use Rattle.editor.specs.Rules.Plain.{Plain}

-- The longest line that the reader takes. (02, M-106: stops at 1,024 bytes a line.)
unfoldable pub longest_line : ℕ
longest_line = 1024

-- No line of the document is longer than a limit. Neither the quotation nor the document with the quotation in it is asked. (02, M-106: whose
-- finished document; the quotation has no such limit. DECISIONS C27.)
abbrev pub readable : ℕ → Plain → Bool
readable limit p = lines_fit limit (content p.main.text)
