-- How promises speak of a document that is read where it lies.
use Rattle.std.specs.Prelude.{List, ℕ}
use Rattle.gap.specs.declared.views.View.{View}
use Rattle.gap.specs.Words.{Direction, Left, Right}
use Rattle.gap.specs.Rules.Doc.{Doc}

unfoldable pub seen : View → Doc
seen v = record { l = v.l.now; r = v.r.now }

-- The text that lies in a direction of its cursor.
abbrev pub toward : Direction → Doc → List ℕ
toward Left d = d.l
toward Right d = d.r
