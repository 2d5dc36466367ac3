-- `openable`: its tests are the definition's in their order, and the searches for a bad byte and for a longer line need no
-- more than the first n bytes.
use mathlib.Core.Path.{refl}
use Rattle.editor.specs.Rules.LongLines.{longest_line}
use Rattle.window.specs.Wording.Calls.{lent_as}
use Rattle.window.proofs.Laws.OpeningCall.{size-refused, stores-fit, long-refused, text-refused, line_refused, text-accepted}
use mathlib.Core.Path.{ap}
use mathlib.Core.Bool.{not}
use Rattle.window.proofs.calls.openable.Goals as goal

pub returns-then-not-lent_tabled : goal.returns-then-not-lent_tabled
returns-then-not-lent_tabled c =
    size-refused _ _ _ (lent_as c.args.lent.now c.args.screen.now) c.lent_tabled.ensures
    (ap not c.if-not-lent_tabled.true) refl

pub returns-then-text-n : goal.returns-then-text-n
returns-then-text-n c =
    long-refused _ _ _ (lent_as c.args.lent.now c.args.screen.now) c.lent_tabled.ensures
    (ap not c.if-not-lent_tabled.false) c.if-text-n.true
    refl

pub returns-in-Some : goal.returns-in-Some
returns-in-Some c =
    text-refused _ _ _ (lent_as c.args.lent.now c.args.screen.now) c.lent_tabled.ensures
    (ap not c.if-not-lent_tabled.false) c.if-text-n.false
    c.bad_byte.ensures _ c.in-Some.is refl

pub returns-in-Some-long_line : goal.returns-in-Some-long_line
unfolding longest_line
returns-in-Some-long_line c =
    line_refused _ _ _ (lent_as c.args.lent.now c.args.screen.now) c.lent_tabled.ensures
    (ap not c.if-not-lent_tabled.false) c.if-text-n.false
    c.bad_byte.ensures c.in_default.is c.long_line.ensures _ c.in-Some-long_line.is
    refl

pub returns : goal.returns
unfolding longest_line
returns c = (
  stores-fit _ _ (lent_as c.args.lent.now c.args.screen.now) c.lent_tabled.ensures (ap not c.if-not-lent_tabled.false),
  c.if-text-n.false,
  text-accepted _ _ _ (lent_as c.args.lent.now c.args.screen.now) c.lent_tabled.ensures
      (ap not c.if-not-lent_tabled.false) c.if-text-n.false
      c.bad_byte.ensures c.in_default.is c.long_line.ensures c.in_default-long_line.is,
)
