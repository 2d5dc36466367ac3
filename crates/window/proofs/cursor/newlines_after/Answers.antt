-- `newlines_after`: what went or came is told by the key's lines, or counted in what the text left of the cursor has gained.
use native.Mathlib.Omega.{arith}
use lib.Dec.{ltb}
use borrow.Author.Tests.{ltb-true}
use Rattle.gap.proofs.Laws.Tests.{and_left, and_right}
use Rattle.gap.proofs.Laws.Lines.{front-newlines}
use Rattle.window.proofs.Laws.KeyCall.{left-gained, left-told}
use Rattle.window.proofs.cursor.newlines_after.Goals as goal

-- A sum is the number of newlines in a part of the store, so it does not wrap.
pub overflow_add-result : goal.overflow_add-result
overflow_add-result c =
    omega (
      arith,
      (let longer = ltb c.args.was.l c.args.done.lengths.main.l in left-told _ _ _ _ _ c.requires.left_counted
          (ltb-true _ _ (and_left longer _ c.if-l-m.true)) (ltb-true _ _ (and_right longer _ c.if-l-m.true))),
      front-newlines c.args.done.lengths.main.l
          c.args.text.now,
    )

pub overflow_add-result-2 : goal.overflow_add-result-2
overflow_add-result-2 c =
    omega (
      arith,
      (left-gained _ _ _ _ _ _ c.requires.left_counted c.if-m-l.false c.count_newlines.ensures),
      front-newlines c.args.done.lengths.main.l
          c.args.text.now,
    )

pub returns : goal.returns
returns c = left-gained _ _ _ _ _ _ c.requires.left_counted c.if-m-l.false c.count_newlines.ensures
