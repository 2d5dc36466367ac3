-- `mark_through` is the definition's rule, test by test: nothing of it is longer than a store, so no sum wraps.
use mathlib.Core.Path.{sym}
use native.Mathlib.Omega.{arith}
use Rattle.editor.specs.Rules.Marks.{mark_through}
use Rattle.editor.proofs.Laws.Marks.{through-stays, through-gone, through-end, through-behind}
use Rattle.editor.proofs.Laws.Following.{position-within}
use Rattle.editor.proofs.marks.mark_through.Goals as goal

pub returns-in_default : goal.returns-in_default
unfolding mark_through
returns-in_default c = rw c.in_default.is

pub overflow_sub-from : goal.overflow_sub-from
overflow_sub-from c = c.requires.before

pub overflow_add-gone : goal.overflow_add-gone
overflow_add-gone c = omega (arith, c.requires.before, c.requires.left, c.requires.behind)

pub returns-then-m-from : goal.returns-then-m-from
returns-then-m-from c = rw c.in-Some.is (sym (through-stays _ _ _ _ c.if-m-from.true))

pub overflow_add-from : goal.overflow_add-from
overflow_add-from c = omega (arith, c.requires.before, c.requires.left, c.requires.behind)

pub returns-then-m-from-2 : goal.returns-then-m-from-2
returns-then-m-from-2 c = rw c.in-Some.is (sym (through-gone _ _ _ _ c.if-m-from.false c.if-m-from-2.true))

pub overflow_add-from-2 : goal.overflow_add-from-2
overflow_add-from-2 c = omega (arith, c.requires.before, c.requires.left, c.requires.behind)

pub returns-then-m-from-3 : goal.returns-then-m-from-3
returns-then-m-from-3 c = rw c.in-Some.is (sym (through-end _ _ _ _ c.if-m-from-3.true))

pub overflow_add-result : goal.overflow_add-result
overflow_add-result c = omega (arith, c.requires.come, position-within _ _ _ c.in-Some.is c.requires.position)

pub returns : goal.returns
returns c = rw c.in-Some.is (sym (through-behind _ _ _ _ (omega (arith, c.if-m-from-2.false, c.if-m-from-3.false))))
