-- `cut_key` is a deletion of the bytes between cursor and mark, into the held text's store.
use Rattle.std.proofs.lemmas.Result.{err_from_is_err_and}
use Rattle.editor.specs.Wording.Promise.{editor_done}
use mathlib.Core.Path.{refl, sym, ap}
use native.Mathlib.Omega.{arith}
use borrow.Author.Tests.{le-leb, lt-leb}
use Rattle.gap.proofs.Laws.Tests.{cond-true, cond-false}
use Rattle.editor.specs.Words.{Left, Right}
use Rattle.editor.specs.Rules.LongLines.{longest_line}
use Rattle.editor.specs.Rules.Bytes.{quarter}
use Rattle.editor.proofs.Laws.Following.{position-within}
use Rattle.editor.proofs.Laws.Holding.{held-refused, cut-rings, cut-done}
use Rattle.editor.proofs.marks.cut_key.Goals as goal

pub returns-in_default : goal.returns-in_default
returns-in_default c = λ recall side sound. cut-rings quarter _ _ sound refl refl c.in_default.is

pub delete_side-requires : goal.delete_side-requires
unfolding longest_line
delete_side-requires c = record { on_side = rw c.holding_sizes-sizes.ensures c.requires.on_side; steps_bound = omega arith }

pub returns-then-m-l : goal.returns-then-m-l
unfolding longest_line
returns-then-m-l c =
    let left = le-leb _ _ (rw c.holding_sizes-sizes.ensures at c.if-m-l.true) in
    λ recall side sound. cut-done quarter _ _ sound _ Left _ c.in-Some.is (sym (cond-true _ _ left)) (sym (cond-true _ _ left))
    (ap editor_done c.lifted_held.ensures) (rw c.holding_sizes-sizes.ensures at c.in_ok-t.ensures)

pub delete_side-requires-2 : goal.delete_side-requires-2
unfolding longest_line
delete_side-requires-2 c =
    record {
      on_side = rw c.holding_sizes-sizes.ensures c.requires.on_side;
      steps_bound = omega (
        arith,
        position-within _ _ _ c.in-Some.is c.requires.mark_value,
        ap (λ m. m.l) c.holding_sizes-sizes.ensures,
        ap (λ m. m.r)
            c.holding_sizes-sizes.ensures,
      );
    }

pub returns : goal.returns
unfolding longest_line
returns c =
    let right = lt-leb _ _ (rw c.holding_sizes-sizes.ensures at c.if-m-l.false) in
    λ recall side sound. cut-done quarter _ _ sound _ Right _ c.in-Some.is (sym (cond-false _ _ right)) (sym (cond-false _ _ right))
    (ap editor_done c.lifted_held-2.ensures) (rw c.holding_sizes-sizes.ensures at c.in_ok-t-2.ensures)

pub returns-in_err-t : goal.returns-in_err-t
unfolding longest_line
returns-in_err-t c =
    let left = le-leb _ _ (rw c.holding_sizes-sizes.ensures at c.if-m-l.true) in
    let gone = err_from_is_err_and c.from_residual.result c.from_residual.ensures.1 in
    rw (gone.1, gone.2)
    (λ recall side sound. cut-done quarter _ _ sound _ Left _ c.in-Some.is (sym (cond-true _ _ left)) (sym (cond-true _ _ left))
    (held-refused _ _ _ _) (rw c.holding_sizes-sizes.ensures at c.in_err-t.ensures))

pub returns-in_err-t-2 : goal.returns-in_err-t-2
unfolding longest_line
returns-in_err-t-2 c =
    let right = lt-leb _ _ (rw c.holding_sizes-sizes.ensures at c.if-m-l.false) in
    let gone = err_from_is_err_and c.from_residual-in_err-t-2.result c.from_residual-in_err-t-2.ensures.1 in
    rw (gone.1, gone.2)
    (λ recall side sound. cut-done quarter _ _ sound _ Right _ c.in-Some.is (sym (cond-false _ _ right)) (sym (cond-false _ _ right))
    (held-refused _ _ _ _) (rw c.holding_sizes-sizes.ensures at c.in_err-t-2.ensures))
