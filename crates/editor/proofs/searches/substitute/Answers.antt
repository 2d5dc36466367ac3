-- `substitute` drops the pattern, places the replacement and gives the pattern to the recall store: a key on the document's side.
use mathlib.Core.Path.{refl, sym, ◌∙◌, ap}
use native.Mathlib.Omega.{arith}
use lib.ListN.{length-take, length-drop}
use Rattle.editor.specs.Words.{Main}
use Rattle.gap.specs.Rules.Layout.{unpair}
use Rattle.editor.specs.Rules.Bytes.{quarter, plain_of}
use Rattle.editor.specs.Wording.Promise.{stores, editor_done}
use Rattle.editor.proofs.Laws.MarkedStates.{substituted-unheld, substituted-lines}
use Rattle.editor.proofs.Laws.Replies.{on-side}
use Rattle.editor.proofs.Laws.Fitting.{fitting}
use Rattle.editor.proofs.Laws.FindReplace.{exchange-known, substitute-rings, pattern-dropped, substitute-done}
use Rattle.editor.proofs.searches.substitute.Goals as goal

pub returns-then-not-here : goal.returns-then-not-here
unfolding plain_of
returns-then-not-here c = λ held sound. substitute-rings quarter _ _ sound (sym c.requires.2.known ∙ c.if-not-here.true) refl refl

pub overflow_add-end : goal.overflow_add-end
unfolding quarter
overflow_add-end c = omega (arith, fitting quarter _ _ c.requires.1)

pub overflow_sub-rest : goal.overflow_sub-rest
overflow_sub-rest c = (exchange-known c.requires c.if-not-here.false).stands

pub drop_right-requires : goal.drop_right-requires
drop_right-requires c =
    record { gap = (on-side quarter _ _ c.requires.1 Main).gap; d_le_r = (exchange-known c.requires c.if-not-here.false).stands }

pub slice_bounds-of_pair-end : goal.slice_bounds-of_pair-end
unfolding quarter
slice_bounds-of_pair-end c = omega (arith, fitting quarter _ _ c.requires.1)

pub of_pair-replacement-requires : goal.of_pair-replacement-requires
unfolding quarter
of_pair-replacement-requires c = simp (length-take, length-drop) (omega (arith, fitting quarter _ _ c.requires.1))

pub place_pair-requires : goal.place_pair-requires
unfolding quarter
place_pair-requires c =
    record {
      gap = pattern-dropped quarter _ _ c.requires.1 _ c.drop_right.ensures;
      in_bounds = omega (
        arith,
        exchange-known c.requires c.if-not-here.false,
        c.drop_right.auto.s,
        c.of_pair-replacement.ensures.lengths,
      );
    }

pub slice_bounds-hold-end : goal.slice_bounds-hold-end
unfolding quarter
slice_bounds-hold-end c = omega (arith, fitting quarter _ _ c.requires.1)

pub hold-requires : goal.hold-requires
hold-requires c =
    simp (length-take, length-drop)
    (omega (
      arith,
      fitting quarter _ _ c.requires.1,
      exchange-known c.requires c.if-not-here.false,
    ))

pub overflow_add-done : goal.overflow_add-done
overflow_add-done c =
    omega (
      arith,
      exchange-known c.requires c.if-not-here.false,
      fitting quarter _ _ c.requires.1,
    )

pub overflow_add-done-2 : goal.overflow_add-done-2
overflow_add-done-2 c =
    omega (
      arith,
      exchange-known c.requires c.if-not-here.false,
      fitting quarter _ _ c.requires.1,
    )

pub returns : goal.returns
unfolding quarter plain_of
returns c =
    let match = sym c.requires.2.known ∙ c.if-not-here.false in
    λ kept sound.
    let room = substituted-unheld _ _ (unpair _ _ kept) (plain_of quarter _ (stores _ _ c.requires.0 _)) ∙ c.requires.2.room in
    let lines = substituted-lines (unpair _ _ kept) (plain_of quarter _ (stores _ _ c.requires.0 _)) ∙ c.requires.2.lines in
    substitute-done quarter _ _ sound match room lines _ _ _ _ c.drop_right.ensures
    (rw c.of_pair-replacement.ensures.holds at c.place_pair.ensures) c.hold.ensures (ap editor_done c.lifted.ensures) refl refl
