-- `editor_ok` is the session test, part by part: the parts of the side store that it lends are the quarters.
use mathlib.Core.Path.{ap, ◌∙◌}
use native.Mathlib.Omega.{arith}
use lib.ListN.{length-take}
use Rattle.gap.specs.Rules.Layout.{sound_gap, sound_pair}
use Rattle.editor.specs.Rules.LongLines.{longest_line}
use Rattle.editor.specs.Rules.Bytes.{editor_ok}
use Rattle.editor.proofs.Laws.Quarters.{lent-first, lent-second, lent-third, lent-fourth}
use Rattle.editor.proofs.Laws.Session.{measured}
use Rattle.editor.proofs.stores.editor_ok.Goals as goal

pub slice_bounds-sound_gap-end : goal.slice_bounds-sound_gap-end
slice_bounds-sound_gap-end c =
    let sizes = measured c.args.q _ c.requires in
    simp length-take (omega arith)

pub overflow_mul-q : goal.overflow_mul-q
overflow_mul-q c =
    let sizes = measured c.args.q _ c.requires in
    record { fits = omega arith }

pub slice_bounds-sound_pair-end : goal.slice_bounds-sound_pair-end
slice_bounds-sound_pair-end c =
    let sizes = measured c.args.q _ c.requires in
    omega arith

pub overflow_mul-q-2 : goal.overflow_mul-q-2
overflow_mul-q-2 c =
    let sizes = measured c.args.q _ c.requires in
    record { fits = omega arith }

pub overflow_mul-q-3 : goal.overflow_mul-q-3
overflow_mul-q-3 c =
    let sizes = measured c.args.q _ c.requires in
    record { fits = omega arith }

pub slice_bounds-sound_pair-end-2 : goal.slice_bounds-sound_pair-end-2
slice_bounds-sound_pair-end-2 c =
    let sizes = measured c.args.q _ c.requires in
    omega arith

pub overflow_mul-q-4 : goal.overflow_mul-q-4
overflow_mul-q-4 c =
    let sizes = measured c.args.q _ c.requires in
    record { fits = omega arith }

pub overflow_mul-q-5 : goal.overflow_mul-q-5
overflow_mul-q-5 c =
    let sizes = measured c.args.q _ c.requires in
    record { fits = omega arith }

pub slice_bounds-sound_pair-end-3 : goal.slice_bounds-sound_pair-end-3
slice_bounds-sound_pair-end-3 c =
    let sizes = measured c.args.q _ c.requires in
    omega arith

pub returns : goal.returns
unfolding longest_line editor_ok
returns c =
    let q = c.args.q in
    let side = c.args.side.now in
    rw (
      c.sound_document.ensures,
      c.sound_pair.ensures,
      c.sound_gap.ensures ∙ ap (sound_gap _ _) (lent-first q side),
      c.sound_pair-2.ensures ∙ ap (sound_pair _ _) (lent-second q side),
      c.sound_pair-3.ensures ∙ ap (sound_pair _ _) (lent-third q side),
      c.sound_pair-4.ensures ∙ ap (sound_pair _ _) (lent-fourth q side),
      c.sound_pair-5.ensures,
      c.mark_within.ensures,
      c.one_half.ensures,
      c.one_half-2.ensures,
      c.one_half-3.ensures,
      c.holding_sizes.ensures,
      c.no_quotation.ensures,
    )
