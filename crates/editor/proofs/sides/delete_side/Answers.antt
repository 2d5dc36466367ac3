-- `delete_side`: refused where the line that is joined is too long, and else d deletions land in both stores.
use mathlib.Core.Path.{refl, sym, ◌∙◌}
use Rattle.editor.proofs.Laws.SideEdits.{kept-halves, deleted, deleted-long}
use Rattle.editor.proofs.sides.delete_side.Goals as goal

pub join_fits-requires : goal.join_fits-requires
join_fits-requires c =
    rw (c.of.ensures.holds, c.deleted_by-m.ensures) (kept-halves c.requires.on_side c.args.way c.args.passage.steps c.requires.steps_bound)

pub returns-then-not-join_fits : goal.returns-then-not-join_fits
returns-then-not-join_fits c =
    deleted-long c.requires.on_side c.args.way _ _ refl c.requires.steps_bound
    (sym (rw (c.of.ensures.holds, c.deleted_by-m.ensures) at c.join_fits.ensures) ∙ c.if-not-join_fits.true)

pub returns : goal.returns
returns c =
    deleted c.requires.on_side c.args.way refl c.went.ensures c.requires.steps_bound
    (sym (rw (c.of.ensures.holds, c.deleted_by-m.ensures) at c.join_fits.ensures) ∙ c.if-not-join_fits.false)
    c.deleted_by-m.ensures c.delete.ensures.s_after c.delete.ensures.pair_after
