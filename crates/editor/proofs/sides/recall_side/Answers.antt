-- `recall_side`: refused where the pair does not fit or makes a line too long, and else landed with both halves more.
use mathlib.Core.Path.{refl, sym, ap, ◌∙◌}
use native.Mathlib.Omega.{arith}
use lib.ListN.{length}
use Rattle.gap.specs.Rules.Doc.{splice}
use Rattle.gap.specs.Rules.Layout.{gapped, ungap}
use Rattle.gap.specs.Wording.Views.{seen}
use Rattle.editor.proofs.Laws.Splices.{halves-fit}
use Rattle.editor.proofs.Laws.SideEdits.{recall-refused, recall-long, recall-done}
use Rattle.editor.proofs.sides.recall_side.Goals as goal

pub returns-then-text-n : goal.returns-then-text-n
returns-then-text-n c = recall-refused c.requires refl c.if-text-n.true

pub pair_fits-requires : goal.pair_fits-requires
pair_fits-requires c =
    record {
      lengths = omega (
        arith,
        c.requires.gap.fits,
        c.if-text-n.false,
        c.of.ensures.lengths,
        c.of_pair-pair.ensures.lengths,
      );
      halves_fit = rw c.of.ensures.holds (halves-fit _ _ c.requires.lines);
    }

pub returns-then-not-pair_fits : goal.returns-then-not-pair_fits
returns-then-not-pair_fits c =
    recall-long c.requires refl c.if-text-n.false (sym (rw (c.of.ensures.holds, c.of_pair-pair.ensures.holds) at c.pair_fits.ensures) ∙ c.if-not-pair_fits.true)

pub returns : goal.returns
unfolding seen
returns c =
    recall-done c.requires refl refl c.if-text-n.false (sym (rw (c.of.ensures.holds, c.of_pair-pair.ensures.holds) at c.pair_fits.ensures) ∙ c.if-not-pair_fits.false)
    (c.place_pair.ensures
    ∙ ap (λ pair. gapped (length c.args.text.now) (splice 0 0 pair (ungap c.args.n.l c.args.n.r c.args.text.now))) c.of_pair-pair.ensures.holds)
