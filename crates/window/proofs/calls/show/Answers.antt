-- `show` follows the cursor, paints and names rows: what the definition shows of the state held, whatever the stores of recall text and held text hold.
use native.Mathlib.Nat.{le_refl}
use Rattle.window.specs.Wording.Calls.{virtual_held}
use Rattle.window.proofs.Laws.KeyCall.{row-from-one, still-visible, offset-row, offset-column, shown-canvas, shows-so}
use Rattle.window.proofs.calls.show.Goals as goal

pub cursor-spot-requires : goal.cursor-spot-requires
cursor-spot-requires c = record { has_texts = (_, le_refl _, c.requires.texts); above_value = c.requires.above_value }

pub follow-g-requires : goal.follow-g-requires
follow-g-requires c = row-from-one (virtual_held c.args.done.lengths c.args.text.now c.args.side.now) _ (c.cursor-spot.ensures _ c.requires.texts)

pub refresh-named-requires : goal.refresh-named-requires
refresh-named-requires c =
    record {
      texts = c.requires.texts;
      canvas = (
        shown-canvas _ _ _ _ c.args.screen.now c.requires.texts c.requires.w_value.0 c.requires.w_value.1 _
            (c.cursor-spot.ensures _ c.requires.texts) _ c.follow-g.ensures,
        still-visible _ _ _ _ c.args.screen.now c.requires.texts c.requires.w_value.0
            c.requires.w_value.1 _ (c.cursor-spot.ensures _ c.requires.texts) _ c.follow-g.ensures,
      );
    }

pub overflow_sub-result : goal.overflow_sub-result
overflow_sub-result c =
    offset-row _ _ _ _ c.args.screen.now c.requires.texts c.requires.w_value.0 c.requires.w_value.1 _ (c.cursor-spot.ensures _ c.requires.texts) _
    c.follow-g.ensures

pub overflow_sub-result-2 : goal.overflow_sub-result-2
overflow_sub-result-2 c =
    offset-column _ _ _ _ c.args.screen.now c.requires.texts c.requires.w_value.0 c.requires.w_value.1 _ (c.cursor-spot.ensures _ c.requires.texts) _
    c.follow-g.ensures

pub returns-clause-shows : goal.returns-clause-shows
returns-clause-shows c =
    λ recall held sound fit.
    shows-so _ _ _ _ _ c.requires.texts c.requires.w_value.0 c.requires.w_value.1 _ (c.cursor-spot.ensures _ c.requires.texts) _ c.follow-g.ensures _
    _ _ c.refresh-named.ensures recall held sound
