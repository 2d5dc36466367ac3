-- `Writer::put_row` writes the row's spot and then its cells, which are lent from the screen.
use mathlib.Core.Path.{ap, ◌∙◌}
use native.Mathlib.Omega.{arith}
use Rattle.window.specs.Wording.Writing.{filled}
use Rattle.window.proofs.Laws.Sequences.{row-whole, spot-room}
use Rattle.window.proofs.Laws.Writer.{filled-none, room-behind, filled-more}
use Rattle.window.proofs.writer.Writer.put_row.Goals as goal

pub put_spot-requires : goal.put_spot-requires
put_spot-requires c = spot-room c.args.w c.args.above c.args.screen.now c.requires.above_bound.1 c.args.self.now.at c.requires.above_in_bounds

pub put-requires : goal.put-requires
put-requires c =
    let whole = row-whole c.args.w c.args.above c.args.screen.now c.requires.above_bound.1 in
    let spot = spot-room c.args.w c.args.above c.args.screen.now c.requires.above_bound.1 c.args.self.now.at c.requires.above_in_bounds in
    room-behind (filled-more (filled-none c.args.self.now (omega arith)) _ spot c.put_spot.ensures) _ (rw whole c.requires.above_in_bounds)

pub returns : goal.returns
returns c =
    let whole = row-whole c.args.w c.args.above c.args.screen.now c.requires.above_bound.1 in
    let spot = spot-room c.args.w c.args.above c.args.screen.now c.requires.above_bound.1 c.args.self.now.at c.requires.above_in_bounds in
    (filled-more (filled-more (filled-none c.args.self.now (omega arith)) _ spot c.put_spot.ensures) _ (rw whole c.requires.above_in_bounds)
    c.put.ensures).same
    ∙ ap (filled c.args.self.now) whole
