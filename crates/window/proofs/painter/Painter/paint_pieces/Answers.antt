-- `Painter::paint_pieces` meets its contract: the pieces that are left decide.
use mathlib.Core.Path.{◌≡◌, ap}
use mathlib.Core.List.{List, []}
use Prim.Native.Nat.{ℕ, ◌<◌}
use lib.ListN.{length, get_or, length-map}
use Rattle.std.proofs.Common.{map, Bor}
use Rattle.std.proofs.lemmas.List.{get_or-map}
use Rattle.window.specs.Wording.Painter.{sheet_of}
use Rattle.window.proofs.Laws.Painters.{after-none, same-frame, after-step, after-all}
use Rattle.window.proofs.Laws.Pieces.{pieces_none, pieces-all, piece-room, pieces-on}
use Rattle.window.proofs.painter.Painter.paint_pieces.Goals as goal

-- A piece is what its reference points to.
this : (pieces : List (Bor (List ℕ))) (i : ℕ) (d : Bor (List ℕ)) → i < length pieces → get_or (map (λ p. p.now) pieces) i [] ≡ (get_or pieces i d).now
this pieces i d more = get_or-map (λ p. p.now) pieces i d [] more

pub loop-piece-init : goal.loop-piece-init
loop-piece-init c = (after-none c.args.self.now, pieces_none c.requires)

pub paint_piece-requires : goal.paint_piece-requires
paint_piece-requires c =
    rw (same-frame c.loop-piece.invariant.0)
    (piece-room c.loop-piece.invariant.1 (rw length-map c.loop-piece-test.true)
    (this c.args.pieces.now c.loop-piece.piece-index _ c.loop-piece-test.true))

pub loop-piece-preserved : goal.loop-piece-preserved
loop-piece-preserved c = (
  after-step c.loop-piece.invariant.0 c.paint_piece.ensures,
  pieces-on c.loop-piece.invariant.1 (rw length-map c.loop-piece-test.true)
      (this c.args.pieces.now c.loop-piece.piece-index _ c.loop-piece-test.true)
      (rw (same-frame c.loop-piece.invariant.0) at (ap sheet_of c.paint_piece.ensures)),
)

pub returns : goal.returns
returns c = after-all c.loop-piece.invariant.0 (pieces-all c.loop-piece.invariant.1 (rw length-map c.loop-piece-test.false))
