-- `exchange_fits`: past the test for the pattern no difference can wrap, and what is left is one comparison.
use Prim.Native.Nat.{◌+◌, ◌-◌}
use native.Mathlib.Omega.{arith}
use Rattle.editor.proofs.Laws.ReplaceRoom.{same_test}
use Rattle.editor.proofs.searches.exchange_fits.Goals as goal

pub returns-then-not-here : goal.returns-then-not-here
returns-then-not-here c = rw c.if-not-here.true

pub returns : goal.returns
returns c =
    rw c.if-not-here.false
    (same_test (c.args.n.xl + c.args.n.xr) (c.args.n.main.l + c.args.n.main.r - c.args.n.pl) c.args.size (omega (arith, c.requires.r_bound)))
