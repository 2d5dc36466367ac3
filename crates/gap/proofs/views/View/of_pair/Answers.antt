-- `View::of_pair`: the halves of a pair store stand one behind the other.
use native.Mathlib.Omega.{arith}
use Rattle.std.proofs.Common.{◌≡◌, ap, ◌+◌, ◌-◌, take, drop}
use Rattle.gap.specs.Rules.Layout.{unpair}
use Rattle.gap.specs.Wording.Views.{seen}
use Rattle.gap.proofs.views.View.of_pair.Goals as goal

pub returns-clause-holds : goal.returns-clause-holds
unfolding seen unpair
returns-clause-holds c =
    let half : c.args.x + c.args.y - c.args.x ≡ c.args.y = omega arith in
    ap (λ n. record { l = take c.args.x c.args.s.now; r = take n (drop c.args.x c.args.s.now) }) half
