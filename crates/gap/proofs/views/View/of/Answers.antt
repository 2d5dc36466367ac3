-- `View::of`: both runs are the store's, whose text right of the cursor ends with it.
use Rattle.std.proofs.Common.{ap, ◌-◌, length, take}
use Rattle.gap.specs.Rules.Layout.{ungap}
use Rattle.gap.proofs.Laws.Runs.{tail-lent}
use Rattle.gap.specs.Wording.Views.{seen}
use Rattle.gap.proofs.views.View.of.Goals as goal

pub returns-clause-holds : goal.returns-clause-holds
unfolding seen ungap
returns-clause-holds c = ap (λ r. record { l = take c.args.l c.args.s.now; r = r }) (tail-lent (length c.args.s.now - c.args.r) c.args.s.now)
