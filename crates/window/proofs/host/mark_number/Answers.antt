-- `host::mark_number` meets its contract, mark by mark.
use Rattle.window.specs.Rules.Host.{no_mark}
use Rattle.window.proofs.host.mark_number.Goals as goal

pub returns-in-None : goal.returns-in-None
unfolding no_mark
returns-in-None c = rw c.in-None.is
