-- `host::chidukwore_open` meets its contract: it is the opening call, in numbers.
use Rattle.std.proofs.Common.{rules}
use Rattle.window.proofs.Laws.HostNumbers.{opened-given, ended}
use Rattle.window.proofs.host.chidukwore_open.Goals as goal

pub returns-in-Ok : goal.returns-in-Ok
returns-in-Ok c =
    ended (search rules) (search rules) (search rules) (search rules)
    (opened-given _ _ c.in_numbers.ensures _ _ _ _ c.in-Ok.ensures.answers)

pub returns-in-Err : goal.returns-in-Err
returns-in-Err c =
    ended (search rules) (search rules) (search rules) (search rules)
    (opened-given _ _ c.unopened.ensures _ _ _ _ c.in-Err.ensures.answers)
