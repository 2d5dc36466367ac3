-- `send` tests as the definition does: SIZE, then TEXT, then what the bytes need.
use mathlib.Core.Path.{◌∙◌}
use Rattle.window.proofs.Laws.SendCall.{size-refused, rows_pass, text-refused, cells-printed}
use mathlib.Core.Path.{ap}
use mathlib.Core.Bool.{not}
use Rattle.window.proofs.sender.send.Goals as goal

pub returns-then-not-is_sendable : goal.returns-then-not-is_sendable
returns-then-not-is_sendable c = size-refused _ _ _ _ _ _ _ _ c.is_sendable.ensures (ap not c.if-not-is_sendable.true) c.unsent.ensures

pub send_counted-requires : goal.send_counted-requires
send_counted-requires c = rows_pass _ _ _ _ _ _ _ c.is_sendable.ensures (ap not c.if-not-is_sendable.false)

pub returns-in_default : goal.returns-in_default
returns-in_default c =
    c.send_counted.ensures
    ∙ cells-printed _ _ _ _ _ _ _ _ c.is_sendable.ensures (ap not c.if-not-is_sendable.false) c.bad_cell.ensures
    c.in_default.is

pub returns : goal.returns
returns c =
    text-refused _ _ _ _ _ _ _ _ c.is_sendable.ensures (ap not c.if-not-is_sendable.false) c.bad_cell.ensures
    _ c.in-Some.is c.unsent-2.ensures
