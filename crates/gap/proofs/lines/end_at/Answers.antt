-- `lines::end_at` meets its contract: there is no newline from place `at` up to where the search begins, and none before the first one.
use native.Mathlib.Omega.{arith}
use Rattle.gap.proofs.Laws.Runs.{tail-lent}
use Rattle.gap.proofs.Laws.LineScans.{unbroken-until, unbroken-rest, newline-behind}
use Rattle.gap.proofs.Laws.LinePlaces.{unbroken-ends}
use Rattle.gap.proofs.lines.end_at.Goals as goal

pub returns-in-Some : goal.returns-in-Some
returns-in-Some c =
    let lent = tail-lent c.front_without-start.result c.args.s.now in
    unbroken-ends _ _
    (unbroken-until c.front_without-start.ensures lent c.in-Some.i (omega (arith, c.in-Some.ensures.inside)) c.in-Some.ensures.none_before)
    (λ inside. newline-behind c.front_without-start.ensures lent c.in-Some.i c.in-Some.ensures.newline)

pub returns-in-None : goal.returns-in-None
returns-in-None c =
    unbroken-ends _ _
    (unbroken-rest c.front_without-start.ensures (tail-lent c.front_without-start.result c.args.s.now) c.in-None.ensures.none)
    (λ inside. absurd (omega arith))
