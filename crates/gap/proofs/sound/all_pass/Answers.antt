-- `sound::all_pass` meets its contract: the flag tells whether the bytes passed pass the test, and what is left decides.
use Rattle.gap.proofs.Laws.Scans.{tested-more, tested-all}
use Rattle.gap.proofs.sound.all_pass.Goals as goal

pub loop-b-preserved : goal.loop-b-preserved
loop-b-preserved g c = λ passes says.
    tested-more passes _ _ _ (c.loop-b.invariant passes says) c.loop-b-test.true (says _ _ c.test-ok.ensures)

pub returns : goal.returns
returns g c = λ passes says. tested-all passes _ _ _ (c.loop-b.invariant passes says) c.loop-b-test.false
