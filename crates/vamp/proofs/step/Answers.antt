use Rattle.vamp.proofs.Calls.{only}
use Rattle.vamp.proofs.step.Goals as goal

pub returns : goal.returns
returns c = only _ _ _ _ _ _ _ c.run-ran.ensures
