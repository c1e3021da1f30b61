use Rattle.judge.proofs.Ruled.{refusal_explained, run_explained}
use Rattle.judge.proofs.explain.Goals as goal

pub returns-in-Ok : goal.returns-in-Ok
returns-in-Ok c = run_explained c.args.card.now c.in-Ok.ensures.refused c.in-Ok.machine _ _ c.in-Ok.ensures.ok c.run.result.explanation c.run.ensures.explained

pub returns-in-Err : goal.returns-in-Err
returns-in-Err c = refusal_explained c.args.card.now c.in-Err.field-0 c.in-Err.ensures.refused
