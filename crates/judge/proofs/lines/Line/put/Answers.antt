use native.Mathlib.Omega.{arith}
use Rattle.judge.proofs.Appending.{put_extends}
use Rattle.judge.proofs.lines.Line.put.Goals as goal

pub returns-clause-value : goal.returns-clause-value
returns-clause-value c = put_extends c.args.self c.args.text.now c.copy_from_slice.new.self _ c.requires c.copy_from_slice.ensures.after (omega arith)
