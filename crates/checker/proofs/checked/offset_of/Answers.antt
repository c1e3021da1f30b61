use Rattle.std.proofs.Common.{arith}
use Rattle.checker.proofs.Tests.{offset_wraps}
use Rattle.checker.proofs.checked.offset_of.Goals as goal

pub returns : goal.returns
returns c = offset_wraps c.args.region c.args.address _ (omega arith) (omega arith) (omega arith) (omega arith) (omega arith)
