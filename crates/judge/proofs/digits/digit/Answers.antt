use native.Mathlib.Nat.{one-le-pow}
use Rattle.judge.proofs.digits.digit.Goals as goal

pub nonzero_div-n : goal.nonzero_div-n
nonzero_div-n c = rw c.pow.ensures (one-le-pow c.args.k c.args.base c.requires.base_low)
