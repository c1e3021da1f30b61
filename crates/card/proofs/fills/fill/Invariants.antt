use Rattle.std.proofs.Common.{ℕ, ◌<◌, get_or}
use Rattle.card.proofs.fills.fill.Given as goal

abbrev pub invariant-loop-i : goal.invariant-loop-i
invariant-loop-i g l = (k : ℕ) (d : _) → k < l.i → goal.F-post g l.value k (get_or l.buffer k d)
