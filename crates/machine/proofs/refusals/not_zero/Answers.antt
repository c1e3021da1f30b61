use Rattle.std.proofs.Common.{◌≡◌, length, arith, eq-eqb}
use Rattle.machine.proofs.Idle.{idle_slice}
use Rattle.machine.specs.Record.{not_zero_lem}
use Rattle.machine.proofs.refusals.not_zero.Goals as goal

pub returns-else-machine-ne0 : goal.returns-else-machine-ne0
unfolding not_zero_lem
returns-else-machine-ne0 c =
    let h : length c.args.machine.now.spr ≡ 32 = omega arith in
    rw (eq-eqb _ _ c.if-machine-ne0.false, c.any_set.ensures) (idle_slice c.args.machine.now.spr h)
