use mathlib.Core.Path.{◌≡◌}
use Prim.Native.Nat.{suc, ◌-◌}
use native.Mathlib.Omega.{arith}
use Rattle.judge.specs.Digits.{digits}
use Rattle.judge.specs.Line.{decimal}
use Rattle.judge.proofs.Appending.{nothing, then}
use Rattle.judge.proofs.lines.Line.put_decimal.Goals as goal

pub loop-place-init : goal.loop-place-init
unfolding decimal
loop-place-init c = record { rest = λ m p. rw (← c.places-place.ensures.value) p; room = omega arith }

pub loop-place-preserved : goal.loop-place-preserved
unfolding digits
loop-place-preserved c =
    let below : suc (c.loop-place.place - 1) ≡ c.loop-place.place = omega arith in
    record { rest = λ m p. c.loop-place.invariant.rest m (rw (← below) (then (rw c.digit.ensures at c.put-line.ensures.value) p)); room = omega arith }

pub returns-clause-value : goal.returns-clause-value
unfolding digits
returns-clause-value c =
    let none : c.loop-place.place ≡ 0 = omega arith in
    c.loop-place.invariant.rest c.loop-place.line (rw none (nothing c.loop-place.line))
