-- The starred cases of "Checked by hand" hold.
use mathlib.Core.Path.{refl}
use Rattle.words.specs.Fields.{opcode, function, field, immediate16, immediate26}
use Rattle.words.specs.Words.{reading}
use Rattle.arithmetic.specs.Rulings.{plus, sext, satisfies}
use Rattle.machine.specs.Effects.{act, moved, meaning, applied, register, put, access, askew, mode_set, illegal}
use Rattle.machine.specs.Record.{word_at}
use Rattle.checker.specs.Checks as checks
use Rattle.checker.specs.Checks.{violation, next, outside, foreign, admits}
use Rattle.vamp.specs.Memory.{part}
use Rattle.vamp.specs.Events.{event, access_past, trapped, overflowed, overflow_masked}
use Rattle.vamp.specs.Steps as steps
use Rattle.vamp.specs.Steps.{vstep}
use Rattle.agreement.specs.Starred.{starred, Each}

pub by_hand : Each starred
unfolding reading opcode function field immediate16 immediate26 act moved meaning applied register put plus sext satisfies access askew mode_set illegal word_at violation next outside foreign admits checks.found part event access_past trapped overflowed overflow_masked steps.found vstep
by_hand =
    (refl, (refl, (refl, (refl, (refl, (refl, (refl, (record { no_test = refl; drawn = refl; no_event = refl; shipped = refl }, (record { no_test = refl; drawn = refl; no_event = refl; shipped = refl }, (record { no_test = refl; drawn = refl; no_event = refl; shipped = refl }, (record { no_test = refl; drawn = (refl, refl, refl); no_event = refl; shipped = (refl, refl, refl) }, tt)))))))))))
