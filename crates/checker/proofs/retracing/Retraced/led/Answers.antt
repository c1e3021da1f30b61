use Rattle.std.proofs.Common.{◌≡◌, sym, ◌∙◌, suc, arith}
use Rattle.checker.specs.declared.Explanation.TheVariants as because
use Rattle.checker.specs.declared.touches.Turn.TheVariants.{On, Taken, By}
use Rattle.checker.specs.Seven.{turn}
use Rattle.checker.proofs.Noted.{led_by, led_retraced}
use Rattle.checker.proofs.retracing.Retraced.led.Goals as goal

pub returns-in-On : goal.returns-in-On
returns-in-On c = λ m code ws j h.
    let e : turn c.args.self.now.next.word c.args.self.now.state.gpr ≡ On = sym c.turned.ensures ∙ c.in-On.is in
    let s : because.RanOn ≡ led_by c.args.self.now = rw (led_by, e) in
    s ∙ led_retraced m code ws (suc (suc j)) j c.args.self.now (omega arith, omega arith) h

pub returns-in-Taken : goal.returns-in-Taken
returns-in-Taken c = λ m code ws j h.
    let e : turn c.args.self.now.next.word c.args.self.now.state.gpr ≡ Taken = sym c.turned.ensures ∙ c.in-Taken.is in
    let s : because.Transfer c.args.self.now.next ≡ led_by c.args.self.now = rw (led_by, e) in
    s ∙ led_retraced m code ws (suc (suc j)) j c.args.self.now (omega arith, omega arith) h

pub returns-in-By : goal.returns-in-By
returns-in-By c = λ m code ws j h.
    let e : turn c.args.self.now.next.word c.args.self.now.state.gpr ≡ By c.in-By.number = sym c.turned.ensures ∙ c.in-By.is in
    let s : because.Jr c.args.self.now.next c.in-By.number c.source_of.result ≡ led_by c.args.self.now = rw (led_by, e, c.source_of.ensures) in
    s ∙ led_retraced m code ws (suc (suc j)) j c.args.self.now (omega arith, omega arith) h
