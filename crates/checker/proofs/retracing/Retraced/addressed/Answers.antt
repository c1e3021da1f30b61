use Rattle.std.proofs.Common.{◌≡◌, ◌∙◌}
use Rattle.checker.specs.declared.Explanation.TheVariants as because
use Rattle.checker.proofs.Noted.{addressed_by, addressed_retraced}
use Rattle.checker.proofs.retracing.Retraced.addressed.Goals as goal

pub returns : goal.returns
returns c = λ m code ws j h.
    let s : because.Register c.rs1-number.result c.source_of.result ≡ addressed_by c.args.self.now = rw (c.source_of.ensures, c.rs1-number.ensures) in
    s ∙ addressed_retraced m code ws j c.args.self.now h
