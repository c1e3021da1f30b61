use Rattle.std.proofs.Common.{◌≡◌, ℕ, ◌^◌, ◌-◌, ◌≤◌, nat_eq, not, bit_and, ◌∙◌}
use Rattle.std.proofs.lemmas.Nat.{and_mask, pow_pos}
use Rattle.machine.specs.Effects.{unaligned}
use Rattle.machine.proofs.sizes.askew.Goals as goal

-- A power of two is at least 1, and less 1 it masks the remainder
some_size : (s k : ℕ) → s ≡ 2 ^ k → 1 ≤ s
some_size s k e = rw e (pow_pos k)

masked : (a s k : ℕ) → s ≡ 2 ^ k → not (nat_eq (bit_and a (s - 1)) 0) ≡ unaligned s a
masked a s k e = rw (e, and_mask a k)

pub overflow_sub-result : goal.overflow_sub-result
overflow_sub-result g c = let p = g.met.K.Access.power c.args.kind in some_size _ p.0 (c.size.ensures ∙ p.1)

pub returns : goal.returns
returns g c = let p = g.met.K.Access.power c.args.kind in rw (← c.size.ensures) (masked c.args.address c.size.result p.0 (c.size.ensures ∙ p.1))
