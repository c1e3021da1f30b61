use Prim.Native.Nat.{ℕ, ◌-◌, ◌/◌, ◌%◌, ◌^◌, ◌≤◌, ◌<◌}
use mathlib.Core.Path.{◌≡◌, refl, ◌∙◌}
use native.Mathlib.Nat.{pow-le-pow_right}
use native.Mathlib.Omega.{arith}
use Rattle.std.proofs.Common.{rules}
use Rattle.std.proofs.iter.Serving.{serving}
use Rattle.card.specs.Card.{tab}
use Rattle.card.proofs.Tab.{tab_from_fn}
use Rattle.judge.specs.Digits.{digits, glyph}
use Rattle.judge.specs.Line.{hex}
use Rattle.judge.proofs.hex.Goals as goal

below : (k : ℕ) → k ≤ 7 → 16 ^ k < 2 ^ 32
below k l = let most : 16 ^ k ≤ 16 ^ 7 = pow-le-pow_right {n = 16} (omega arith) {i = k} {j = 7} l in omega arith

pub from_fn-requires : goal.from_fn-requires
from_fn-requires c = grind (serving, arith, below)

in_order : (n : ℕ) → tab (λ i. glyph (n / 16 ^ (7 - i) % 16)) 8 ≡ hex n
unfolding tab hex digits
in_order n = refl

pub returns : goal.returns
returns c = tab_from_fn _ _ (λ i. glyph (c.args.word / 16 ^ (7 - i) % 16)) (λ i y q k. search rules) _ 8 c.from_fn.ensures.items ∙ in_order c.args.word
