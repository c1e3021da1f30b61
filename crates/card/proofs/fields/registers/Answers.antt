use Rattle.std.proofs.Common.{rules, ◌+◌, ◌*◌}
use Rattle.card.specs.Card.{number32}
use Rattle.card.proofs.Tab.{tab_from_fn}
use Rattle.card.proofs.fields.registers.Goals as goal

pub returns : goal.returns
returns c = tab_from_fn _ _ (λ i. number32 c.args.card.now (c.args.from + 4 * i)) (λ i y q k. search rules) _ 32 c.from_fn.ensures.items
