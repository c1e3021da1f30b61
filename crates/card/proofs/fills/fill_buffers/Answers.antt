use Rattle.std.proofs.Common.{rules}
use Rattle.machine.specs.Record.{LONGEST, DOUBLE_WORDS}
use Rattle.card.proofs.Tab.{tab_of}
use Rattle.card.proofs.Loading.{worked}
use Rattle.card.proofs.fills.fill_buffers.Goals as goal

pub returns : goal.returns
returns c =
    worked c.args.card.now c.requires.of_card
    (tab_of _ LONGEST _ (search rules) (λ i l. let h = c.fill.ensures i 0 in search rules))
    (tab_of _ LONGEST _ (search rules) (λ i l. let h = c.fill-2.ensures i 0 in search rules))
    (tab_of _ DOUBLE_WORDS _ (search rules) (λ i l. let h = c.fill-3.ensures i 0 in search rules))
