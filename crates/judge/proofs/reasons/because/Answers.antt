use Rattle.judge.specs.Because.{led_text, jr_text}
use Rattle.judge.proofs.Appending.{finished, then, last}
use Rattle.judge.proofs.reasons.because.Goals as goal

pub returns-in-Jr-clause-value : goal.returns-in-Jr-clause-value
unfolding led_text jr_text
returns-in-Jr-clause-value c =
    let led = then c.put-start.ensures.value (then c.put-in-Jr.ensures.value (last c.put_step-in-Jr.ensures.value)) in
    rw (c.in-Some.is, c.in-Jr.is) (finished c.empty-2.ensures.value (then led (then c.put-in-Jr-2.ensures.value (then c.put_from-in-Jr.ensures.value c.put-in-Jr-3.ensures.value))))
