-- What is explained of a card is so: the explanation of its violation v at step k.
use Prim.Native.Nat.{ℕ, ◌+◌, ◌*◌, ◌<◌}
use mathlib.Core.Path.{◌≡◌, refl, ap, ◌∙◌}
use mathlib.Core.Bool.{Bool, true, false}
use mathlib.Core.List.{List, [], ◌∷◌}
use native.Mathlib.Omega.{arith}
use borrow.Author.Tests.{eqb-true}
use lib.Dec.{eqb}
use lib.ListN.{length}
use Rattle.machine.specs.Record.{state_of}
use Rattle.checker.proofs.Origins.{Tells, run_tells}
use Rattle.card.specs.Card.{number32, record_of_lem, code_buffer, data_buffer}
use Rattle.card.proofs.Tab.{tab_length}
use Rattle.judge.specs.Judging.{ruled, ran_of, refused_by, judging, explained_by}
use Rattle.judge.proofs.Ruled.{judging_accepted, explained_accepted}

-- The answer of the judge is the run's where it is no acceptance
own_answer : (o : ℕ × List ℕ) (dpc v : ℕ) (vs : List ℕ) → 0 < v → ruled o dpc ≡ (v, vs) → o ≡ (v, vs)
own_answer o dpc v vs z e = by (eqb o.0 0) refl e
  where
    by : (t : Bool) → eqb o.0 0 ≡ t → ruled o dpc ≡ (v, vs) → o ≡ (v, vs)
    by true q f =
        let n : o.0 ≡ v = ap (λ (a : ℕ × List ℕ). a.0) (rw q at f) in
        let m : o.0 ≡ 0 = eqb-true o.0 0 q in
        absurd (omega arith)
    by false q f = rw q at f

-- A card's record has 32 general registers
registers : (card : List ℕ) → length (record_of_lem card).gpr ≡ 32
unfolding record_of_lem
registers card = tab_length (λ i. number32 card (36 + 4 * i)) 32

pub card_tells : (card : List ℕ) (v k x w : ℕ) → refused_by card ≡ 0 → 0 < v → judging card ≡ (v, k ∷ x ∷ w ∷ [])
    → Tells (record_of_lem card).code (record_of_lem card).«data» (code_buffer card) (state_of (record_of_lem card), data_buffer card) k (explained_by card)
card_tells card v k x w a z e =
    rw (← (explained_accepted card a))
    (run_tells (record_of_lem card) (code_buffer card) (data_buffer card) v k x w (registers card) z (own_answer (ran_of card).0 (ran_of card).1.dpc v (k ∷ x ∷ w ∷ []) z (judging_accepted card a ∙ e)))
