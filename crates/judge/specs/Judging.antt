-- What is said of a card: loaded, then run.
use Rattle.std.specs.Prelude.{ℕ, List, [], ◌∷◌, ◌++◌, eqb, Option, None}
use Rattle.words.specs.Fields.{pick}
use Rattle.machine.specs.Record.{DOUBLE_WORDS, LONGEST}
use Rattle.machine.specs.declared.Machine.{Machine}
use Rattle.checker.specs.declared.Explanation.{Explanation}
use Rattle.checker.specs.Runs.{runs}
use Rattle.checker.specs.Seven.{explaining}
use Rattle.card.specs.Card.{record_of_lem, code_buffer, data_buffer, refusal}
use Rattle.judge.specs.declared.Ruling.{Ruling}
use Rattle.judge.specs.declared.Ruling.TheVariants.{Refused, Accepted, Violation}

-- The paper's number and values of each ruling: a refusal; accepted (0) with the steps taken and the next DPC; a violation with its step, DPC and word
abbrev pub answer_of : Ruling → ℕ × List ℕ
answer_of (Refused n) = (n, [])
answer_of (Accepted n d) = (0, n ∷ d ∷ [])
answer_of (Violation v a) = (v, a.step ∷ a.dpc ∷ a.word ∷ [])

-- A run's answer with the DPC that it leaves: accepted (0) tells it after the steps
abbrev pub ruled : ℕ × List ℕ → ℕ → ℕ × List ℕ
ruled o dpc = pick (eqb o.0 0) (o.0, o.1 ++ dpc ∷ []) o

-- The run of a card's record, over the buffers that loading leaves: its answer, record and data
abbrev pub ran_of : List ℕ → (ℕ × List ℕ) × Machine × List ℕ
ran_of card = runs (record_of_lem card) (code_buffer card) (data_buffer card)

-- The number by which a card is refused, the buffers having the right lengths; 0 where it is not
abbrev pub refused_by : List ℕ → ℕ
refused_by card = refusal card LONGEST LONGEST DOUBLE_WORDS

-- A refused card is answered by its number, any other by its run
unfoldable pub judging : List ℕ → ℕ × List ℕ
judging card = pick (eqb (refused_by card) 0) (ruled (ran_of card).0 (ran_of card).1.dpc) (refused_by card, [])

-- Document 02, request Seven: the explanation that a card's run gives with its answer. A refused card is not run
unfoldable pub explained_by : List ℕ → Option Explanation
explained_by card = pick (eqb (refused_by card) 0) (explaining (record_of_lem card) (code_buffer card) (data_buffer card) (ran_of card).0) None
