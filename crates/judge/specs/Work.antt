-- What the judge's functions say to one another.
use Rattle.std.specs.Prelude.{ℕ, ◌≡◌, List, [], ◌∷◌, ◌++◌}
use Rattle.machine.specs.Record.{refusal_no}
use Rattle.card.specs.Card.{record_of_lem, code_buffer, data_buffer}
use Rattle.checker.specs.declared.Verdict.{Verdict}
use Rattle.checker.specs.declared.Verdict.TheVariants.{Refused, Accepted, Violation}
use Rattle.checker.specs.Checks.{test_no}
use Rattle.machine.specs.declared.Machine.{Machine}
use Rattle.judge.specs.declared.lines.Line.{Line}
use Rattle.judge.specs.Line.{line_of}

-- The record and the buffers that a card loads
abbrev pub program_of : List ℕ → Machine × List ℕ × List ℕ
program_of card = (record_of_lem card, code_buffer card, data_buffer card)

-- The answer of a verdict's ruling, the next DPC being known
abbrev pub ruling_of_lem : Verdict → ℕ → ℕ × List ℕ
ruling_of_lem (Refused r) dpc = (refusal_no r, [])
ruling_of_lem (Accepted k) dpc = (0, k ∷ dpc ∷ [])
ruling_of_lem (Violation v) dpc = (test_no v.test, v.at.step ∷ v.at.dpc ∷ v.at.word ∷ [])

-- The line m is the line l with a text behind its own
pub record Extends (l m : Line) (text : List ℕ) : Type 0 where
  pub line : (t : List ℕ) → l ≡ line_of t → m ≡ line_of (t ++ text)

-- The most bytes in a second line: of a step, and of a register with its source
abbrev pub STEP_BYTES : ℕ
STEP_BYTES = 41

abbrev pub FROM_BYTES : ℕ
FROM_BYTES = 58
