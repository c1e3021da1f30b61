-- What the private functions of the checked step and of the explanation promise each other, over the definitions of Checks and Seven.
use Rattle.std.specs.Prelude.{◌≡◌, ℕ, suc, ◌-◌, ◌*◌, ◌%◌, ◌<◌, ◌≤◌, true, false, not, List, [], ◌∷◌, length, ◌==◌, slice_index, slice_index_or, Option, Some, None, Result, Ok, Err}
use Rattle.words.specs.Fields.{pick}
use Rattle.machine.specs.declared.Machine.{Machine}
use Rattle.machine.specs.declared.Region.{Region}
use Rattle.machine.specs.Effects.{State, act, unaligned}
use Rattle.machine.specs.Record.{holds, first, state_of, word_at}
use Rattle.checker.specs.declared.Test.{Test}
use Rattle.checker.specs.declared.checked.Stop.{Stop}
use Rattle.checker.specs.Checks.{test_no, fetched, violation, next}
use Rattle.checker.specs.declared.running.Ran.{Ran}
use Rattle.checker.specs.Runs.{told, verdict_answer, running}
use Rattle.checker.specs.declared.Verdict.{Verdict}
use Rattle.checker.specs.declared.Verdict.TheVariants.{Refused, Accepted, Violation}
use Rattle.checker.specs.declared.At.{At}
use Rattle.checker.specs.declared.Source.{Source}
use Rattle.checker.specs.declared.Source.TheVariants as from
use Rattle.checker.specs.declared.retracing.Retraced.{Retraced}
use Rattle.checker.specs.Seven.{target, before, place_of, writes, last_writer}

-- A region lies in its list
abbrev pub Room : Region → List ℕ → Type 0
Room r ws = r.words ≤ length ws

-- The regions of a record lie in their lists
abbrev pub Rooms : Machine → List ℕ → List ℕ → Type 0
Rooms m code ws = Room m.code code × Room m.«data» ws

-- How far into a region an address lies, in bytes; as far as the region's end or farther where it lies outside
abbrev pub Offset : Region → ℕ → ℕ → Type 0
Offset r a n = (n < 4 * r.words → (holds r a ≡ true) × (n ≡ a - r.start)) × (4 * r.words ≤ n → holds r a ≡ false)

-- The word that is fetched, or the first of tests 21 and 22 that stops it
abbrev pub Fetches : Region → ℕ → List ℕ → Result ℕ Stop → Type 0
Fetches c a code (Ok w) = (a % 4 ≡ 0) × (holds c a ≡ true) × (w ≡ word_at c code a)
Fetches c a code (Err x) = (first ((unaligned 4 a, 21) ∷ (not (holds c a), 22) ∷ []) 0 ≡ test_no x.test) × (x.word ≡ 0)

-- A step that was taken, with the general register that it wrote, or stopped with nothing changed
abbrev pub Stepped : Machine → List ℕ → State → List ℕ → Result ℕ Stop → State → List ℕ → Type 0
Stepped m code s ws (Ok r) s' ws' =
    (violation m.code m.«data» code s ≡ 0)
    × (◌≡◌ {A = State × List ℕ} (s', ws') (next m.code m.«data» code (s, ws)))
    × (r ≡ target (act (fetched m.code code s) s).0)
Stepped m code s ws (Err x) s' ws' =
    (violation m.code m.«data» code s ≡ test_no x.test)
    × (x.word ≡ told (test_no x.test) (fetched m.code code s))
    × (s' ≡ s)
    × (ws' ≡ ws)

-- The number of the test that is broken, 0 where none is
abbrev pub broken_no : Result Unit Test → ℕ
broken_no (Ok u) = 0
broken_no (Err t) = test_no t

-- Tests 25 and 26 of what is loaded or stored in n bytes from an address
abbrev pub access_number : ℕ → Region → ℕ → ℕ
access_number n r a = first ((unaligned n a, 25) ∷ (not (holds r a), 26) ∷ []) 0

-- A run that ended: its answer, state and data are those of the definition, and the register is the one that its last step wrote
abbrev pub Ended : Machine → List ℕ → ℕ → State → List ℕ → Ran → State → List ℕ → Type 0
Ended m code n s ws r s' ws' =
    (◌≡◌ {A = (ℕ × List ℕ) × (State × List ℕ)} (verdict_answer r.verdict, (s', ws')) (running m.code m.«data» code 0 n (s, ws)))
    × ((k : ℕ) → slice_index (verdict_answer r.verdict).1 0 ≡ suc k → r.wrote ≡ writes m.code m.«data» code (s, ws) k)

-- ---- The explanation

-- The regions of a record lie in their lists, and the first n steps of its run break no test
abbrev pub Passed : Machine → List ℕ → List ℕ → ℕ → Type 0
Passed m code ws n = Rooms m code ws × ((j : ℕ) → j < n → violation m.code m.«data» code (before m.code m.«data» code (state_of m, ws) j) ≡ 0)

-- A run's verdict: a violation has its step, before which none breaks a test
abbrev pub Answered : Machine → List ℕ → List ℕ → Verdict → Type 0
Answered m code ws (Refused r) = Unit {0}
Answered m code ws (Accepted k) = Unit {0}
Answered m code ws (Violation v) = Passed m code ws v.at.step

-- The source of a register's value, by what is noted of the registers' last writers
abbrev pub noted : Option At → Source
noted None = from.Card
noted (Some a) = from.Step a

abbrev pub noted_of : List (Option At) → ℕ → Source
noted_of ws n = noted (slice_index_or ws n None)

abbrev pub noted_source : List (Option At) → ℕ → Source
noted_source ws n = pick (n % 32 == 0) from.Zero (noted_of ws (n % 32))

-- A run whose first n steps were taken again: the step that comes next, the state before it, and the last writer of each general register but R0
abbrev pub Retraces : Machine → List ℕ → List ℕ → ℕ → Retraced → Type 0
Retraces m code ws n r =
    let p : State × List ℕ = (state_of m, ws) in
    (r.next ≡ place_of m.code m.«data» code p n)
    × (r.state ≡ before m.code m.«data» code p n)
    × ((k : ℕ) → 0 < k → k < 32 → noted_of r.writers k ≡ last_writer m.code m.«data» code p k n)
