-- What the private functions promise each other: the definitions of Events and Steps by their parts.
use Rattle.std.specs.Prelude.{ℕ, Bool, true, false, List, [], ◌∷◌, drop, eqb, Result, Ok, Err}
use Rattle.machine.specs.declared.Effect.{Effect}
use Rattle.machine.specs.declared.Machine.{Machine}
use Rattle.machine.specs.Effects.{State, act}
use Rattle.machine.specs.Record.{first, with_state}
use Rattle.vamp.specs.Events.{table, unmodelled, stepped, interrupt, past, MISALIGNED}
use Rattle.vamp.specs.Steps.{Vamp, Course, answered}
use Rattle.vamp.specs.declared.Answer.{Answer}

-- A step that is taken answers Ok, one that is not Err
abbrev pub judged : Result Answer Answer → Bool × (ℕ × ℕ)
judged (Ok a) = (true, answered a)
judged (Err a) = (false, answered a)

-- The step of an answer is taken where its number is 0
abbrev pub passes : ℕ × ℕ → Bool × (ℕ × ℕ)
passes a = (eqb a.0 0, a)

abbrev pub course : ℕ → ℕ × ℕ → ℕ → Vamp → Course
course n a m x = record { steps = n; answer = a; masked = m; left = x }

-- What a run of a record answers by its course
abbrev pub course_of : Machine → Course → ℕ × (ℕ × ℕ) × ℕ × Machine × List ℕ
course_of m c = (c.steps, c.answer, c.masked, with_state m c.left.0, c.left.1)

-- Event 3 and those after it, of a word that was fetched
unfoldable pub word_event : ℕ → State → ℕ × ℕ
word_event w s = first (drop 2 (table s.dpc w (act w s).0 s.spr)) (stepped 0)

-- Event 4 and those after it, of an effect
unfoldable pub effect_event : Effect → List ℕ → ℕ × ℕ
effect_event e p = first (drop 3 (table 0 0 e p)) (stepped 0)

-- Events 4 and 5, of an access at a that is askew or not; of a fetch, 1 and 2
unfoldable pub access_event : Bool → ℕ → ℕ × ℕ
access_event t a = first ((t, interrupt MISALIGNED) ∷ (unmodelled a, past) ∷ []) (stepped 0)
