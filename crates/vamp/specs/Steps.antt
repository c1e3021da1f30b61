-- Document 01, "Events of a VAMP step" and "The run card": a step, a sequence of steps, and what the public calls answer.
use Rattle.std.specs.Prelude.{ℕ, zero, suc, ◌+◌, true, false, not, List, [], ◌∷◌, eqb, length}
use Rattle.words.specs.Fields.{pick}
use Rattle.machine.specs.declared.Machine.{Machine}
use Rattle.machine.specs.declared.Effect.{Effect}
use Rattle.machine.specs.declared.Effect.TheVariants as does
use Rattle.machine.specs.Effects.{State, act, moved}
use Rattle.machine.specs.Record.{DOUBLE_WORDS, first, not_zero_lem, state_of, with_state}
use Rattle.vamp.specs.Memory.{loaded, stored}
use Rattle.vamp.specs.Events.{fetched, event, stepped, interrupt, past, mode, ILLEGAL, MISALIGNED, TRAP, OVERFLOW}
use Rattle.vamp.specs.declared.Answer.{Answer}
use Rattle.vamp.specs.declared.Answer.TheVariants as says

-- ---- A step

-- What the load of an effect finds in memory; nothing else finds anything
unfoldable pub found : Effect → List ℕ → ℕ
found (does.Put n x) mem = 0
found (does.PutSpecial n x) mem = 0
found (does.Sum n x o) mem = 0
found (does.Load k n a) mem = loaded k mem a
found (does.Store k a x) mem = 0
found (does.Trap z) mem = 0
found does.Return mem = 0
found does.Nothing mem = 0

-- Memory after an effect: only a store changes it
unfoldable pub memory_after : Effect → List ℕ → List ℕ
memory_after (does.Put n x) mem = mem
memory_after (does.PutSpecial n x) mem = mem
memory_after (does.Sum n x o) mem = mem
memory_after (does.Load k n a) mem = mem
memory_after (does.Store k a x) mem = stored k mem a x
memory_after (does.Trap z) mem = mem
memory_after does.Return mem = mem
memory_after does.Nothing mem = mem

-- The registers and memory of the VAMP machine
abbrev pub Vamp : Type 0
Vamp = State × List ℕ

-- What the word w leaves
abbrev pub carried : ℕ → Vamp → Vamp
carried w x =
    let e = (act w x.0).0 in
    (moved w (found e x.1) x.0, memory_after e x.1)

-- x where the answer n is 0, else y
abbrev pub took : {A : Type 0} → ℕ → A → A → A
took n x y = elim (eqb n 0) [ true ↦ x | false ↦ y ]

-- All answers but 0 change nothing
abbrev pub taken : ℕ × ℕ → ℕ → Vamp → (ℕ × ℕ) × Vamp
taken a w x = (a, took a.0 (carried w x) x)

-- A step: its answer with the cause word, and what it leaves
unfoldable pub vstep : Vamp → (ℕ × ℕ) × Vamp
vstep x = taken (event x.1 x.0) (fetched x.1 x.0) x

-- ---- A sequence of steps

-- What n steps leave
unfoldable pub after : ℕ → Vamp → Vamp
after zero x = x
after (suc n) x = after n (vstep x).1

-- A sequence: how many steps were taken; answer and cause word of the last step, which is the one that was not taken, where there is one (0 and 0 before
-- any step); how many of those taken reported a cause; what they leave
pub record Course : Type 0 where
  pub steps : ℕ
  pub answer : ℕ × ℕ
  pub masked : ℕ
  pub left : Vamp

abbrev pub start : Vamp → Course
start x = record { steps = 0; answer = stepped 0; masked = 0; left = x }

-- 1 for a cause
abbrev pub reported : ℕ → ℕ
reported ca = pick (eqb ca 0) 0 1

-- One step more, with its answer and what it leaves
abbrev pub further : Course → (ℕ × ℕ) × Vamp → Course
further c r = record { steps = c.steps + 1; answer = r.0; masked = c.masked + reported r.0.1; left = r.1 }

-- No step more, with the answer of the step that is not taken
abbrev pub stopped : Course → (ℕ × ℕ) × Vamp → Course
stopped c r = record { steps = c.steps; answer = r.0; masked = c.masked; left = c.left }

-- Up to n steps more, that stop before the first one whose answer is not 0
unfoldable pub onward : ℕ → Course → Course
onward zero c = c
onward (suc n) c =
    let r = vstep c.left in
    elim (eqb r.0.0 0) [ true ↦ onward n (further c r) | false ↦ stopped c r ]

-- ---- What the public calls answer

-- A refusal has no cause word
abbrev pub refused : ℕ → ℕ × ℕ
refused n = (n, 0)

-- The paper's number of each answer, and its cause word
abbrev pub answered : Answer → ℕ × ℕ
answered says.Stepped = stepped 0
answered says.Masked = stepped OVERFLOW
answered says.Misaligned = interrupt MISALIGNED
answered says.Illegal = interrupt ILLEGAL
answered says.Trap = interrupt TRAP
answered says.Overflow = interrupt OVERFLOW
answered says.PastMemory = past
answered says.Mode = mode
answered says.WrongLength = refused 1
answered says.NotZero = refused 11

-- The tests of the refusal table that concern the VAMP side, before the work: 1, its buffer has the wrong length; 11, R0, an unused special register or
-- MODE is not 0
abbrev pub refused_or : {A : Type 0} → (ℕ × ℕ → A) → A → Machine → List ℕ → A
refused_or with-answer work m mem =
    first
    ((not (eqb (length mem) DOUBLE_WORDS), with-answer (refused 1)) ∷
    (not_zero_lem m, with-answer (refused 11)) ∷ []) work

-- One step: answer, record and memory
unfoldable pub stepping : Machine → List ℕ → (ℕ × ℕ) × Machine × List ℕ
stepping m mem =
    let r = vstep (state_of m, mem) in
    refused_or (λ a. (a, m, mem)) (r.0, with_state m r.1.0, r.1.1) m mem

-- Up to n steps: steps taken, answer, how many reported a cause, record and memory
unfoldable pub running : Machine → List ℕ → ℕ → ℕ × (ℕ × ℕ) × ℕ × Machine × List ℕ
running m mem n =
    let c = onward n (start (state_of m, mem)) in
    refused_or (λ a. (0, a, 0, m, mem)) (c.steps, c.answer, c.masked, with_state m c.left.0, c.left.1) m mem
