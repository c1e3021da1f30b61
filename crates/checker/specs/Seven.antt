-- Document 02, request Seven: say where the bad address came from. All of it is over the machine's own steps: step j of a run from p takes the state `after` j steps.
use Rattle.std.specs.Prelude.{ℕ, zero, suc, ◌%◌, not, List, [], ◌∷◌, ◌==◌, slice_index, Option, Some, None}
use Rattle.words.specs.Fields.{pick, opcode, rs1}
use Rattle.machine.specs.declared.Effect.{Effect}
use Rattle.machine.specs.declared.Effect.TheVariants as does
use Rattle.machine.specs.declared.Machine.{Machine}
use Rattle.machine.specs.declared.Region.{Region}
use Rattle.machine.specs.Effects.{one_of, State, act, register}
use Rattle.machine.specs.Record.{state_of, first}
use Rattle.checker.specs.declared.At.{At}
use Rattle.checker.specs.declared.Source.{Source}
use Rattle.checker.specs.declared.Source.TheVariants as from
use Rattle.checker.specs.declared.Explanation.{Explanation}
use Rattle.checker.specs.declared.Explanation.TheVariants as because
use Rattle.checker.specs.declared.touches.Turn.{Turn}
use Rattle.checker.specs.declared.touches.Turn.TheVariants.{On, Taken, By}
use Rattle.checker.specs.Checks.{fetched}
use Rattle.checker.specs.Runs.{after}

-- ---- What a step writes, and how it leaves PC'

-- The general register that an effect writes: a value or a sum that is put, a load. 0 where it writes none: R0 is never written
unfoldable pub target : Effect → ℕ
target (does.Put n x) = n % 32
target (does.PutSpecial n x) = 0
target (does.Sum n x o) = n % 32
target (does.Load k n a) = n % 32
target (does.Store k a x) = 0
target (does.Trap z) = 0
target does.Return = 0
target does.Nothing = 0

-- A taken transfer, by its opcode: jal; jr, with its register; beqz or bnez whose condition holds. Any other word goes on
unfoldable pub turn : ℕ → List ℕ → Turn
turn w g =
    first
    (((opcode w == 0x03), Taken)
    ∷ ((opcode w == 0x16), By (rs1 w))
    ∷ ((opcode w == 0x04), pick (register g (rs1 w) == 0) Taken On)
    ∷ ((opcode w == 0x05), pick (not (register g (rs1 w) == 0)) Taken On)
    ∷ []) On

-- ---- The steps of a run from p

module _ (c d : Region) (code : List ℕ) (p : State × List ℕ) where
  -- The state before step j, its word, and the general register that it writes
  abbrev pub before : ℕ → State
  before j = (after c d code j p).0

  abbrev pub word_of : ℕ → ℕ
  word_of j = fetched c code (before j)

  abbrev pub writes : ℕ → ℕ
  writes j = target (act (word_of j) (before j)).0

  -- Step j with its DPC and its word
  abbrev pub place_of : ℕ → At
  place_of j = record { step = j; dpc = (before j).dpc; word = word_of j }

  -- The last step before step k that wrote register r, with its DPC and its word, or "card" if none did
  unfoldable pub last_writer : ℕ → ℕ → Source
  last_writer r zero = from.Card
  last_writer r (suc k) = pick (writes k == r) (from.Step (place_of k)) (last_writer r k)

  -- or "zero" for R0. A register's number is a field of five bits
  unfoldable pub source_of : ℕ → ℕ → Source
  source_of r k = pick (r % 32 == 0) from.Zero (last_writer (r % 32) k)

  -- 21 and 22 at step k: "card" if k is 0 or 1; else, if step k - 2 was a taken transfer, that step, and for jr also the source of its register before that step; else "ran on"
  unfoldable pub led : ℕ → Explanation
  led zero = because.Card
  led (suc zero) = because.Card
  led (suc (suc j)) =
      elim (turn (word_of j) (before j).gpr) [
        | On ↦ because.RanOn
        | Taken ↦ because.Transfer (place_of j)
        | By r ↦ because.Jr (place_of j) r (source_of r j)
      ]

  -- 25 and 26 at step k: the source of RS1 of its word
  unfoldable pub addressed : ℕ → Explanation
  addressed k = because.Register (rs1 (word_of k)) (source_of (rs1 (word_of k)) k)

  -- The explanation of violation v at step k. Other violations get none
  unfoldable pub explanation : ℕ → ℕ → Option Explanation
  explanation v k = first ((one_of v (21 ∷ 22 ∷ []), Some (led k)) ∷ (one_of v (25 ∷ 26 ∷ []), Some (addressed k)) ∷ []) None

-- The explanation that a run gives with its answer: the number, and the step, which is the first of its values. No refusal, and not 0 for accepted, is among the four
abbrev pub explaining : Machine → List ℕ → List ℕ → ℕ × List ℕ → Option Explanation
explaining m code ws o = explanation m.code m.«data» code (state_of m, ws) o.0 (slice_index o.1 0)
