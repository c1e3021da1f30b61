-- Document 01, "Events of a VAMP step": what each event is, and the order in which they are found.
use Rattle.std.specs.Prelude.{ℕ, ◌/◌, ◌%◌, ◌^◌, Bool, true, false, ◌&&◌, List, [], ◌∷◌, eqb, leb}
use Rattle.std.proofs.Math.Option.{none, some}
use Rattle.machine.specs.declared.Effect.{Effect}
use Rattle.machine.specs.declared.Effect.TheVariants as does
use Rattle.machine.specs.Effects.{State, act, register, illegal, access, unaligned, askew, mode_set, SR}
use Rattle.machine.specs.Record.{MEMORY, first}
use Rattle.vamp.specs.Memory.{at}

-- ---- The answers and the cause word CA

-- Bit 1
abbrev pub ILLEGAL : ℕ
ILLEGAL = 2

-- Bit 2
abbrev pub MISALIGNED : ℕ
MISALIGNED = 4

-- Bit 5
abbrev pub TRAP : ℕ
TRAP = 32

-- Bit 6
abbrev pub OVERFLOW : ℕ
OVERFLOW = 64

-- 0 stepped, with CA; 31 interrupt, with CA; 32; 33
abbrev pub stepped : ℕ → ℕ × ℕ
stepped ca = (0, ca)

abbrev pub interrupt : ℕ → ℕ × ℕ
interrupt ca = (31, ca)

abbrev pub past : ℕ × ℕ
past = (32, 0)

abbrev pub mode : ℕ × ℕ
mode = (33, 0)

-- ---- The tests

-- Past modelled memory
abbrev pub unmodelled : ℕ → Bool
unmodelled a = leb MEMORY a

-- An illegal word is `illegal` of the word
-- (A load or store with ea not a multiple of its size is `askew` of the effect)

-- A load or store past modelled memory; one that is a multiple of its size lies in memory wholly or not at all
unfoldable pub access_past : Effect → Bool
access_past e = elim (access e) [ some p ↦ unmodelled p.1 | none ↦ false ]

-- trap
unfoldable pub trapped : Effect → Bool
trapped (does.Put n x) = false
trapped (does.PutSpecial n x) = false
trapped (does.Sum n x o) = false
trapped (does.Load k n a) = false
trapped (does.Store k a x) = false
trapped (does.Trap z) = true
trapped does.Return = false
trapped does.Nothing = false

-- addo, addio, subo, subio whose signed result is below -2 ^ 31 or above 2 ^ 31 - 1
unfoldable pub overflowed : Effect → Bool
overflowed (does.Put n x) = false
overflowed (does.PutSpecial n x) = false
overflowed (does.Sum n x o) = o
overflowed (does.Load k n a) = false
overflowed (does.Store k a x) = false
overflowed (does.Trap z) = false
overflowed does.Return = false
overflowed does.Nothing = false

-- SR bit 6 is 0
unfoldable pub overflow_masked : List ℕ → Bool
overflow_masked p = eqb (register p SR / 2 ^ 6 % 2) 0

-- (movi2s to MODE of a value other than 0 is `mode_set` of the effect)

-- ---- The order

-- The tests with their answers, in the document's order, of DPC, the word w there, its effect e and the special registers p
abbrev pub table : ℕ → ℕ → Effect → List ℕ → List (Bool × (ℕ × ℕ))
table dpc w e p =
    -- 1. DPC not a multiple of 4: bit 2, nothing is fetched
    (unaligned 4 dpc, interrupt MISALIGNED) ∷
    -- 2. Fetch past modelled memory: answer 32
    (unmodelled dpc, past) ∷
    -- 3. Illegal word: bit 1
    (illegal w, interrupt ILLEGAL) ∷
    -- 4. Load or store with ea not a multiple of its size (1, 2, 4): bit 2
    (askew e, interrupt MISALIGNED) ∷
    -- 5. Load or store past modelled memory: answer 32
    (access_past e, past) ∷
    -- 6. trap: bit 5
    (trapped e, interrupt TRAP) ∷
    -- 7. Overflow: bit 6. If SR bit 6 is 0 the event is masked: the step is taken, CA is reported
    (overflowed e && overflow_masked p, stepped OVERFLOW) ∷
    (overflowed e, interrupt OVERFLOW) ∷
    -- 8. movi2s to MODE of a value other than 0: answer 33
    (mode_set e, mode) ∷ []

-- The word at DPC
abbrev pub fetched : List ℕ → State → ℕ
fetched mem s = at 32 mem s.dpc

abbrev pub events : List ℕ → State → List (Bool × (ℕ × ℕ))
events mem s =
    let w = fetched mem s in
    table s.dpc w (act w s).0 s.spr

-- The answer of a step with its cause word: that of the first event, and 0 with an empty one where there is none
unfoldable pub event : List ℕ → State → ℕ × ℕ
event mem s = first (events mem s) (stepped 0)
