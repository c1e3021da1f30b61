-- Demand 3: the drawing stands for the ship.
use Rattle.std.specs.Prelude.{ℕ, ◌+◌, ◌*◌, ◌%◌, ◌≤◌, ◌<◌, ◌≡◌, false, List, [], ◌∷◌, get_or}
use Rattle.machine.specs.declared.Machine.{Machine}
use Rattle.machine.specs.Effects.{State}
use Rattle.machine.specs.Record.{DOUBLE_WORDS, MEMORY, LONGEST, holds, state_of}
use Rattle.checker.specs.Runs as checked
use Rattle.vamp.specs.Memory.{at}
use Rattle.vamp.specs.Events.{stepped, interrupt, MISALIGNED, ILLEGAL}
use Rattle.vamp.specs.Steps as vamp
use Rattle.card.specs.Card.{Bytes, refusal, record_of_lem, code_buffer, data_buffer, memory_buffer}

-- The assembler machine and the VAMP machine after n steps, both from what one load of the card gives
abbrev pub drawing : List ℕ → ℕ → State × List ℕ
drawing card n = checked.after (record_of_lem card).code (record_of_lem card).«data» (code_buffer card) n (state_of (record_of_lem card), data_buffer card)

abbrev pub ship : List ℕ → ℕ → State × List ℕ
ship card n = vamp.after n (state_of (record_of_lem card), memory_buffer card)

-- All registers, both counters and every data word agree, the code is as loaded and all other memory is zero
pub record Agree (m : Machine) (code : List ℕ) (d s : State × List ℕ) : Type 0 where
  pub general : s.0.gpr ≡ d.0.gpr
  pub special : s.0.spr ≡ d.0.spr
  pub counter : s.0.dpc ≡ d.0.dpc
  pub delayed : s.0.pc ≡ d.0.pc
  pub data_words : (i : ℕ) → i < m.«data».words → at 32 s.1 (m.«data».start + 4 * i) ≡ get_or d.1 i 0
  pub code_words : (i : ℕ) → i < m.code.words → at 32 s.1 (m.code.start + 4 * i) ≡ get_or code i 0
  pub other_words : (a : ℕ) → a % 4 ≡ 0 → a < MEMORY → holds m.code a ≡ false → holds m.«data» a ≡ false → at 32 s.1 a ≡ 0

-- They agree through count n, and the VAMP takes the n steps with an empty cause word each
pub record Together (card : List ℕ) (n : ℕ) : Type 0 where
  pub steps : (j : ℕ) → j < n → (vamp.vstep (ship card j)).0 ≡ stepped 0
  pub agree : (j : ℕ) → j ≤ n → Agree (record_of_lem card) (code_buffer card) (drawing card j) (ship card j)

-- What the checker answers for n steps of the card
abbrev pub checker : List ℕ → ℕ → ℕ × List ℕ
checker card n = (checked.running (record_of_lem card).code (record_of_lem card).«data» (code_buffer card) 0 n (drawing card 0)).0

-- For any card the loader accepts and any n up to its limit:
pub record Stands (card : List ℕ) (n : ℕ) : Type 0 where
  -- where the checker accepts n steps, the two go together through n;
  pub accepted : checker card n ≡ (0, n ∷ []) → Together card n
  -- where it stops at step k, they go together through k,
  pub stops : (v k x w : ℕ) → 0 < v → checker card n ≡ (v, k ∷ x ∷ w ∷ []) → Together card k
  -- and on 21, 23 or 25 the VAMP raises just that event at k
  pub misaligned_fetch : (k x w : ℕ) → checker card n ≡ (21, k ∷ x ∷ w ∷ []) → (vamp.vstep (ship card k)).0 ≡ interrupt MISALIGNED
  pub illegal_word : (k x w : ℕ) → checker card n ≡ (23, k ∷ x ∷ w ∷ []) → (vamp.vstep (ship card k)).0 ≡ interrupt ILLEGAL
  pub misaligned_access : (k x w : ℕ) → checker card n ≡ (25, k ∷ x ∷ w ∷ []) → (vamp.vstep (ship card k)).0 ≡ interrupt MISALIGNED

abbrev pub Demand3 : Type 0
Demand3 = (card : List ℕ) → Bytes card → refusal card LONGEST LONGEST DOUBLE_WORDS ≡ 0 → (n : ℕ) → n ≤ (record_of_lem card).limit → Stands card n
