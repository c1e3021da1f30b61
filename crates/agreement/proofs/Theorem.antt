-- Demand 3 holds.
use Prim.Native.Nat.{ℕ, ◌+◌, ◌*◌, ◌≤◌, ◌<◌}
use mathlib.Core.Path.{◌≡◌, refl, ap, ◌∙◌}
use mathlib.Core.List.{List, [], ◌∷◌}
use native.Mathlib.Omega.{arith}
use Rattle.machine.specs.declared.Machine.{Machine}
use Rattle.machine.specs.Effects.{State}
use Rattle.machine.specs.Record.{DOUBLE_WORDS, LONGEST, state_of}
use Rattle.machine.proofs.Regions.{right_count, aligned_starts, in_memory, apart_disjoint, holds_in, word_at_lem, image_code, image_data, image_else}
use Rattle.checker.specs.Checks.{violation}
use Rattle.checker.specs.Runs.{after}
use Rattle.checker.proofs.Theorems.{Fine, accepted_only, violation_only}
use Rattle.vamp.specs.Memory.{part}
use Rattle.vamp.specs.Events.{interrupt, MISALIGNED, ILLEGAL}
use Rattle.vamp.specs.Steps as vamp
use Rattle.card.specs.Card.{Bytes, refusal, record_of_lem, code_buffer, data_buffer, memory_buffer}
use Rattle.card.proofs.Accepted.{Passes, accepted}
use Rattle.card.proofs.Memory.{data_length, memory_length, memory_word, record_words}
use Rattle.agreement.specs.Demand.{drawing, ship, Agree, Together, checker, Stands, Demand3}
use Rattle.agreement.proofs.Relation.{Laid, Same}
use Rattle.agreement.proofs.Simulation.{all_steps, all_same, raises_21, raises_23, raises_25}

-- Machines that are the same agree, in the demand's words
module _ (m : Machine) (l : Laid m.code m.«data») (code : List ℕ) (x y : State × List ℕ) (r : Same m.code m.«data» code x y) where
  pub agrees : Agree m code x y
  agrees =
      record {
        general = ap (λ (s : State). s.gpr) r.state;
        special = ap (λ (s : State). s.spr) r.state;
        counter = ap (λ (s : State). s.dpc) r.state;
        delayed = ap (λ (s : State). s.pc) r.state;
        data_words = λ i h.
            let q = l.data_in in
            let e = l.data_even in
            r.memory (m.«data».start + 4 * i) (omega arith) (omega arith)
            ∙ image_data m.code m.«data» code x.1 (m.«data».start + 4 * i) l.apart (holds_in m.«data» (m.«data».start + 4 * i) (omega arith) (omega arith))
            ∙ word_at_lem m.«data» x.1 i;
        code_words = λ i h.
            let q = l.code_in in
            let e = l.code_even in
            r.memory (m.code.start + 4 * i) (omega arith) (omega arith)
            ∙ image_code m.code m.«data» code x.1 (m.code.start + 4 * i) (holds_in m.code (m.code.start + 4 * i) (omega arith) (omega arith))
            ∙ word_at_lem m.code code i;
        other_words = λ a e b p q. r.memory a e b ∙ image_else m.code m.«data» code x.1 a p q;
      }

module _ (card : List ℕ) (b : Bytes card) (ok : refusal card LONGEST LONGEST DOUBLE_WORDS ≡ 0) where
  abbrev pub m : Machine
  m = record_of_lem card

  pub passed : Passes m
  passed = (accepted card LONGEST LONGEST DOUBLE_WORDS ok).passes

  pub laid : Laid m.code m.«data»
  laid =
      record {
        code_in = (in_memory m passed.within).0;
        data_in = (in_memory m passed.within).1;
        code_even = (aligned_starts m passed.starts).0;
        data_even = (aligned_starts m passed.starts).1;
        apart = apart_disjoint m passed.apart;
      }

  -- What one load of the card gives is the same for both
  start : Same m.code m.«data» (code_buffer card) (state_of m, data_buffer card) (state_of m, memory_buffer card)
  unfolding part
  start =
      record {
        state = refl;
        size = memory_length card;
        room = let e = data_length card in let h = (right_count m passed.counts).2 in omega arith;
        memory = λ a e h. memory_word card b a e h;
        general = (record_words card b).gpr;
        special = (record_words card b).spr;
      }

  abbrev pub Ok : ℕ → Type 0
  Ok n = Fine m.code m.«data» (code_buffer card) n (state_of m, data_buffer card)

  pub same : (n : ℕ) → Ok n → (j : ℕ) → j ≤ n → Same m.code m.«data» (code_buffer card) (drawing card j) (ship card j)
  same n f j h = all_same m.code m.«data» laid (code_buffer card) n (state_of m, data_buffer card) (state_of m, memory_buffer card) start f j h

  pub together : (n : ℕ) → Ok n → Together card n
  together n f =
      record {
        steps = all_steps m.code m.«data» laid (code_buffer card) n (state_of m, data_buffer card) (state_of m, memory_buffer card) start f;
        agree = λ j h. agrees m laid (code_buffer card) (drawing card j) (ship card j) (same n f j h);
      }

  pub stopped : (n v k x w : ℕ) → 0 < v → checker card n ≡ (v, k ∷ x ∷ w ∷ []) → (k < n) × Ok k × (violation m.code m.«data» (code_buffer card) (drawing card k).0 ≡ v)
  unfolding after
  stopped n v k x w z e = violation_only m.code m.«data» (code_buffer card) n v k x w (state_of m, data_buffer card) z e

  pub fine : (n : ℕ) → checker card n ≡ (0, n ∷ []) → Ok n
  unfolding after
  fine n e = (accepted_only m.code m.«data» (code_buffer card) n n (state_of m, data_buffer card) e).0

  -- The event of step k where the checker stops there
  abbrev Number : ℕ → ℕ → Type 0
  Number k v = violation m.code m.«data» (code_buffer card) (drawing card k).0 ≡ v

  pub event_21 : (k : ℕ) → Ok k → Number k 21 → (vamp.vstep (ship card k)).0 ≡ interrupt MISALIGNED
  event_21 k f z = raises_21 m.code m.«data» laid (code_buffer card) (drawing card k) (ship card k) (same k f k (omega arith)) z

  pub event_23 : (k : ℕ) → Ok k → Number k 23 → (vamp.vstep (ship card k)).0 ≡ interrupt ILLEGAL
  event_23 k f z = raises_23 m.code m.«data» laid (code_buffer card) (drawing card k) (ship card k) (same k f k (omega arith)) z

  pub event_25 : (k : ℕ) → Ok k → Number k 25 → (vamp.vstep (ship card k)).0 ≡ interrupt MISALIGNED
  event_25 k f z = raises_25 m.code m.«data» laid (code_buffer card) (drawing card k) (ship card k) (same k f k (omega arith)) z

  pub stands : (n : ℕ) → Stands card n
  stands n =
      record {
        accepted = λ e. together n (fine n e);
        stops = λ v k x w z e. together k (stopped n v k x w z e).1;
        misaligned_fetch = λ k x w e. let s = stopped n 21 k x w (omega arith) e in event_21 k s.1 s.2;
        illegal_word = λ k x w e. let s = stopped n 23 k x w (omega arith) e in event_23 k s.1 s.2;
        misaligned_access = λ k x w e. let s = stopped n 25 k x w (omega arith) e in event_25 k s.1 s.2;
      }

pub demand_3 : Demand3
demand_3 card b ok n h = stands card b ok n
