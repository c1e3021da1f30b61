-- Demand 3 for the results of the public calls. `card::load`, `checker::check` (and `run`) and `vamp::run` are promised equal to `loading`, `runs` and `running`, so this is what their callers see.
use Rattle.std.specs.Prelude.{ℕ, ◌+◌, ◌≤◌, ◌<◌, ◌≡◌, true, List, [], ◌∷◌, ◌⊎◌}
use Rattle.machine.specs.declared.Machine.{Machine}
use Rattle.machine.specs.Effects.{State}
use Rattle.machine.specs.Record.{state_of}
use Rattle.checker.specs.Runs.{runs}
use Rattle.vamp.specs.Events.{stepped, interrupt, MISALIGNED, ILLEGAL}
use Rattle.vamp.specs.Steps.{running}
use Rattle.card.specs.Card.{Bytes, record_of_lem, code_buffer, data_buffer, memory_buffer, loading}
use Rattle.agreement.specs.Demand.{Agree}

-- A record with the limit n
abbrev pub limited : ℕ → Machine → Machine
limited n m = record { code = m.code; «data» = m.«data»; limit = n; dpc = m.dpc; pc = m.pc; gpr = m.gpr; spr = m.spr }

-- The run of the card with the limit n, and the VAMP's first n steps of it
abbrev pub ran : List ℕ → ℕ → (ℕ × List ℕ) × Machine × List ℕ
ran card n = runs (limited n (record_of_lem card)) (code_buffer card) (data_buffer card)

abbrev pub sailed : List ℕ → ℕ → ℕ × (ℕ × ℕ) × ℕ × Machine × List ℕ
sailed card n = running (limited n (record_of_lem card)) (memory_buffer card) n

-- What the two calls leave: the state of the record that is handed back, with the data, or with VAMP memory
abbrev pub drawn : List ℕ → ℕ → State × List ℕ
drawn card n = (state_of (ran card n).1, (ran card n).2)

abbrev pub shipped : List ℕ → ℕ → State × List ℕ
shipped card n = (state_of (sailed card n).3, (sailed card n).4)

-- Through count j: the run of j steps is accepted; the VAMP takes j steps, none with a cause; and what they leave agrees
pub record Follows (card : List ℕ) (j : ℕ) : Type 0 where
  pub accepts : (ran card j).0 ≡ (0, j ∷ [])
  pub takes : (sailed card j).0 ≡ j
  pub answers : (sailed card j).1 ≡ stepped 0
  pub no_cause : (sailed card j).2 ≡ 0
  pub agrees : Agree (record_of_lem card) (code_buffer card) (drawn card j) (shipped card j)

-- At step k the VAMP raises just this event, and changes nothing
pub record Raises (card : List ℕ) (k cause : ℕ) : Type 0 where
  pub takes : (sailed card (k + 1)).0 ≡ k
  pub answers : (sailed card (k + 1)).1 ≡ interrupt cause
  pub no_cause : (sailed card (k + 1)).2 ≡ 0
  pub unchanged : shipped card (k + 1) ≡ shipped card k

-- The run stops before its limit, by the number of a test
pub record Stops (card : List ℕ) (n : ℕ) : Type 0 where
  pub number : ℕ
  pub step : ℕ
  pub counter : ℕ
  pub word : ℕ
  pub a_test : (21 ≤ number) × (number ≤ 27)
  pub before : step < n
  pub says : (ran card n).0 ≡ (number, step ∷ counter ∷ word ∷ [])

pub record Calls (card : List ℕ) (n : ℕ) : Type 0 where
  -- A loaded card's run is accepted with n steps or stopped, and never refused;
  pub answered : ((ran card n).0 ≡ (0, n ∷ [])) ⊎ Stops card n
  -- where it is accepted, the two go together through every count up to n;
  pub accepted : (ran card n).0 ≡ (0, n ∷ []) → (j : ℕ) → j ≤ n → Follows card j
  -- where it stops at step k, through every count up to k, and k steps are what it leaves,
  pub stopped : (v k x w : ℕ) → 0 < v → (ran card n).0 ≡ (v, k ∷ x ∷ w ∷ []) → (drawn card n ≡ drawn card k) × ((j : ℕ) → j ≤ k → Follows card j)
  -- and on 21, 23 or 25 the VAMP raises just that event at k
  pub misaligned_fetch : (k x w : ℕ) → (ran card n).0 ≡ (21, k ∷ x ∷ w ∷ []) → Raises card k MISALIGNED
  pub illegal_word : (k x w : ℕ) → (ran card n).0 ≡ (23, k ∷ x ∷ w ∷ []) → Raises card k ILLEGAL
  pub misaligned_access : (k x w : ℕ) → (ran card n).0 ≡ (25, k ∷ x ∷ w ∷ []) → Raises card k MISALIGNED

-- A card that is loaded, into whatever buffers: they and the record are as the two calls take them, and the calls stand for every n up to the limit
abbrev pub Demand3OfTheCalls : Type 0
Demand3OfTheCalls = (card code ws memory : List ℕ) → Bytes card → (loading card code ws memory).0 ≡ (0, true)
    → (loading card code ws memory ≡ ((0, true), record_of_lem card, code_buffer card, data_buffer card, memory_buffer card))
    × ((n : ℕ) → n ≤ (record_of_lem card).limit → Calls card n)
