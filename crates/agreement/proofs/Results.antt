-- Demand 3 for the results of the public calls.
use Prim.Native.Nat.{ℕ, ◌+◌, ◌≤◌, ◌<◌}
use mathlib.Core.Path.{◌≡◌, refl, sym, ap, subst, ◌∙◌}
use mathlib.Core.Bool.{Bool, true, false}
use mathlib.Core.List.{List, [], ◌∷◌}
use mathlib.Core.Logic.{◌⊎◌, inl, inr}
use native.Mathlib.Nat.{zero-add}
use native.Mathlib.Omega.{arith}
use borrow.Author.Tests.{eqb-true, eqb-false, ltb-false, le-ltb}
use lib.Dec.{eqb}
use lib.ListN.{length}
use Rattle.words.proofs.Signed.{false_true}
use Rattle.machine.specs.declared.Machine.{Machine}
use Rattle.machine.specs.Effects.{State}
use Rattle.machine.specs.Record.{DOUBLE_WORDS, LONGEST, MOST_STEPS, state_of, with_state, wrong_count_lem, unaligned_start_lem, past_memory_lem, overlap, not_zero_lem, over_limit_lem}
use Rattle.checker.specs.Checks.{violation, fetched}
use Rattle.checker.specs.Runs as checked
use Rattle.checker.specs.Runs.{taking, run_refusal, told}
use Rattle.checker.proofs.Tests.{violation_number}
use Rattle.checker.proofs.Theorems.{First, ends, accepted_only, violation_only, accepts, stops_at}
use Rattle.vamp.specs.Events.{stepped, interrupt, MISALIGNED, ILLEGAL}
use Rattle.vamp.specs.Steps.{running, vstep, onward, Course, start}
use Rattle.vamp.specs.Inner.{course}
use Rattle.vamp.proofs.Sequence.{clear_runs, clear_stops}
use Rattle.card.specs.Card.{Bytes, refusal, record_of_lem, code_buffer, data_buffer, memory_buffer, loading}
use Rattle.card.proofs.Accepted.{Passes, accepted, right_length}
use Rattle.card.proofs.Memory.{code_length, data_length, memory_length}
use Rattle.card.proofs.Results.{refused_by_lem, loading_accepted, loading_refused}
use Rattle.agreement.specs.Demand.{drawing, ship, checker, Agree}
use Rattle.agreement.specs.Calls.{limited, ran, sailed, drawn, shipped, Follows, Raises, Stops, Calls, Demand3OfTheCalls}
use Rattle.agreement.proofs.Theorem.{passed, together, event_21, event_23, event_25, Ok}

-- Only the limit differs
pub only_the_limit : (n : ℕ) (m : Machine) → ((limited n m).code ≡ m.code) × ((limited n m).«data» ≡ m.«data») × (state_of (limited n m) ≡ state_of m) × ((limited n m).limit ≡ n)
only_the_limit n m = (refl, refl, refl, refl)

-- so that a record which passes the tests passes them with any limit below its own
passes_limited : (n : ℕ) (m : Machine) → n ≤ m.limit → Passes m → Passes (limited n m)
unfolding wrong_count_lem unaligned_start_lem past_memory_lem overlap not_zero_lem over_limit_lem
passes_limited n m l p =
    record {
      counts = p.counts;
      starts = p.starts;
      within = p.within;
      apart = p.apart;
      zero = p.zero;
      limit = let h : m.limit ≤ MOST_STEPS = ltb-false MOST_STEPS m.limit p.limit in le-ltb MOST_STEPS n (omega arith);
    }

module _ (card : List ℕ) (b : Bytes card) (ok : refusal card LONGEST LONGEST DOUBLE_WORDS ≡ 0) where
  abbrev r : Machine
  r = record_of_lem card

  -- The checker's n steps, over the definitions
  outcome : ℕ → (ℕ × List ℕ) × (State × List ℕ)
  outcome n = checked.running r.code r.«data» (code_buffer card) 0 n (state_of r, data_buffer card)

  -- A loaded record is not refused with any limit up to its own, and answers by its steps
  module _ (n : ℕ) (l : n ≤ r.limit) where
    passing : Passes (limited n r)
    passing = passes_limited n r l (passed card b ok)

    not_refused : run_refusal (limited n r) (length (code_buffer card)) (length (data_buffer card)) ≡ 0
    unfolding run_refusal
    not_refused =
        let p = passing in
        rw (code_length card, data_length card, p.counts, p.starts, p.within, p.apart, p.zero, p.limit)

    run_is : ran card n ≡ ((outcome n).0, with_state (limited n r) (outcome n).1.0, (outcome n).1.1)
    unfolding taking outcome
    run_is = rw not_refused

    run_answers : (ran card n).0 ≡ (outcome n).0
    run_answers = ap (λ (o : (ℕ × List ℕ) × Machine × List ℕ). o.0) run_is

    -- which is what the statement calls the checker
    pub run_checks : (ran card n).0 ≡ checker card n
    unfolding outcome checked.after
    run_checks = run_answers

    run_leaves : drawn card n ≡ (outcome n).1
    run_leaves = ap (λ (o : (ℕ × List ℕ) × Machine × List ℕ). (state_of o.1, o.2)) run_is

    -- The VAMP's n steps, from its sequence of steps
    sails : (c : Course) → onward n (start (state_of r, memory_buffer card)) ≡ c → sailed card n ≡ (c.steps, c.answer, c.masked, with_state (limited n r) c.left.0, c.left.1)
    unfolding running
    sails c e = rw (memory_length card, passing.zero, e)

  -- ---- Steps that are fine

  fine_steps : (j : ℕ) → Ok card b ok j → outcome j ≡ ((0, j ∷ []), drawing card j)
  unfolding outcome
  fine_steps j f = accepts r.code r.«data» (code_buffer card) 0 j (state_of r, data_buffer card) f ∙ ap (λ (i : ℕ). ((0, i ∷ []), drawing card j)) (zero-add j)

  module _ (j : ℕ) (l : j ≤ r.limit) (f : Ok card b ok j) where
    run_drawn : drawn card j ≡ drawing card j
    run_drawn = run_leaves j l ∙ ap (λ (o : (ℕ × List ℕ) × (State × List ℕ)). o.1) (fine_steps j f)

    sailed_is : sailed card j ≡ (j, stepped 0, 0, with_state (limited j r) (ship card j).0, (ship card j).1)
    sailed_is = sails j l (course j (stepped 0) 0 (ship card j)) (clear_runs j (state_of r, memory_buffer card) (together card b ok j f).steps)

    sailed_shipped : shipped card j ≡ ship card j
    sailed_shipped = ap (λ (o : ℕ × (ℕ × ℕ) × ℕ × Machine × List ℕ). (state_of o.3, o.4)) sailed_is

    follows : Follows card j
    follows =
        record {
          accepts = run_answers j l ∙ ap (λ (o : (ℕ × List ℕ) × (State × List ℕ)). o.0) (fine_steps j f);
          takes = ap (λ (o : ℕ × (ℕ × ℕ) × ℕ × Machine × List ℕ). o.0) sailed_is;
          answers = ap (λ (o : ℕ × (ℕ × ℕ) × ℕ × Machine × List ℕ). o.1) sailed_is;
          no_cause = ap (λ (o : ℕ × (ℕ × ℕ) × ℕ × Machine × List ℕ). o.2) sailed_is;
          agrees =
              subst (λ (x : State × List ℕ). Agree r (code_buffer card) x (shipped card j)) (sym run_drawn)
              (subst (Agree r (code_buffer card) (drawing card j)) (sym sailed_shipped) ((together card b ok j f).agree j (omega arith)));
        }

  all_follow : (k : ℕ) → k ≤ r.limit → Ok card b ok k → (j : ℕ) → j ≤ k → Follows card j
  all_follow k l f j h = follows j (omega arith) (λ i q. f i (omega arith))

  -- ---- A step that stops

  raises : (k : ℕ) (cause : ℕ) → k < r.limit → Ok card b ok k → (vstep (ship card k)).0 ≡ interrupt cause → Raises card k cause
  raises k cause l f e =
      let s : sailed card (k + 1) ≡ (k, interrupt cause, 0, with_state (limited (k + 1) r) (ship card k).0, (ship card k).1) =
      sails (k + 1) (omega arith) (course k (interrupt cause) 0 (ship card k))
      (clear_stops (k + 1) k (state_of r, memory_buffer card) (interrupt cause) (omega arith) (together card b ok k f).steps e (omega arith)) in
      record {
        takes = ap (λ (o : ℕ × (ℕ × ℕ) × ℕ × Machine × List ℕ). o.0) s;
        answers = ap (λ (o : ℕ × (ℕ × ℕ) × ℕ × Machine × List ℕ). o.1) s;
        no_cause = ap (λ (o : ℕ × (ℕ × ℕ) × ℕ × Machine × List ℕ). o.2) s;
        unchanged = ap (λ (o : ℕ × (ℕ × ℕ) × ℕ × Machine × List ℕ). (state_of o.3, o.4)) s ∙ sym (sailed_shipped k (omega arith) f);
      }

  module _ (n : ℕ) (l : n ≤ r.limit) where
    -- What the run's answer tells of its steps
    accepted_steps : (ran card n).0 ≡ (0, n ∷ []) → Ok card b ok n
    unfolding outcome
    accepted_steps e = (accepted_only r.code r.«data» (code_buffer card) n n (state_of r, data_buffer card) (sym (run_answers n l) ∙ e)).0

    stopped_steps : (v k x w : ℕ) → 0 < v → (ran card n).0 ≡ (v, k ∷ x ∷ w ∷ [])
        → (k < n) × Ok card b ok k × (violation r.code r.«data» (code_buffer card) (drawing card k).0 ≡ v)
    unfolding outcome
    stopped_steps v k x w z e = violation_only r.code r.«data» (code_buffer card) n v k x w (state_of r, data_buffer card) z (sym (run_answers n l) ∙ e)

    -- The state and data left are those after k steps
    stopped_leaves : (v k x w : ℕ) → 0 < v → (ran card n).0 ≡ (v, k ∷ x ∷ w ∷ []) → drawn card n ≡ drawn card k
    unfolding outcome
    stopped_leaves v k x w z e =
        let s = stopped_steps v k x w z e in
        let h = s.0 in
        run_leaves n l
        ∙ ap (λ (o : (ℕ × List ℕ) × (State × List ℕ)). o.1) (stops_at r.code r.«data» (code_buffer card) 0 n k v (state_of r, data_buffer card) s.0 s.1 s.2 z)
        ∙ sym (run_drawn k (omega arith) s.1)

    -- Accepted or stopped
    answered : ((ran card n).0 ≡ (0, n ∷ [])) ⊎ Stops card n
    unfolding outcome
    answered = by (ends r.code r.«data» (code_buffer card) n (state_of r, data_buffer card))
      where
        by : Ok card b ok n ⊎ First r.code r.«data» (code_buffer card) n (state_of r, data_buffer card) → ((ran card n).0 ≡ (0, n ∷ [])) ⊎ Stops card n
        by (inl f) = inl (follows n l f).accepts
        by (inr f) =
            let k = f.0 in
            let v = violation r.code r.«data» (code_buffer card) (drawing card k).0 in
            inr record {
              number = v;
              step = k;
              counter = (drawing card k).0.dpc;
              word = told v (fetched r.code (code_buffer card) (drawing card k).0);
              a_test = violation_number r.code r.«data» (code_buffer card) (drawing card k).0 f.3;
              before = f.1;
              says =
                  run_answers n l
                  ∙ ap (λ (o : (ℕ × List ℕ) × (State × List ℕ)). o.0) (stops_at r.code r.«data» (code_buffer card) 0 n k v (state_of r, data_buffer card) f.1 f.2 refl f.3)
                  ∙ ap (λ (i : ℕ). (v, i ∷ (drawing card k).0.dpc ∷ told v (fetched r.code (code_buffer card) (drawing card k).0) ∷ [])) (zero-add k);
            }

    -- The events: where a test's number is an event of the VAMP at the same step, a run that stops by it raises it
    event_raises : (v cause : ℕ) → 0 < v
        → ((k : ℕ) → Ok card b ok k → violation r.code r.«data» (code_buffer card) (drawing card k).0 ≡ v → (vstep (ship card k)).0 ≡ interrupt cause)
        → (k x w : ℕ) → (ran card n).0 ≡ (v, k ∷ x ∷ w ∷ []) → Raises card k cause
    event_raises v cause z event k x w e =
        let s = stopped_steps v k x w z e in
        let h = s.0 in
        raises k cause (omega arith) s.1 (event k s.1 s.2)

    stops_through : (v k x w : ℕ) → 0 < v → (ran card n).0 ≡ (v, k ∷ x ∷ w ∷ []) → (j : ℕ) → j ≤ k → Follows card j
    stops_through v k x w z e j h = let s = stopped_steps v k x w z e in let q = s.0 in all_follow k (omega arith) s.1 j h

    pub calls : Calls card n
    calls =
        record {
          answered = answered;
          accepted = λ e. all_follow n l (accepted_steps e);
          stopped = λ v k x w z e. (stopped_leaves v k x w z e, stops_through v k x w z e);
          misaligned_fetch = event_raises 21 MISALIGNED (omega arith) (event_21 card b ok);
          illegal_word = event_raises 23 ILLEGAL (omega arith) (event_23 card b ok);
          misaligned_access = event_raises 25 MISALIGNED (omega arith) (event_25 card b ok);
        }

-- A card that is loaded, into whatever buffers, is not refused by the table
module _ (card code ws memory : List ℕ) (e : (loading card code ws memory).0 ≡ (0, true)) where
  not_refused_by : refused_by_lem card code ws memory ≡ 0
  not_refused_by = by (eqb (refused_by_lem card code ws memory) 0) refl
    where
      by : (t : Bool) → eqb (refused_by_lem card code ws memory) 0 ≡ t → refused_by_lem card code ws memory ≡ 0
      by true q = eqb-true (refused_by_lem card code ws memory) 0 q
      by false q =
          let d = loading_refused card code ws memory (eqb-false (refused_by_lem card code ws memory) 0 q) in
          absurd (false_true (ap (λ (o : (ℕ × Bool) × Machine × List ℕ × List ℕ × List ℕ). o.0.1) (sym d) ∙ ap (λ (o : ℕ × Bool). o.1) e))

  right_refusal : refusal card LONGEST LONGEST DOUBLE_WORDS ≡ 0
  right_refusal =
      let h = right_length (length code) (length ws) (length memory) (accepted card (length code) (length ws) (length memory) not_refused_by).lengths in
      rw (h.0, h.1, h.2) at not_refused_by

pub demand_3_of_the_calls : Demand3OfTheCalls
demand_3_of_the_calls card code ws memory b e =
    (loading_accepted card code ws memory (not_refused_by card code ws memory e), λ n l. calls card b (right_refusal card code ws memory e) n l)
