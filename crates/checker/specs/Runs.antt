-- Document 01, "Tests of a checked step" (its last paragraph): the run, and the refusals of a record.
use Rattle.std.specs.Prelude.{ℕ, zero, suc, Bool, not, ◌||◌, List, [], ◌∷◌, ◌++◌, length, ◌==◌, nat_lt}
use Rattle.words.specs.Fields.{pick}
use Rattle.machine.specs.declared.Machine.{Machine}
use Rattle.machine.specs.declared.Region.{Region}
use Rattle.machine.specs.Effects.{State}
use Rattle.machine.specs.Record.{LONGEST, wrong_count_lem, unaligned_start_lem, past_memory_lem, overlap, not_zero_lem, over_limit_lem, refusal_no, state_of, with_state, first}
use Rattle.checker.specs.declared.Verdict.{Verdict}
use Rattle.checker.specs.declared.Verdict.TheVariants.{Refused, Accepted, Violation}
use Rattle.checker.specs.Checks.{test_no, fetched, violation, next}

-- The paper's number and values of each answer: a refusal; accepted with the steps taken; a violation with its step, DPC and word
abbrev pub verdict_answer : Verdict → ℕ × List ℕ
verdict_answer (Refused r) = (refusal_no r, [])
verdict_answer (Accepted k) = (0, k ∷ [])
verdict_answer (Violation v) = (test_no v.test, v.at.step ∷ v.at.dpc ∷ v.at.word ∷ [])

-- The word that a violation tells: none, written 0, for 21 and 22
abbrev pub told : ℕ → ℕ → ℕ
told v w = pick (nat_lt v 23) 0 w

-- A run takes steps until the limit or the first violation: k steps are taken, n are left
unfoldable pub running : Region → Region → List ℕ → ℕ → ℕ → State × List ℕ → (ℕ × List ℕ) × (State × List ℕ)
running c d code k zero p = ((0, k ∷ []), p)
running c d code k (suc n) p =
    elim (violation c d code p.0) [
      | zero ↦ running c d code (suc k) n (next c d code p)
      | suc v ↦ ((suc v, k ∷ p.0.dpc ∷ told (suc v) (fetched c code p.0) ∷ []), p)
    ]

-- State and data after k steps: the step k times
unfoldable pub after : Region → Region → List ℕ → ℕ → State × List ℕ → State × List ℕ
after c d code zero p = p
after c d code (suc k) p = after c d code k (next c d code p)

-- 1: a lent buffer has the wrong length: code 1,024 words, data 1,024 words
abbrev pub wrong_length_lem : ℕ → ℕ → Bool
wrong_length_lem code ws = not (code == LONGEST) || not (ws == LONGEST)

-- The tests of the refusal table that concern a record and the lengths of its buffers, in the table's order
abbrev pub tests : Machine → ℕ → ℕ → List (Bool × ℕ)
tests m code ws =
    (wrong_length_lem code ws, 1)
    ∷ (wrong_count_lem m, 6)
    ∷ (unaligned_start_lem m, 8)
    ∷ (past_memory_lem m, 9)
    ∷ (overlap m, 10)
    ∷ (not_zero_lem m, 11)
    ∷ []

-- A record's single step ignores test 12
unfoldable pub step_refusal : Machine → ℕ → ℕ → ℕ
step_refusal m code ws = first (tests m code ws) 0

unfoldable pub run_refusal : Machine → ℕ → ℕ → ℕ
run_refusal m code ws = first (tests m code ws ++ (over_limit_lem m, 12) ∷ []) 0

-- Answer, record and data of a call that takes at most n steps, r being its refusal: refused, nothing changes
unfoldable pub taking : ℕ → ℕ → Machine → List ℕ → List ℕ → (ℕ × List ℕ) × Machine × List ℕ
taking zero n m code ws =
    let o = running m.code m.«data» code 0 n (state_of m, ws) in
    (o.0, with_state m o.1.0, o.1.1)
taking (suc r) n m code ws = ((suc r, []), m, ws)

-- One step, and a run to the limit
abbrev pub stepping : Machine → List ℕ → List ℕ → (ℕ × List ℕ) × Machine × List ℕ
stepping m code ws = taking (step_refusal m (length code) (length ws)) 1 m code ws

abbrev pub runs : Machine → List ℕ → List ℕ → (ℕ × List ℕ) × Machine × List ℕ
runs m code ws = taking (run_refusal m (length code) (length ws)) m.limit m code ws
