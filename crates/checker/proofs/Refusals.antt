-- The refusals of a run are those of a step, then the limit's; and what no refusal tells of the buffers.
use Rattle.std.proofs.Common.{◌≡◌, ℕ, zero, suc, ◌<◌, ◌≤◌, Bool, true, false, not, eqb, List, [], ◌∷◌, sym, refl, ◌∙◌, arith, eqb-true, ne_eqb, ◌||◌, length}
use Rattle.std.proofs.lemmas.Bool.Decides.{nat_tests}
use Rattle.words.specs.Fields.{pick}
use Rattle.machine.specs.declared.Machine.{Machine}
use Rattle.machine.proofs.Regions.{right_count}
use Rattle.machine.specs.declared.Refusal.{Refusal}
use Rattle.machine.specs.declared.Refusal.TheVariants.{WrongLength, TooShort, WrongMark, WrongVersion, ReservedSet, WrongCount, WrongSize, UnalignedStart, PastMemory, Overlap, NotZero, OverLimit}
use Rattle.machine.specs.Record.{LONGEST, refusal_no, wrong_count_lem, unaligned_start_lem, past_memory_lem, overlap, not_zero_lem, over_limit_lem, first}
use Rattle.checker.specs.Runs.{wrong_length_lem, step_refusal, run_refusal, taking, runs}

-- Over any outcome of the tests
tables : (a b c d e f g : Bool)
    → ◌≡◌ {A = ℕ} (first ((a, 1) ∷ (b, 6) ∷ (c, 8) ∷ (d, 9) ∷ (e, 10) ∷ (f, 11) ∷ (g, 12) ∷ []) 0)
    (pick (eqb (first ((a, 1) ∷ (b, 6) ∷ (c, 8) ∷ (d, 9) ∷ (e, 10) ∷ (f, 11) ∷ []) 0) 0) (pick g 12 0)
    (first ((a, 1) ∷ (b, 6) ∷ (c, 8) ∷ (d, 9) ∷ (e, 10) ∷ (f, 11) ∷ []) 0))
tables true b c d e f g = refl
tables false true c d e f g = refl
tables false false true d e f g = refl
tables false false false true e f g = refl
tables false false false false true f g = refl
tables false false false false false true g = refl
tables false false false false false false g = refl

pub run_refusal_lem : (m : Machine) (c w : ℕ) → run_refusal m c w ≡ pick (eqb (step_refusal m c w) 0) (pick (over_limit_lem m) 12 0) (step_refusal m c w)
unfolding run_refusal step_refusal
run_refusal_lem m c w = tables (wrong_length_lem c w) (wrong_count_lem m) (unaligned_start_lem m) (past_memory_lem m) (overlap m) (not_zero_lem m) (over_limit_lem m)

-- No refusal: every test is false
all_false : (a b c d e f : Bool) → ◌≡◌ {A = ℕ} (first ((a, 1) ∷ (b, 6) ∷ (c, 8) ∷ (d, 9) ∷ (e, 10) ∷ (f, 11) ∷ []) 0) 0
    → (a ≡ false) × (b ≡ false) × (c ≡ false) × (d ≡ false) × (e ≡ false) × (f ≡ false)
all_false true b c d e f z = absurd (omega arith)
all_false false true c d e f z = absurd (omega arith)
all_false false false true d e f z = absurd (omega arith)
all_false false false false true e f z = absurd (omega arith)
all_false false false false false true f z = absurd (omega arith)
all_false false false false false false true z = absurd (omega arith)
all_false false false false false false false z = (refl, refl, refl, refl, refl, refl)

pub step_passes : (m : Machine) (c w : ℕ) → step_refusal m c w ≡ 0
    → (wrong_length_lem c w ≡ false) × (wrong_count_lem m ≡ false) × (unaligned_start_lem m ≡ false) × (past_memory_lem m ≡ false) × (overlap m ≡ false) × (not_zero_lem m ≡ false)
unfolding step_refusal
step_passes m c w z = all_false (wrong_length_lem c w) (wrong_count_lem m) (unaligned_start_lem m) (past_memory_lem m) (overlap m) (not_zero_lem m) z

-- A run is not refused exactly where a step is not and the limit is not over
pub run_passes : (m : Machine) (c w : ℕ) → run_refusal m c w ≡ 0 → step_refusal m c w ≡ 0
run_passes m c w z = by (eqb (step_refusal m c w) 0) refl (sym (run_refusal_lem m c w) ∙ z)
  where
    by : (t : Bool) → eqb (step_refusal m c w) 0 ≡ t → pick t (pick (over_limit_lem m) 12 0) (step_refusal m c w) ≡ 0 → step_refusal m c w ≡ 0
    by true e p = eqb-true (step_refusal m c w) 0 e
    by false e p = p

-- Both buffers have the right length, and both regions lie in them
pub lengths : (m : Machine) (c w : ℕ) → step_refusal m c w ≡ 0 → (c ≡ LONGEST) × (w ≡ LONGEST)
lengths m c w z = let p = (step_passes m c w z).0 in grind (arith, nat_tests)

pub rooms : (m : Machine) (c w : ℕ) → step_refusal m c w ≡ 0 → (m.code.words ≤ c) × (m.«data».words ≤ w)
rooms m c w z =
    let l = lengths m c w z in
    let r = right_count m (step_passes m c w z).1 in
    (omega arith, omega arith)

pub run_rooms : (m : Machine) (c w : ℕ) → run_refusal m c w ≡ 0 → (m.code.words ≤ c) × (m.«data».words ≤ w)
run_rooms m c w z = rooms m c w (run_passes m c w z)

-- The refusals of a run have no number of a violation
twelve : (a b c d e f g : Bool) → first ((a, 1) ∷ (b, 6) ∷ (c, 8) ∷ (d, 9) ∷ (e, 10) ∷ (f, 11) ∷ (g, 12) ∷ []) 0 ≤ 12
twelve true b c d e f g = omega arith
twelve false true c d e f g = omega arith
twelve false false true d e f g = omega arith
twelve false false false true e f g = omega arith
twelve false false false false true f g = omega arith
twelve false false false false false true g = omega arith
twelve false false false false false false true = omega arith
twelve false false false false false false false = omega arith

pub refusal_number : (m : Machine) (c w : ℕ) → run_refusal m c w ≤ 12
unfolding run_refusal
refusal_number m c w = twelve (wrong_length_lem c w) (wrong_count_lem m) (unaligned_start_lem m) (past_memory_lem m) (overlap m) (not_zero_lem m) (over_limit_lem m)

-- Every refusal's number is among these
pub refusal_numbers : (r : Refusal) → (0 < refusal_no r) × (refusal_no r ≤ 12)
refusal_numbers WrongLength = (omega arith, omega arith)
refusal_numbers TooShort = (omega arith, omega arith)
refusal_numbers WrongMark = (omega arith, omega arith)
refusal_numbers WrongVersion = (omega arith, omega arith)
refusal_numbers ReservedSet = (omega arith, omega arith)
refusal_numbers WrongCount = (omega arith, omega arith)
refusal_numbers WrongSize = (omega arith, omega arith)
refusal_numbers UnalignedStart = (omega arith, omega arith)
refusal_numbers PastMemory = (omega arith, omega arith)
refusal_numbers Overlap = (omega arith, omega arith)
refusal_numbers NotZero = (omega arith, omega arith)
refusal_numbers OverLimit = (omega arith, omega arith)

-- A refused call answers its number, and nothing changes
pub refused : (r : Refusal) (n : ℕ) (m : Machine) (code ws : List ℕ) → ◌≡◌ ((refusal_no r, []), m, ws) (taking (refusal_no r) n m code ws)
unfolding taking
refused r n m code ws = by (refusal_no r) (refusal_numbers r).0
  where
    by : (q : ℕ) → 0 < q → ◌≡◌ ((q, []), m, ws) (taking q n m code ws)
    by zero z = absurd (omega arith)
    by (suc q) z = refl

-- Data of another length are refused, by 1
pub other_length : (m : Machine) (code ws : List ℕ) → (length ws ≡ LONGEST → ⊥) → (runs m code ws).0 ≡ (1, [])
unfolding run_refusal taking
other_length m code ws z = rw (ne_eqb (length ws) LONGEST z) (by (eqb (length code) LONGEST))
  where
    by : (t : Bool) → (taking (first ((not t || true, 1) ∷ (wrong_count_lem m, 6) ∷ (unaligned_start_lem m, 8) ∷ (past_memory_lem m, 9) ∷ (overlap m, 10) ∷ (not_zero_lem m, 11) ∷ (over_limit_lem m, 12) ∷ []) 0) m.limit m code ws).0 ≡ (1, [])
    by true = refl
    by false = refl
