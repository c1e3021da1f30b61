-- The statement is about something: cards are accepted, and each reason to stop occurs.
use Prim.Native.Nat.{ℕ, zero, suc, ◌+◌, ◌-◌, ◌*◌, ◌≤◌, ◌<◌}
use native.Mathlib.Omega.{arith}
use borrow.Author.Tests.{ltb-true}
use lib.Dec.{T, ltb, leb, lit≤}
use lib.ListN.{get_or, replicate}
use mathlib.Core.Bool.{Bool, true, false}
use Rattle.words.specs.Fields.{pick}
use mathlib.Core.Path.{◌≡◌, refl, ap, ◌∙◌}
use mathlib.Core.List.{List, [], ◌∷◌, ◌++◌}
use Rattle.machine.specs.Record.{DOUBLE_WORDS, LONGEST, wrong_count_lem, unaligned_start_lem, past_memory_lem, overlap, idle_set_lem, not_zero_lem, over_limit_lem}
use Rattle.card.specs.Card.{Bytes, refusal, record_of_lem, wrong_length_lem, too_short, wrong_mark_lem, wrong_version, reserved_set_lem, wrong_size_lem, tab, number16, number32}
use Rattle.words.specs.Fields.{opcode, function, field, immediate16, immediate26}
use Rattle.words.specs.Words.{reading}
use Rattle.arithmetic.specs.Rulings.{plus, sext}
use Rattle.machine.specs.Effects.{act, moved, meaning, applied, register, put, put_special, access, askew, mode_set, illegal}
use Rattle.machine.specs.Record.{word_at, image}
use Rattle.machine.specs.declared.Machine.{Machine}
use Rattle.machine.specs.declared.Region.{Region}
use Rattle.machine.proofs.Regions.{holds_out, image_else}
use Rattle.card.proofs.Tab.{tab_zeros}
use Rattle.checker.specs.Checks.{violation, next, found, left, outside, foreign, admits}
use Rattle.checker.specs.Runs.{running, after}
use Rattle.vamp.specs.Memory as memory
use Rattle.vamp.specs.Memory.{part, patch, stored}
use Rattle.vamp.specs.Events.{event, access_past, trapped, overflowed, overflow_masked}
use Rattle.vamp.specs.Steps as steps
use Rattle.vamp.specs.Steps.{onward, vstep, memory_after}
use Rattle.card.specs.Card.{code_buffer, data_buffer, memory_buffer, double, padded}
use Rattle.agreement.specs.Demand.{checker}
use Rattle.agreement.specs.Calls.{limited}
use Rattle.agreement.proofs.Results.{run_checks}
use Rattle.agreement.specs.Examples.{Example, examples, whole_case, looping, stop_21, stop_22, stop_23, stop_24, stop_25, stop_26, stop_27, short_runs, longer_runs, stops_to_23, stops_from_24, Holds, Each}

-- Every byte of a list that was computed to be one
abbrev small : List ℕ → Bool
small [] = true
small (x ∷ xs) = pick (ltb x 256) (small xs) false

small_bytes : (xs : List ℕ) → T (small xs) → Bytes xs
small_bytes [] t i = omega arith
small_bytes (x ∷ xs) t zero = by (ltb x 256) refl t
  where
    by : (b : Bool) → ltb x 256 ≡ b → T (pick b (small xs) false) → x < 256
    by true e t = ltb-true x 256 e
    by false e t = absurd t
small_bytes (x ∷ xs) t (suc i) = by (ltb x 256) t (small_bytes xs)
  where
    by : (b : Bool) → T (pick b (small xs) false) → (T (small xs) → Bytes xs) → get_or xs i 0 < 256
    by true t rest = rest t i
    by false t rest = absurd t

-- ---- VAMP memory of a small card: its first double words, and zeros

image_past : (c d : Region) (code ws : List ℕ) (a : ℕ) → c.start + 4 * c.words ≤ a → d.start + 4 * d.words ≤ a → image c d code ws a ≡ 0
image_past c d code ws a l h = image_else c d code ws a (holds_out c a l) (holds_out d a h)

-- Both regions end below the first FEW double words
abbrev FEW : ℕ
FEW = 34

abbrev small_memory : List ℕ → List ℕ
small_memory card = tab (double (record_of_lem card).code (record_of_lem card).«data» (code_buffer card) (data_buffer card)) FEW ++ replicate (DOUBLE_WORDS - FEW) 0

double_past : (c d : Region) (code ws : List ℕ) (i : ℕ) → c.start + 4 * c.words ≤ 8 * i → d.start + 4 * d.words ≤ 8 * i → double c d code ws i ≡ 0
unfolding double
double_past c d code ws i l h = rw (image_past c d code ws (8 * i) l h, image_past c d code ws (8 * i + 4) (omega arith) (omega arith))

memory_small : (card : List ℕ) → T (leb ((record_of_lem card).code.start + 4 * (record_of_lem card).code.words) (8 * FEW))
    → T (leb ((record_of_lem card).«data».start + 4 * (record_of_lem card).«data».words) (8 * FEW)) → memory_buffer card ≡ small_memory card
unfolding memory_buffer
memory_small card x y =
    let c = (record_of_lem card).code in
    let d = (record_of_lem card).«data» in
    let l : c.start + 4 * c.words ≤ 8 * FEW = lit≤ x in
    let h : d.start + 4 * d.words ≤ 8 * FEW = lit≤ y in
    tab_zeros (double c d (code_buffer card) (data_buffer card)) FEW (DOUBLE_WORDS - FEW) (λ i k. double_past c d (code_buffer card) (data_buffer card) i (omega arith) (omega arith))

-- What is looked at of the VAMP's steps: how many, the last answer, and how many reported a cause
abbrev told : ℕ × (ℕ × ℕ) × ℕ × Machine × List ℕ → ℕ × (ℕ × ℕ) × ℕ
told s = (s.0, s.1, s.2)

-- An example holds where what it says is computed; the call of the run answers as the checker
module _ (e : Example) where
  abbrev r : Machine
  r = record_of_lem e.of_card_lem

  holds_so : T (small e.of_card_lem) → refusal e.of_card_lem LONGEST LONGEST DOUBLE_WORDS ≡ 0 → T (leb e.count r.limit) → checker e.of_card_lem e.count ≡ e.answers
      → T (leb (r.code.start + 4 * r.code.words) (8 * FEW)) → T (leb (r.«data».start + 4 * r.«data».words) (8 * FEW))
      → told (steps.running (limited e.count r) (small_memory e.of_card_lem) e.count) ≡ e.sails → Holds e
  holds_so b a l c x y s =
      record {
        bytes = small_bytes e.of_card_lem b;
        loads = a;
        within = lit≤ l;
        says = c;
        run_says = run_checks e.of_card_lem (small_bytes e.of_card_lem b) a e.count (lit≤ l) ∙ c;
        vamp_says = ap (λ (mem : List ℕ). told (steps.running (limited e.count r) mem e.count)) (memory_small e.of_card_lem x y) ∙ s;
      }

-- Computed a few at a time: one declaration may take so many steps and no more
short_runs_hold : Each short_runs
unfolding double image part patch memory.loaded stored steps.running onward vstep event access_past trapped overflowed overflow_masked steps.found memory_after refusal record_of_lem wrong_length_lem too_short wrong_mark_lem wrong_version reserved_set_lem wrong_size_lem wrong_count_lem unaligned_start_lem past_memory_lem overlap idle_set_lem not_zero_lem over_limit_lem tab number16 number32 running after violation next found left outside foreign admits code_buffer data_buffer padded word_at act moved meaning applied register put put_special access askew mode_set illegal reading opcode function field immediate16 immediate26 plus sext
short_runs_hold = (holds_so (looping 0) tt refl tt refl tt tt refl, (holds_so (looping 1) tt refl tt refl tt tt refl, (holds_so (looping 2) tt refl tt refl tt tt refl, (holds_so (looping 3) tt refl tt refl tt tt refl, tt))))

longer_runs_hold : Each longer_runs
unfolding double image part patch memory.loaded stored steps.running onward vstep event access_past trapped overflowed overflow_masked steps.found memory_after refusal record_of_lem wrong_length_lem too_short wrong_mark_lem wrong_version reserved_set_lem wrong_size_lem wrong_count_lem unaligned_start_lem past_memory_lem overlap idle_set_lem not_zero_lem over_limit_lem tab number16 number32 running after violation next found left outside foreign admits code_buffer data_buffer padded word_at act moved meaning applied register put put_special access askew mode_set illegal reading opcode function field immediate16 immediate26 plus sext
longer_runs_hold = (holds_so (looping 4) tt refl tt refl tt tt refl, (holds_so (looping 5) tt refl tt refl tt tt refl, (holds_so (looping 6) tt refl tt refl tt tt refl, (holds_so (looping 30) tt refl tt refl tt tt refl, tt))))

stops_to_23_hold : Each stops_to_23
unfolding double image part patch memory.loaded stored steps.running onward vstep event access_past trapped overflowed overflow_masked steps.found memory_after refusal record_of_lem wrong_length_lem too_short wrong_mark_lem wrong_version reserved_set_lem wrong_size_lem wrong_count_lem unaligned_start_lem past_memory_lem overlap idle_set_lem not_zero_lem over_limit_lem tab number16 number32 running after violation next found left outside foreign admits code_buffer data_buffer padded word_at act moved meaning applied register put put_special access askew mode_set illegal reading opcode function field immediate16 immediate26 plus sext
stops_to_23_hold = (holds_so whole_case tt refl tt refl tt tt refl, (holds_so stop_21 tt refl tt refl tt tt refl, (holds_so stop_22 tt refl tt refl tt tt refl, (holds_so stop_23 tt refl tt refl tt tt refl, tt))))

stops_from_24_hold : Each stops_from_24
unfolding double image part patch memory.loaded stored steps.running onward vstep event access_past trapped overflowed overflow_masked steps.found memory_after refusal record_of_lem wrong_length_lem too_short wrong_mark_lem wrong_version reserved_set_lem wrong_size_lem wrong_count_lem unaligned_start_lem past_memory_lem overlap idle_set_lem not_zero_lem over_limit_lem tab number16 number32 running after violation next found left outside foreign admits code_buffer data_buffer padded word_at act moved meaning applied register put put_special access askew mode_set illegal reading opcode function field immediate16 immediate26 plus sext
stops_from_24_hold = (holds_so stop_24 tt refl tt refl tt tt refl, (holds_so stop_25 tt refl tt refl tt tt refl, (holds_so stop_26 tt refl tt refl tt tt refl, (holds_so stop_27 tt refl tt refl tt tt refl, tt))))

-- One after the other
both : (es fs : List Example) → Each es → Each fs → Each (es ++ fs)
both [] fs x y = y
both (e ∷ es) fs x y = (x.0, both es fs x.1 y)

pub examples_hold : Each examples
examples_hold = both short_runs (longer_runs ++ stops_to_23 ++ stops_from_24) short_runs_hold (both longer_runs (stops_to_23 ++ stops_from_24) longer_runs_hold (both stops_to_23 stops_from_24 stops_to_23_hold stops_from_24_hold))
