-- A card that no test refuses: what each test of the table has left, and that the record passes the record tests of both machines.
use Prim.Native.Nat.{ℕ, ◌+◌, ◌*◌, ◌≤◌}
use mathlib.Core.Path.{◌≡◌, refl, ◌∙◌}
use mathlib.Core.Bool.{Bool, true, false}
use mathlib.Core.List.{List}
use native.Mathlib.Omega.{arith}
use borrow.Author.Tests.{eqb-true, ltb-false, not-false}
use lib.Dec.{eqb}
use lib.ListN.{length}
use Rattle.std.proofs.lemmas.Bool.Decides.{nat_tests}
use Rattle.words.specs.Fields.{pick}
use Rattle.machine.specs.declared.Machine.{Machine}
use Rattle.machine.specs.Record.{DOUBLE_WORDS, LONGEST, wrong_count_lem, unaligned_start_lem, past_memory_lem, overlap, not_zero_lem, over_limit_lem}
use Rattle.machine.proofs.Regions.{right_count}
use Rattle.card.specs.Card.{BODY, record_of_lem, wrong_length_lem, too_short, wrong_mark_lem, wrong_version, reserved_set_lem, wrong_size_lem, refusal}
use Rattle.card.specs.Work.{header, from_two, Room}

-- No test of a record refuses m
pub record Passes (m : Machine) : Type 0 where
  pub counts : wrong_count_lem m ≡ false
  pub starts : unaligned_start_lem m ≡ false
  pub within : past_memory_lem m ≡ false
  pub apart : overlap m ≡ false
  pub zero : not_zero_lem m ≡ false
  pub limit : over_limit_lem m ≡ false

-- No test of the table refuses the card
pub record Accepted (card : List ℕ) (code words memory : ℕ) : Type 0 where
  pub lengths : wrong_length_lem code words memory ≡ false
  pub long : too_short card ≡ false
  pub mark : wrong_mark_lem card ≡ false
  pub version : wrong_version card ≡ false
  pub reserved : reserved_set_lem card ≡ false
  pub size : wrong_size_lem (length card) (record_of_lem card) ≡ false
  pub passes : Passes (record_of_lem card)

-- A row whose answer is not the table's: its test does not hold, and the rest of the table gives the answer
not_this : (t : Bool) (n r : ℕ) → (n ≡ 0 → ⊥) → pick t n r ≡ 0 → (t ≡ false) × (r ≡ 0)
not_this true n r d e = absurd (d e)
not_this false n r d e = (refl, e)

module _ (card : List ℕ) (code words memory : ℕ) where
  pub accepted : refusal card code words memory ≡ 0 → Accepted card code words memory
  unfolding refusal
  accepted e =
      let m = record_of_lem card in
      let t1 = not_this (wrong_length_lem code words memory) 1 _ (omega arith) e in
      let t2 = not_this (too_short card) 2 _ (omega arith) t1.1 in
      let t3 = not_this (wrong_mark_lem card) 3 _ (omega arith) t2.1 in
      let t4 = not_this (wrong_version card) 4 _ (omega arith) t3.1 in
      let t5 = not_this (reserved_set_lem card) 5 _ (omega arith) t4.1 in
      let t6 = not_this (wrong_count_lem m) 6 _ (omega arith) t5.1 in
      let t7 = not_this (wrong_size_lem (length card) m) 7 _ (omega arith) t6.1 in
      let t8 = not_this (unaligned_start_lem m) 8 _ (omega arith) t7.1 in
      let t9 = not_this (past_memory_lem m) 9 _ (omega arith) t8.1 in
      let t10 = not_this (overlap m) 10 _ (omega arith) t9.1 in
      let t11 = not_this (not_zero_lem m) 11 _ (omega arith) t10.1 in
      let t12 = not_this (over_limit_lem m) 12 _ (omega arith) t11.1 in
      record {
        lengths = t1.0;
        long = t2.0;
        mark = t3.0;
        version = t4.0;
        reserved = t5.0;
        size = t7.0;
        passes = record { counts = t6.0; starts = t8.0; within = t9.0; apart = t10.0; zero = t11.0; limit = t12.0 };
      }

  -- The other way round
  pub not_refused : Accepted card code words memory → refusal card code words memory ≡ 0
  unfolding refusal
  not_refused a =
      rw (a.lengths, a.long, a.mark, a.version, a.reserved, a.passes.counts, a.size, a.passes.starts, a.passes.within, a.passes.apart, a.passes.zero, a.passes.limit)

-- A card that the test 2 leaves has its fields
pub long_enough : (card : List ℕ) → header card ≡ 0 → BODY ≤ length card
unfolding too_short
long_enough card e = ltb-false (length card) BODY (not_this (too_short card) 2 _ (omega arith) e).0

-- The lengths that the work relies on
pub right_length : (code words memory : ℕ) → wrong_length_lem code words memory ≡ false → (code ≡ LONGEST) × (words ≡ LONGEST) × (memory ≡ DOUBLE_WORDS)
unfolding wrong_length_lem
right_length code words memory e = grind (arith, nat_tests)

pub right_size : (n : ℕ) (m : Machine) → wrong_size_lem n m ≡ false → n ≡ BODY + 4 * (m.code.words + m.«data».words)
unfolding wrong_size_lem
right_size n m e = eqb-true n (BODY + 4 * (m.code.words + m.«data».words)) (not-false (eqb n (BODY + 4 * (m.code.words + m.«data».words))) e)

-- The table where the lengths of the buffers are right
pub from_one : (card : List ℕ) → refusal card LONGEST LONGEST DOUBLE_WORDS ≡ from_two card (record_of_lem card)
unfolding refusal wrong_length_lem
from_one card = refl

-- What the tests from 2 on leave
pub room : (card : List ℕ) → from_two card (record_of_lem card) ≡ 0 → Room card
room card e =
    let a = accepted card LONGEST LONGEST DOUBLE_WORDS (from_one card ∙ e) in
    let k = right_count (record_of_lem card) a.passes.counts in
    record { size = right_size (length card) (record_of_lem card) a.size; code_words = k.1; data_words = k.2 }
