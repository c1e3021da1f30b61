-- A card cut off beyond the longest that loads: the answer stays. So a reader needs room for one byte more than the longest card, and no more.
use Prim.Native.Nat.{ℕ, zero, suc, ◌+◌, ◌*◌, ◌≤◌, ◌<◌}
use mathlib.Core.Path.{◌≡◌, refl, sym, ap, ◌∙◌}
use mathlib.Core.Bool.{Bool, true, false}
use mathlib.Core.List.{List, []}
use native.Mathlib.Omega.{arith}
use borrow.Author.Tests.{ne_eqb, le-ltb, ltb-true, ltb-false}
use lib.Dec.{ltb}
use lib.ListN.{length, get_or, take}
use lib.Seq.{get_or-take, take_all, length-take-le}
use Rattle.machine.specs.declared.Machine.{Machine}
use Rattle.machine.specs.Record.{DOUBLE_WORDS, LONGEST, wrong_count_lem}
use Rattle.machine.proofs.Regions.{right_count}
use Rattle.card.specs.Card.{BODY, tab, number16, number32, numbers, record_of_lem, too_short, wrong_mark_lem, wrong_version, reserved_set_lem, wrong_size_lem, refusal}
use Rattle.card.proofs.Accepted.{accepted, right_size}
use Rattle.judge.specs.Judging.{refused_by, judging, explained_by}
use Rattle.judge.proofs.Ruled.{judging_refused, explained_refused}

-- The longest card that loads: 292 + 4 x (1,024 + 1,024) bytes
abbrev pub LONGEST_CARD : ℕ
LONGEST_CARD = BODY + 4 * (LONGEST + LONGEST)

tab_same : (f g : ℕ → ℕ) (n : ℕ) → ((i : ℕ) → i < n → f i ≡ g i) → tab f n ≡ tab g n
unfolding tab
tab_same f g zero h = refl
tab_same f g (suc n) h = rw (tab_same f g n (λ i l. h i (omega arith)), h n (omega arith))

-- Counts that are not refused fit no length beyond the longest
too_long : (n : ℕ) (m : Machine) → LONGEST_CARD < n → wrong_count_lem m ≡ false → wrong_size_lem n m ≡ true
unfolding wrong_size_lem
too_long n m l e =
    let k = right_count m e in
    let a = k.1 in
    let b = k.2 in
    rw (ne_eqb n (BODY + 4 * (m.code.words + m.«data».words)) (λ z. omega arith))

long_refused : (card : List ℕ) → LONGEST_CARD < length card → refused_by card ≡ 0 → ⊥
long_refused card l e =
    let a = accepted card LONGEST LONGEST DOUBLE_WORDS e in
    let s = right_size (length card) (record_of_lem card) a.size in
    let k = right_count (record_of_lem card) a.passes.counts in
    let x = k.1 in
    let y = k.2 in
    omega arith

module _ (card : List ℕ) (n : ℕ) (l : LONGEST_CARD < n) (h : n ≤ length card) where
  byte : (i : ℕ) → i < n → get_or (take n card) i 0 ≡ get_or card i 0
  byte i k = get_or-take n card i 0 k

  size : length (take n card) ≡ n
  size = length-take-le n card h

  word : (o : ℕ) → o + 3 < n → number32 (take n card) o ≡ number32 card o
  unfolding number32
  word o k = rw (byte o (omega arith), byte (o + 1) (omega arith), byte (o + 2) (omega arith), byte (o + 3) (omega arith))

  words : (o k : ℕ) → o + 4 * k < n → numbers (take n card) o k ≡ numbers card o k
  words o k e = tab_same (λ i. number32 (take n card) (o + 4 * i)) (λ i. number32 card (o + 4 * i)) k (λ i j. word (o + 4 * i) (omega arith))

  same_record : record_of_lem (take n card) ≡ record_of_lem card
  unfolding record_of_lem
  same_record =
      rw
      (word 8 (omega arith), word 12 (omega arith), word 16 (omega arith), word 20 (omega arith), word 24 (omega arith), word 28 (omega arith), word 32 (omega arith), words 36 32 (omega arith), words 164 32 (omega arith))

  short : (t : List ℕ) → LONGEST_CARD < length t → too_short t ≡ false
  unfolding too_short
  short t k = le-ltb (length t) BODY (omega arith)

  mark : wrong_mark_lem (take n card) ≡ wrong_mark_lem card
  unfolding wrong_mark_lem
  mark = rw (byte 0 (omega arith), byte 1 (omega arith), byte 2 (omega arith))

  version : wrong_version (take n card) ≡ wrong_version card
  unfolding wrong_version number16
  version = rw (byte 3 (omega arith), byte 4 (omega arith))

  reserved : reserved_set_lem (take n card) ≡ reserved_set_lem card
  unfolding reserved_set_lem
  reserved = rw (byte 5 (omega arith), byte 6 (omega arith), byte 7 (omega arith))

  -- The tests 2 to 6 see the same bytes, and where none of them refuses 7 does
  same_refusal : refused_by (take n card) ≡ refused_by card
  unfolding refusal
  same_refusal = by (wrong_count_lem (record_of_lem card)) refl
    where
      by : (t : Bool) → wrong_count_lem (record_of_lem card) ≡ t → refused_by (take n card) ≡ refused_by card
      by true e = rw (short (take n card) (rw size l), short card (omega arith), mark, version, reserved, same_record, e)
      by false e =
          rw
          (short (take n card) (rw size l), short card (omega arith), mark, version, reserved, same_record, e, too_long (length (take n card)) (record_of_lem card) (rw size l) e, too_long (length card) (record_of_lem card) (omega arith) e)

  long_cut : judging (take n card) ≡ judging card
  long_cut =
      sym (judging_refused (take n card) (refused_by (take n card)) refl (long_refused (take n card) (rw size l)))
      ∙ ap (λ (k : ℕ). (k, [])) same_refusal
      ∙ judging_refused card (refused_by card) refl (long_refused card (omega arith))

  long_cut_explained : explained_by (take n card) ≡ explained_by card
  long_cut_explained = sym (explained_refused (take n card) (long_refused (take n card) (rw size l))) ∙ explained_refused card (long_refused card (omega arith))

-- Whatever a card has past its first n bytes, n being more than the longest card has, cannot change what is said of it
module _ (card : List ℕ) (n : ℕ) (l : LONGEST_CARD < n) where
  pub cut_off : judging (take n card) ≡ judging card
  cut_off = by (ltb (length card) n) refl
    where
      by : (t : Bool) → ltb (length card) n ≡ t → judging (take n card) ≡ judging card
      by true e = let k : length card < n = ltb-true (length card) n e in ap judging (take_all n card (omega arith))
      by false e = long_cut card n l (ltb-false (length card) n e)

  pub cut_off_explained : explained_by (take n card) ≡ explained_by card
  cut_off_explained = by (ltb (length card) n) refl
    where
      by : (t : Bool) → ltb (length card) n ≡ t → explained_by (take n card) ≡ explained_by card
      by true e = let k : length card < n = ltb-true (length card) n e in ap explained_by (take_all n card (omega arith))
      by false e = long_cut_explained card n l (ltb-false (length card) n e)
