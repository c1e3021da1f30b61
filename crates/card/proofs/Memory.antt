-- What the three buffers hold after loading, word by word.
use Prim.Native.Nat.{ℕ, ◌+◌, ◌*◌, ◌/◌, ◌%◌, ◌^◌, ◌≤◌, ◌<◌}
use mathlib.Core.Path.{◌≡◌, refl, ap, ◌∙◌}
use mathlib.Core.Bool.{Bool, true, false}
use mathlib.Core.List.{List}
use native.Mathlib.Omega.{arith}
use borrow.Author.Tests.{lt-ltb, le-ltb, eqb-true, eqb-false}
use lib.Dec.{eqb, ltb}
use lib.ListN.{length, get_or}
use Rattle.words.specs.Fields.{pick}
use Rattle.machine.specs.declared.Machine.{Machine}
use Rattle.machine.specs.Record.{DOUBLE_WORDS, LONGEST, MEMORY, image}
use Rattle.machine.proofs.Regions.{image_below}
use Rattle.card.specs.Card.{Bytes, BODY, number32, numbers, record_of_lem, padded, code_buffer, data_buffer, double, memory_buffer}
use Rattle.card.proofs.Tab.{tab_length, tab_at, tab_below}

-- The word that VAMP memory holds at an address
abbrev pub memory_at : List ℕ → ℕ → ℕ
memory_at memory a = get_or memory (a / 8) 0 / 2 ^ (8 * (a % 8)) % 2 ^ 32

-- The word that the card's regions have there
abbrev pub image_of : List ℕ → ℕ → ℕ
image_of card = image (record_of_lem card).code (record_of_lem card).«data» (code_buffer card) (data_buffer card)

-- The two halves of a double word
low : (x y : ℕ) → x < 2 ^ 32 → (x + 2 ^ 32 * y) / 2 ^ (8 * 0) % 2 ^ 32 ≡ x
low x y l = omega arith

high : (x y : ℕ) → x < 2 ^ 32 → y < 2 ^ 32 → (x + 2 ^ 32 * y) / 2 ^ (8 * 4) % 2 ^ 32 ≡ y
high x y l h = omega arith

-- ---- Lengths

module _ (card : List ℕ) where
  pub code_length : length (code_buffer card) ≡ LONGEST
  unfolding code_buffer
  code_length = tab_length _ LONGEST

  pub data_length : length (data_buffer card) ≡ LONGEST
  unfolding data_buffer
  data_length = tab_length _ LONGEST

  pub memory_length : length (memory_buffer card) ≡ DOUBLE_WORDS
  unfolding memory_buffer
  memory_length = tab_length _ DOUBLE_WORDS

-- ---- Code and data

-- Below n the words are the card's, past them they are zero
pub padded_in : (card : List ℕ) (o n i : ℕ) → i < n → padded card o n i ≡ number32 card (o + 4 * i)
unfolding padded
padded_in card o n i l = rw (lt-ltb i n l)

pub padded_past : (card : List ℕ) (o n i : ℕ) → n ≤ i → padded card o n i ≡ 0
unfolding padded
padded_past card o n i l = rw (le-ltb i n l)

module _ (card : List ℕ) (i : ℕ) (l : i < LONGEST) where
  pub code_at : get_or (code_buffer card) i 0 ≡ padded card BODY (record_of_lem card).code.words i
  unfolding code_buffer
  code_at = tab_at _ LONGEST i l

  pub data_at : get_or (data_buffer card) i 0 ≡ padded card (BODY + 4 * (record_of_lem card).code.words) (record_of_lem card).«data».words i
  unfolding data_buffer
  data_at = tab_at _ LONGEST i l

-- ---- Every loaded word is below 2^32

-- The numbers of a record are words, and it has 32 registers of each kind
pub record Words (m : Machine) : Type 0 where
  pub code_start : m.code.start < 2 ^ 32
  pub data_start : m.«data».start < 2 ^ 32
  pub limit : m.limit < 2 ^ 32
  pub dpc : m.dpc < 2 ^ 32
  pub pc : m.pc < 2 ^ 32
  pub gpr : (i : ℕ) → get_or m.gpr i 0 < 2 ^ 32
  pub spr : (i : ℕ) → get_or m.spr i 0 < 2 ^ 32
  pub gpr_length : length m.gpr ≡ 32
  pub spr_length : length m.spr ≡ 32

module _ (card : List ℕ) (b : Bytes card) where
  pub number_below : (o : ℕ) → number32 card o < 2 ^ 32
  unfolding number32
  number_below o = omega (arith, b o, b (o + 1), b (o + 2), b (o + 3))

  padded_below : (o n i : ℕ) → padded card o n i < 2 ^ 32
  unfolding padded
  padded_below o n i = by (ltb i n)
    where
      by : (t : Bool) → pick t (number32 card (o + 4 * i)) 0 < 2 ^ 32
      by true = number_below (o + 4 * i)
      by false = omega arith

  pub code_below : (i : ℕ) → get_or (code_buffer card) i 0 < 2 ^ 32
  unfolding code_buffer
  code_below = tab_below _ LONGEST (2 ^ 32) (omega arith) (padded_below BODY (record_of_lem card).code.words)

  pub data_below : (i : ℕ) → get_or (data_buffer card) i 0 < 2 ^ 32
  unfolding data_buffer
  data_below = tab_below _ LONGEST (2 ^ 32) (omega arith) (padded_below (BODY + 4 * (record_of_lem card).code.words) (record_of_lem card).«data».words)

  numbers_below : (o i : ℕ) → get_or (numbers card o 32) i 0 < 2 ^ 32
  numbers_below o = tab_below (λ i. number32 card (o + 4 * i)) 32 (2 ^ 32) (omega arith) (λ i. number_below (o + 4 * i))

  pub record_words : Words (record_of_lem card)
  unfolding record_of_lem
  record_words =
      record {
        code_start = number_below 8;
        data_start = number_below 16;
        limit = number_below 32;
        dpc = number_below 24;
        pc = number_below 28;
        gpr = numbers_below 36;
        spr = numbers_below 164;
        gpr_length = tab_length _ 32;
        spr_length = tab_length _ 32;
      }

  pub image_small : (a : ℕ) → image_of card a < 2 ^ 32
  image_small a = image_below (record_of_lem card).code (record_of_lem card).«data» (code_buffer card) (data_buffer card) a (2 ^ 32) (omega arith) code_below data_below

  pub memory_below : (i : ℕ) → get_or (memory_buffer card) i 0 < 2 ^ 64
  unfolding memory_buffer double
  memory_below = tab_below _ DOUBLE_WORDS (2 ^ 64) (omega arith) (λ i. omega (arith, image_small (8 * i), image_small (8 * i + 4)))

  -- ---- VAMP memory holds what the regions say

  pub memory_word : (a : ℕ) → a % 4 ≡ 0 → a < MEMORY → memory_at (memory_buffer card) a ≡ image_of card a
  unfolding memory_buffer double
  memory_word a e l =
      ap (λ (x : ℕ). x / 2 ^ (8 * (a % 8)) % 2 ^ 32) (tab_at (double (record_of_lem card).code (record_of_lem card).«data» (code_buffer card) (data_buffer card)) DOUBLE_WORDS (a / 8) (omega arith))
      ∙ by (eqb (a % 8) 0) refl
    where
      by : (t : Bool) → eqb (a % 8) 0 ≡ t → (image_of card (8 * (a / 8)) + 2 ^ 32 * image_of card (8 * (a / 8) + 4)) / 2 ^ (8 * (a % 8)) % 2 ^ 32 ≡ image_of card a
      by true t =
          let r : a % 8 ≡ 0 = eqb-true (a % 8) 0 t in
          rw r (low (image_of card (8 * (a / 8))) _ (image_small (8 * (a / 8))) ∙ ap (image_of card) (omega arith))
      by false t =
          let n : a % 8 ≡ 0 → ⊥ = eqb-false (a % 8) 0 t in
          let r : a % 8 ≡ 4 = omega arith in
          rw r (high _ (image_of card (8 * (a / 8) + 4)) (image_small (8 * (a / 8))) (image_small (8 * (a / 8) + 4)) ∙ ap (image_of card) (omega arith))
