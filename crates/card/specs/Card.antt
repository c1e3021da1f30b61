-- Document 01, "The run card": where the fields stand, the refusal table, and what loading leaves.
use Rattle.std.specs.Prelude.{ℕ, zero, suc, ◌+◌, ◌*◌, ◌^◌, ◌<◌, Bool, true, false, not, ◌&&◌, ◌||◌, List, [], ◌∷◌, ◌++◌, eqb, ltb, length, get_or, Result, Ok, Err}
use Rattle.words.specs.Fields.{pick}
use Rattle.machine.specs.declared.Machine.{Machine}
use Rattle.machine.specs.declared.Region.{Region}
use Rattle.machine.specs.declared.Refusal.{Refusal}
use Rattle.machine.specs.Record.{LONGEST, DOUBLE_WORDS, zeros, image, wrong_count_lem, unaligned_start_lem, past_memory_lem, overlap, not_zero_lem, over_limit_lem, first, refusal_no}

-- A card is a string of bytes
abbrev pub Bytes : List ℕ → Type 0
Bytes card = (i : ℕ) → get_or card i 0 < 256

-- f 0 to f (n - 1)
unfoldable pub tab : (ℕ → ℕ) → ℕ → List ℕ
tab f zero = []
tab f (suc n) = tab f n ++ f n ∷ []

-- ---- Little-endian: the numbers of 16 and of 32 bits at an offset, and n of the latter from an offset on

unfoldable pub number16 : List ℕ → ℕ → ℕ
number16 card o = get_or card o 0 + 2 ^ 8 * get_or card (o + 1) 0

unfoldable pub number32 : List ℕ → ℕ → ℕ
number32 card o = get_or card o 0 + 2 ^ 8 * get_or card (o + 1) 0 + 2 ^ 16 * get_or card (o + 2) 0 + 2 ^ 24 * get_or card (o + 3) 0

abbrev pub numbers : List ℕ → ℕ → ℕ → List ℕ
numbers card o n = tab (λ i. number32 card (o + 4 * i)) n

-- ---- The record

-- 8: code start. 12: code words C. 16: data start. 20: data words D. 24: DPC. 28: PC'. 32: step limit. 36: R0 to R31. 164: special registers 0 to 31
unfoldable pub record_of_lem : List ℕ → Machine
record_of_lem card =
    record {
      code = record { start = number32 card 8; words = number32 card 12 };
      «data» = record { start = number32 card 16; words = number32 card 20 };
      dpc = number32 card 24;
      pc = number32 card 28;
      limit = number32 card 32;
      gpr = numbers card 36 32;
      spr = numbers card 164 32;
    }

-- 292: the C code words, then the D data words
abbrev pub BODY : ℕ
BODY = 292

-- ---- The refusals of a card; those of its record are in crate machine

-- 1: a lent buffer has the wrong length: code 1,024 words, data 1,024 words, VAMP memory 2,048 double words
unfoldable pub wrong_length_lem : ℕ → ℕ → ℕ → Bool
wrong_length_lem code words memory = not (eqb code LONGEST) || not (eqb words LONGEST) || not (eqb memory DOUBLE_WORDS)

-- 2: fewer than 292 bytes
unfoldable pub too_short : List ℕ → Bool
too_short card = ltb (length card) BODY

-- 3: wrong mark. 0: mark `SND`, in bytes 83, 78, 68
unfoldable pub wrong_mark_lem : List ℕ → Bool
wrong_mark_lem card = not (eqb (get_or card 0 0) 83 && eqb (get_or card 1 0) 78 && eqb (get_or card 2 0) 68)

-- 4: version not 1. 3: version, 16 bits
unfoldable pub wrong_version : List ℕ → Bool
wrong_version card = not (eqb (number16 card 3) 1)

-- 5: bytes 5 to 7 not all zero
unfoldable pub reserved_set_lem : List ℕ → Bool
reserved_set_lem card = not (eqb (get_or card 5 0) 0 && eqb (get_or card 6 0) 0 && eqb (get_or card 7 0) 0)

-- 7: length is not 292 + 4(C + D)
unfoldable pub wrong_size_lem : ℕ → Machine → Bool
wrong_size_lem n m = not (eqb n (BODY + 4 * (m.code.words + m.«data».words)))

-- The table, of a card and its record m. The three buffers come by their lengths
abbrev pub table : List ℕ → Machine → ℕ → ℕ → ℕ → List (Bool × ℕ)
table card m code words memory =
    (wrong_length_lem code words memory, 1)
    ∷ (too_short card, 2)
    ∷ (wrong_mark_lem card, 3)
    ∷ (wrong_version card, 4)
    ∷ (reserved_set_lem card, 5)
    ∷ (wrong_count_lem m, 6)
    ∷ (wrong_size_lem (length card) m, 7)
    ∷ (unaligned_start_lem m, 8)
    ∷ (past_memory_lem m, 9)
    ∷ (overlap m, 10)
    ∷ (not_zero_lem m, 11)
    ∷ (over_limit_lem m, 12)
    ∷ []

-- Refused exactly when (first that holds); 0 where none does
unfoldable pub refusal : List ℕ → ℕ → ℕ → ℕ → ℕ
refusal card code words memory = first (table card (record_of_lem card) code words memory) 0

-- ---- What loading leaves

-- The n words from offset o on, and zero past them
unfoldable pub padded : List ℕ → ℕ → ℕ → ℕ → ℕ
padded card o n i = pick (ltb i n) (number32 card (o + 4 * i)) 0

-- The first C and D words are the card's, the rest of those buffers is zero
unfoldable pub code_buffer : List ℕ → List ℕ
code_buffer card = tab (padded card BODY (record_of_lem card).code.words) LONGEST

unfoldable pub data_buffer : List ℕ → List ℕ
data_buffer card = tab (padded card (BODY + 4 * (record_of_lem card).code.words) (record_of_lem card).«data».words) LONGEST

-- VAMP memory holds code and data at their addresses and zero elsewhere. Double word i holds bytes 8i to 8i+7, the lowest the least significant
unfoldable pub double : Region → Region → List ℕ → List ℕ → ℕ → ℕ
double c d code ws i = image c d code ws (8 * i) + 2 ^ 32 * image c d code ws (8 * i + 4)

unfoldable pub memory_buffer : List ℕ → List ℕ
memory_buffer card = tab (double (record_of_lem card).code (record_of_lem card).«data» (code_buffer card) (data_buffer card)) DOUBLE_WORDS

-- The record and the buffers of a card that is not refused
abbrev pub loaded : List ℕ → Machine × List ℕ × List ℕ × List ℕ
loaded card = (record_of_lem card, code_buffer card, data_buffer card, memory_buffer card)

-- The paper's number of an answer, 0 where the card is loaded, and whether it is
abbrev pub answer_of : Result (Unit {0}) Refusal → ℕ × Bool
answer_of (Err refusal) = (refusal_no refusal, false)
answer_of (Ok u) = (0, true)

-- Answer, record and the three buffers. A refusal changes no buffer; a refused load returns a record of zeros
unfoldable pub loading : List ℕ → List ℕ → List ℕ → List ℕ → (ℕ × Bool) × Machine × List ℕ × List ℕ × List ℕ
loading card code ws memory =
    let n = refusal card (length code) (length ws) (length memory) in
    pick (eqb n 0)
    ((0, true), record_of_lem card, code_buffer card, data_buffer card, memory_buffer card)
    ((n, false), zeros, code, ws, memory)
