-- Document 01, "The run card": the tests of the refusal table that concern a record, by their numbers.
use Rattle.std.specs.Prelude.{ℕ, zero, suc, ◌+◌, ◌-◌, ◌*◌, ◌/◌, Bool, false, not, ◌&&◌, ◌||◌, List, [], ◌∷◌, replicate, ◌==◌, nat_le, nat_lt, slice_index, Result, Ok, Err}
use Rattle.machine.specs.declared.Machine.{Machine}
use Rattle.machine.specs.declared.Region.{Region}
use Rattle.machine.specs.declared.Refusal.{Refusal}
use Rattle.machine.specs.declared.Refusal.TheVariants.{WrongLength, TooShort, WrongMark, WrongVersion, ReservedSet, WrongCount, WrongSize, UnalignedStart, PastMemory, Overlap, NotZero, OverLimit}
use Rattle.words.specs.Fields.{pick}
use Rattle.machine.specs.Effects.{one_of, thirteen, unaligned, MODE, State}

-- A record of zeros
abbrev pub zeros : Machine
zeros = record { code = record { start = 0; words = 0 }; «data» = record { start = 0; words = 0 }; limit = 0; dpc = 0; pc = 0; gpr = replicate 32 0; spr = replicate 32 0 }

-- A region of c words from s holds the addresses a with s <= a < s + 4c
abbrev pub holds : Region → ℕ → Bool
holds r a = nat_le r.start a && nat_lt a (r.start + 4 * r.words)

-- Its word i is at s + 4i: the word of a region's list at an address
unfoldable pub word_at : Region → List ℕ → ℕ → ℕ
word_at r ws a = slice_index ws ((a - r.start) / 4)

-- Code and data at their addresses, and zero elsewhere: the word at an address
unfoldable pub image : Region → Region → List ℕ → List ℕ → ℕ → ℕ
image c d code ws a = pick (holds c a) (word_at c code a) (pick (holds d a) (word_at d ws a) 0)

-- The longest code and the longest data, in words
abbrev pub LONGEST : ℕ
LONGEST = 1024

-- Modelled memory is bytes 0 to 16,383: 2,048 double words
abbrev pub MEMORY : ℕ
MEMORY = 16384

abbrev pub DOUBLE_WORDS : ℕ
DOUBLE_WORDS = 2048

abbrev pub MOST_STEPS : ℕ
MOST_STEPS = 1000000

-- 6: C is 0 or over 1,024, or D over 1,024
unfoldable pub wrong_count_lem : Machine → Bool
wrong_count_lem m = m.code.words == 0 || nat_lt LONGEST m.code.words || nat_lt LONGEST m.«data».words

-- 8: a start is not a multiple of 4
unfoldable pub unaligned_start_lem : Machine → Bool
unaligned_start_lem m = unaligned 4 m.code.start || unaligned 4 m.«data».start

-- 9: start + 4 x count exceeds 16,384, as whole numbers, for either region
unfoldable pub past_memory_lem : Machine → Bool
past_memory_lem m = nat_lt MEMORY (m.code.start + 4 * m.code.words) || nat_lt MEMORY (m.«data».start + 4 * m.«data».words)

-- 10: some address is in both regions (never when D = 0). Where one is, the later of the two starts is
abbrev pub later : ℕ → ℕ → ℕ
later a b = pick (nat_lt a b) b a

unfoldable pub overlap : Machine → Bool
overlap m =
    let a = later m.code.start m.«data».start in
    holds m.code a && holds m.«data» a

-- Some number below n passes a test
abbrev pub any_below : (ℕ → Bool) → ℕ → Bool
any_below p zero = false
any_below p (suc n) = p n || any_below p n

-- 11: R0, an unused special register or MODE is not 0
abbrev pub idle : ℕ → Bool
idle n = not (one_of n thirteen) || n == MODE

unfoldable pub idle_set_lem : List ℕ → Bool
idle_set_lem p = any_below (λ n. idle n && not (slice_index p n == 0)) 32

unfoldable pub not_zero_lem : Machine → Bool
not_zero_lem m = not (slice_index m.gpr 0 == 0) || idle_set_lem m.spr

-- 12: step limit over 1,000,000
unfoldable pub over_limit_lem : Machine → Bool
over_limit_lem m = nat_lt MOST_STEPS m.limit

-- The state of a record, and a record with another state: no step or run changes a record's regions or limit
abbrev pub state_of : Machine → State
state_of m = record { dpc = m.dpc; pc = m.pc; gpr = m.gpr; spr = m.spr }

abbrev pub with_state : Machine → State → Machine
with_state m s = record { code = m.code; «data» = m.«data»; limit = m.limit; dpc = s.dpc; pc = s.pc; gpr = s.gpr; spr = s.spr }

-- The numbers of the refusals; 0 where nothing is refused
abbrev pub refusal_no : Refusal → ℕ
refusal_no WrongLength = 1
refusal_no TooShort = 2
refusal_no WrongMark = 3
refusal_no WrongVersion = 4
refusal_no ReservedSet = 5
refusal_no WrongCount = 6
refusal_no WrongSize = 7
refusal_no UnalignedStart = 8
refusal_no PastMemory = 9
refusal_no Overlap = 10
refusal_no NotZero = 11
refusal_no OverLimit = 12

abbrev pub refused_no : {A : Type 0} → Result A Refusal → ℕ
refused_no (Ok a) = 0
refused_no (Err r) = refusal_no r

-- A table of tests, each with its answer: the answer of the first that holds, and d where none does
abbrev pub first : {A : Type 0} → List (Bool × A) → A → A
first [] d = d
first (t ∷ ts) d = pick t.0 t.1 (first ts d)

-- Tests 8 to 11, which a loaded card and a checked record are put to alike
abbrev pub regions_tests : Machine → List (Bool × ℕ)
regions_tests m = (unaligned_start_lem m, 8) ∷ (past_memory_lem m, 9) ∷ (overlap m, 10) ∷ (not_zero_lem m, 11) ∷ []
