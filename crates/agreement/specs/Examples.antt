-- Cards that the statement speaks of: the whole case of document 01, and small programs.
use Rattle.std.specs.Prelude.{ℕ, ◌/◌, ◌%◌, ◌^◌, ◌≤◌, ◌≡◌, List, [], ◌∷◌, ◌++◌, length, replicate}
use Rattle.machine.specs.Record.{DOUBLE_WORDS, LONGEST}
use Rattle.card.specs.Card.{Bytes, refusal, record_of_lem}
use Rattle.vamp.specs.Events.{stepped, interrupt, mode, MISALIGNED, ILLEGAL}
use Rattle.agreement.specs.Demand.{checker}
use Rattle.agreement.specs.Calls.{ran, sailed}

-- A number of 32 bits in four bytes, the lowest first, and a list of them
abbrev pub little : ℕ → List ℕ
little n = n % 2 ^ 8 ∷ n / 2 ^ 8 % 2 ^ 8 ∷ n / 2 ^ 16 % 2 ^ 8 ∷ n / 2 ^ 24 % 2 ^ 8 ∷ []

abbrev pub littles : List ℕ → List ℕ
littles [] = []
littles (n ∷ ns) = little n ++ littles ns

-- A card: mark SND, version 1, code from 0, data from 256, DPC 0, PC' 4, a limit, registers 0, code and data
abbrev pub card : ℕ → List ℕ → List ℕ → List ℕ
card limit code words =
    83 ∷ 78 ∷ 68 ∷ 1 ∷ 0 ∷ 0 ∷ 0 ∷ 0 ∷
    littles (0 ∷ length code ∷ 256 ∷ length words ∷ 0 ∷ 4 ∷ limit ∷ []) ++ littles (replicate 64 0) ++ littles code ++ littles words

-- A card, a count of steps, what the checker answers for it, and what the VAMP does: the steps it takes, its last answer, and how many of them reported a cause
pub record Example : Type 0 where
  pub of_card_lem : List ℕ
  pub count : ℕ
  pub answers : ℕ × List ℕ
  pub sails : ℕ × (ℕ × ℕ) × ℕ

abbrev pub example : List ℕ → ℕ → ℕ × List ℕ → ℕ × (ℕ × ℕ) × ℕ → Example
example c n a v = record { of_card_lem = c; count = n; answers = a; sails = v }

-- Four data words
abbrev pub four : List ℕ
four = 0 ∷ 0 ∷ 0 ∷ 0 ∷ []

-- addi r1,r1,1; sw r0(256),r1; beqz r0,-12; nop: a loop that is accepted at every count
abbrev pub loop : List ℕ
loop = card 1000000 (0x24210001 ∷ 0xAC010100 ∷ 0x1000FFF4 ∷ 0 ∷ []) four

-- The whole case of document 01
abbrev pub whole_case : Example
whole_case = example (card 10 (0x2401FFFC ∷ 0x8C220008 ∷ 0 ∷ []) four) 10 (26, 1 ∷ 4 ∷ 0x8C220008 ∷ []) (10, stepped 0, 0)

-- Accepted at a count
abbrev pub looping : ℕ → Example
looping n = example loop n (0, n ∷ []) (n, stepped 0, 0)

-- 21: addi r1,r0,2; jr r1; nop
abbrev pub stop_21 : Example
stop_21 = example (card 10 (0x24010002 ∷ 0x58200000 ∷ 0 ∷ []) four) 10 (21, 3 ∷ 2 ∷ 0 ∷ []) (3, interrupt MISALIGNED, 0)

-- 22: nop, and past the code
abbrev pub stop_22 : Example
stop_22 = example (card 10 (0 ∷ []) four) 10 (22, 1 ∷ 4 ∷ 0 ∷ []) (10, stepped 0, 0)

-- 23: opcode 01
abbrev pub stop_23 : Example
stop_23 = example (card 10 (0x04000000 ∷ []) four) 10 (23, 0 ∷ 0 ∷ 0x04000000 ∷ []) (0, interrupt ILLEGAL, 0)

-- 24: j 0
abbrev pub stop_24 : Example
stop_24 = example (card 10 (0x08000000 ∷ []) four) 10 (24, 0 ∷ 0 ∷ 0x08000000 ∷ []) (10, stepped 0, 0)

-- 25: lw r1,r0(257)
abbrev pub stop_25 : Example
stop_25 = example (card 10 (0x8C010101 ∷ []) four) 10 (25, 0 ∷ 0 ∷ 0x8C010101 ∷ []) (0, interrupt MISALIGNED, 0)

-- 26: lw r1,r0(272)
abbrev pub stop_26 : Example
stop_26 = example (card 10 (0x8C010110 ∷ []) four) 10 (26, 0 ∷ 0 ∷ 0x8C010110 ∷ []) (10, stepped 0, 0)

-- 27: addi r1,r0,1; movi2s SPR[16],r1
abbrev pub stop_27 : Example
stop_27 = example (card 10 (0x24010001 ∷ 0x00200411 ∷ []) four) 10 (27, 1 ∷ 4 ∷ 0x00200411 ∷ []) (1, mode, 0)

-- Accepted at every count up to 6 and at a later one, and stopped by each number
abbrev pub short_runs : List Example
short_runs = looping 0 ∷ looping 1 ∷ looping 2 ∷ looping 3 ∷ []

abbrev pub longer_runs : List Example
longer_runs = looping 4 ∷ looping 5 ∷ looping 6 ∷ looping 30 ∷ []

abbrev pub stops_to_23 : List Example
stops_to_23 = whole_case ∷ stop_21 ∷ stop_22 ∷ stop_23 ∷ []

abbrev pub stops_from_24 : List Example
stops_from_24 = stop_24 ∷ stop_25 ∷ stop_26 ∷ stop_27 ∷ []

abbrev pub examples : List Example
examples = short_runs ++ longer_runs ++ stops_to_23 ++ stops_from_24

-- An example holds: the loader accepts its card, the count is within its limit, and the checker, the call of its run and that of the VAMP answer so
pub record Holds (e : Example) : Type 0 where
  pub bytes : Bytes e.of_card_lem
  pub loads : refusal e.of_card_lem LONGEST LONGEST DOUBLE_WORDS ≡ 0
  pub within : e.count ≤ (record_of_lem e.of_card_lem).limit
  pub says : checker e.of_card_lem e.count ≡ e.answers
  pub run_says : (ran e.of_card_lem e.count).0 ≡ e.answers
  pub vamp_says : (let s = sailed e.of_card_lem e.count in (s.0, s.1, s.2)) ≡ e.sails

abbrev pub Each : List Example → Type 0
Each [] = Unit {0}
Each (e ∷ es) = Holds e × Each es
