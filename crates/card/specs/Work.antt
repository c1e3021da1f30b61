-- What the loader's functions say to one another.
use Rattle.std.specs.Prelude.{ℕ, ◌+◌, ◌*◌, ◌≤◌, ◌≡◌, List, length, drop, Option, Some, None, Result, Ok, Err, Bool, true, false, [], ◌∷◌}
use Rattle.words.specs.Fields.{pick}
use Rattle.machine.specs.declared.Machine.{Machine}
use Rattle.machine.specs.declared.Region.{Region}
use Rattle.machine.specs.declared.Refusal.{Refusal}
use Rattle.machine.specs.Record.{DOUBLE_WORDS, LONGEST, zeros, first, holds, word_at, refusal_no}
use Rattle.card.specs.Card.{BODY, record_of_lem, table, too_short, wrong_mark_lem, wrong_version, reserved_set_lem}

-- What a load tells of a card: its record, or the refusal and a record of zeros
abbrev pub told : Result Machine Refusal → (ℕ × Bool) × Machine
told (Ok m) = ((0, true), m)
told (Err r) = ((refusal_no r, false), zeros)

-- The tests 2 to 5
abbrev pub header : List ℕ → ℕ
header card = first ((too_short card, 2) ∷ (wrong_mark_lem card, 3) ∷ (wrong_version card, 4) ∷ (reserved_set_lem card, 5) ∷ []) 0

-- The table from test 2 on, the lengths of the buffers being right
abbrev pub from_two : List ℕ → Machine → ℕ
from_two card m = first (drop 1 (table card m LONGEST LONGEST DOUBLE_WORDS)) 0

-- The same from test 6 on
abbrev pub from_six : List ℕ → Machine → ℕ
from_six card m = first (drop 5 (table card m LONGEST LONGEST DOUBLE_WORDS)) 0

-- The word of a region at an address, if the region holds it
abbrev pub found : Region → List ℕ → ℕ → Option ℕ
found r ws a = pick (holds r a) (Some (word_at r ws a)) None

-- What the tests 6 and 7 leave of a card's lengths
pub record Room (card : List ℕ) : Type 0 where
  pub size : length card ≡ BODY + 4 * ((record_of_lem card).code.words + (record_of_lem card).«data».words)
  pub code_words : (record_of_lem card).code.words ≤ LONGEST
  pub data_words : (record_of_lem card).«data».words ≤ LONGEST
