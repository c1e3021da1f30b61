-- Document 01, "The verdict line": the text of each ruling, and the line that holds it.
use Rattle.std.specs.Prelude.{ℕ, ◌-◌, List, [], ◌∷◌, ◌++◌, eqb, length, replicate}
use Rattle.words.specs.Fields.{pick}
use Rattle.checker.specs.declared.At.{At}
use Rattle.judge.specs.declared.Ruling.{Ruling}
use Rattle.judge.specs.declared.Ruling.TheVariants.{Refused, Accepted, Violation}
use Rattle.judge.specs.declared.lines.Line.{Line}
use Rattle.judge.specs.Digits.{digits, places}

-- N, V, K are decimal
unfoldable pub decimal : ℕ → List ℕ
decimal n = digits 10 (places n) n

-- D (the DPC) and W are eight capital hex digits
unfoldable pub hex : ℕ → List ℕ
hex n = digits 16 8 n

-- W is `-` for 21 and 22
unfoldable pub word_text : ℕ → ℕ → List ℕ
word_text v w = pick (eqb v 21) (45 ∷ []) (pick (eqb v 22) (45 ∷ []) (hex w))

-- ---- The texts, in ASCII

-- Texts one after the other
abbrev pub joined : List (List ℕ) → List ℕ
joined [] = []
joined (t ∷ ts) = t ++ joined ts

-- The line's end
abbrev pub END : List ℕ
END = 10 ∷ []

-- `refused N`
unfoldable pub refused_text : ℕ → List ℕ
refused_text n =
    joined
    ((114 ∷ 101 ∷ 102 ∷ 117 ∷ 115 ∷ 101 ∷ 100 ∷ 32 ∷ [])  -- `refused `
    ∷ decimal n
    ∷ END
    ∷ [])

-- `accepted N next D`
unfoldable pub accepted_text : ℕ → ℕ → List ℕ
accepted_text n d =
    joined
    ((97 ∷ 99 ∷ 99 ∷ 101 ∷ 112 ∷ 116 ∷ 101 ∷ 100 ∷ 32 ∷ [])  -- `accepted `
    ∷ decimal n
    ∷ (32 ∷ 110 ∷ 101 ∷ 120 ∷ 116 ∷ 32 ∷ [])  -- ` next `
    ∷ hex d
    ∷ END
    ∷ [])

-- `violation V step K at D word W`: K, D and W are of the step that breaks the test
unfoldable pub violation_text : ℕ → At → List ℕ
violation_text v a =
    joined
    ((118 ∷ 105 ∷ 111 ∷ 108 ∷ 97 ∷ 116 ∷ 105 ∷ 111 ∷ 110 ∷ 32 ∷ [])  -- `violation `
    ∷ decimal v
    ∷ (32 ∷ 115 ∷ 116 ∷ 101 ∷ 112 ∷ 32 ∷ [])  -- ` step `
    ∷ decimal a.step
    ∷ (32 ∷ 97 ∷ 116 ∷ 32 ∷ [])  -- ` at `
    ∷ hex a.dpc
    ∷ (32 ∷ 119 ∷ 111 ∷ 114 ∷ 100 ∷ 32 ∷ [])  -- ` word `
    ∷ word_text v a.word
    ∷ END
    ∷ [])

abbrev pub text_of : Ruling → List ℕ
text_of (Refused n) = refused_text n
text_of (Accepted n d) = accepted_text n d
text_of (Violation v a) = violation_text v a

-- ---- The line

-- The bytes that a line has room for
abbrev pub SIZE : ℕ
SIZE = 128

-- The line of a text: its bytes and their number, and zeros past them
unfoldable pub line_of : List ℕ → Line
line_of t = record { bytes = t ++ replicate (SIZE - length t) 0; len = length t }
