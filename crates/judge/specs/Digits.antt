-- Numbers as text: document 01, "The verdict line".
use Rattle.std.specs.Prelude.{ℕ, zero, suc, ◌+◌, ◌-◌, ◌/◌, ◌%◌, ◌^◌, List, [], ◌∷◌, ltb}
use Rattle.words.specs.Fields.{pick}
use Rattle.machine.specs.Record.{first}

-- A digit below 16 in ASCII: `0` is 48, and the capital `A` is 65
unfoldable pub glyph : ℕ → ℕ
glyph d = pick (ltb d 10) (48 + d) (65 + (d - 10))

-- The last k digits of n in base b, the most significant first: before k digits stands digit k, counted from the last
unfoldable pub digits : ℕ → ℕ → ℕ → List ℕ
digits b zero n = []
digits b (suc k) n = glyph (n / b ^ k % b) ∷ digits b k n

-- How many digits a number of 32 bits has in decimal, without leading zeros
unfoldable pub places : ℕ → ℕ
places n =
    first
    ((ltb n 10, 1)
    ∷ (ltb n 100, 2)
    ∷ (ltb n 1000, 3)
    ∷ (ltb n 10000, 4)
    ∷ (ltb n 100000, 5)
    ∷ (ltb n 1000000, 6)
    ∷ (ltb n 10000000, 7)
    ∷ (ltb n 100000000, 8)
    ∷ (ltb n 1000000000, 9)
    ∷ []) 10
