-- Document 02, request Seven: the second line, which says where the bad address came from.
use Rattle.std.specs.Prelude.{ℕ, List, [], ◌∷◌, Option, Some, None}
use Rattle.checker.specs.declared.At.{At}
use Rattle.checker.specs.declared.Source.{Source}
use Rattle.checker.specs.declared.Source.TheVariants as came
use Rattle.checker.specs.declared.Explanation.{Explanation}
use Rattle.checker.specs.declared.Explanation.TheVariants as by
use Rattle.judge.specs.Line.{decimal, hex, joined, END}

-- ---- What a line names, in ASCII

-- `step J at D word W`: J is decimal, D (the DPC) and W are eight capital hex digits
unfoldable pub step_text : At → List ℕ
step_text a =
    joined
    ((115 ∷ 116 ∷ 101 ∷ 112 ∷ 32 ∷ [])  -- `step `
    ∷ decimal a.step
    ∷ (32 ∷ 97 ∷ 116 ∷ 32 ∷ [])  -- ` at `
    ∷ hex a.dpc
    ∷ (32 ∷ 119 ∷ 111 ∷ 114 ∷ 100 ∷ 32 ∷ [])  -- ` word `
    ∷ hex a.word
    ∷ [])

-- `card`, `zero` or the step that wrote the register
unfoldable pub source_text : Source → List ℕ
source_text came.Card = 99 ∷ 97 ∷ 114 ∷ 100 ∷ []  -- `card`
source_text came.Zero = 122 ∷ 101 ∷ 114 ∷ 111 ∷ []  -- `zero`
source_text (came.Step a) = step_text a

-- `rN from ..`: N is decimal
unfoldable pub from_text : ℕ → Source → List ℕ
from_text n s =
    joined
    ((114 ∷ [])  -- `r`
    ∷ decimal n
    ∷ (32 ∷ 102 ∷ 114 ∷ 111 ∷ 109 ∷ 32 ∷ [])  -- ` from `
    ∷ source_text s
    ∷ [])

-- ---- The texts of the line

abbrev pub BECAUSE : List ℕ
BECAUSE = 98 ∷ 101 ∷ 99 ∷ 97 ∷ 117 ∷ 115 ∷ 101 ∷ 32 ∷ []  -- `because `

-- `because rN from ..`
unfoldable pub register_text : ℕ → Source → List ℕ
register_text n s = joined (BECAUSE ∷ from_text n s ∷ END ∷ [])

-- `because dpc from card`
unfoldable pub card_text : List ℕ
card_text =
    joined
    (BECAUSE
    ∷ (100 ∷ 112 ∷ 99 ∷ 32 ∷ 102 ∷ 114 ∷ 111 ∷ 109 ∷ 32 ∷ 99 ∷ 97 ∷ 114 ∷ 100 ∷ [])  -- `dpc from card`
    ∷ END
    ∷ [])

-- `because dpc ran on`
unfoldable pub ran_on_text : List ℕ
ran_on_text =
    joined
    (BECAUSE
    ∷ (100 ∷ 112 ∷ 99 ∷ 32 ∷ 114 ∷ 97 ∷ 110 ∷ 32 ∷ 111 ∷ 110 ∷ [])  -- `dpc ran on`
    ∷ END
    ∷ [])

-- `because dpc from step J at D word W`, where the line of a jr goes on
unfoldable pub led_text : At → List ℕ
led_text a =
    joined
    (BECAUSE
    ∷ (100 ∷ 112 ∷ 99 ∷ 32 ∷ 102 ∷ 114 ∷ 111 ∷ 109 ∷ 32 ∷ [])  -- `dpc from `
    ∷ step_text a
    ∷ [])

unfoldable pub transfer_text : At → List ℕ
transfer_text a = joined (led_text a ∷ END ∷ [])

-- `because dpc from step J at D word W, rN from ..`
unfoldable pub jr_text : At → ℕ → Source → List ℕ
jr_text a n s =
    joined
    (led_text a
    ∷ (44 ∷ 32 ∷ [])  -- `, `
    ∷ from_text n s
    ∷ END
    ∷ [])

-- No line where there is no explanation
abbrev pub because_text : Option Explanation → List ℕ
because_text None = []
because_text (Some (by.Register n s)) = register_text n s
because_text (Some by.Card) = card_text
because_text (Some by.RanOn) = ran_on_text
because_text (Some (by.Transfer a)) = transfer_text a
because_text (Some (by.Jr a n s)) = jr_text a n s
