-- Document 01, "What an instruction does": the byte at the lowest address is the least significant. Double word i of VAMP memory holds bytes 8i to 8i+7.
use Rattle.std.specs.Prelude.{ℕ, ◌+◌, ◌*◌, ◌/◌, ◌%◌, ◌^◌, List, get_or, set}
use Rattle.words.specs.Fields.{signed}
use Rattle.words.specs.declared.LoadKind.{LoadKind}
use Rattle.words.specs.declared.LoadKind.TheVariants.{Lb, Lh, Lw, Lbu, Lhu}
use Rattle.words.specs.declared.StoreKind.{StoreKind}
use Rattle.words.specs.declared.StoreKind.TheVariants.{Sb, Sh, Sw}
use Rattle.arithmetic.specs.Rulings.{sext}

-- ---- Any number of bits

-- The b bits of a double word x from its byte k on
unfoldable pub part : ℕ → ℕ → ℕ → ℕ
part b k x = x / 2 ^ (8 * k) % 2 ^ b

-- x with these b bits replaced by the low b bits of v: what stands above them, then v, then what stands below
unfoldable pub patch : ℕ → ℕ → ℕ → ℕ → ℕ
patch b k x v = (x / 2 ^ (8 * k + b) * 2 ^ b + v % 2 ^ b) * 2 ^ (8 * k) + x % 2 ^ (8 * k)

-- The b bits at the address a
abbrev pub at : ℕ → List ℕ → ℕ → ℕ
at b mem a = part b (a % 8) (get_or mem (a / 8) 0)

-- Memory with the b bits at the address a replaced
abbrev pub put : ℕ → List ℕ → ℕ → ℕ → List ℕ
put b mem a v = set mem (a / 8) (patch b (a % 8) (get_or mem (a / 8) 0) v)

-- ---- The loads and the stores

-- lb and lh extend the sign, lbu and lhu by zeros
unfoldable pub loaded : LoadKind → List ℕ → ℕ → ℕ
loaded Lb mem a = sext (signed (2 ^ 7) (at 8 mem a))
loaded Lh mem a = sext (signed (2 ^ 15) (at 16 mem a))
loaded Lw mem a = at 32 mem a
loaded Lbu mem a = at 8 mem a
loaded Lhu mem a = at 16 mem a

unfoldable pub stored : StoreKind → List ℕ → ℕ → ℕ → List ℕ
stored Sb mem a v = put 8 mem a v
stored Sh mem a v = put 16 mem a v
stored Sw mem a v = put 32 mem a v
