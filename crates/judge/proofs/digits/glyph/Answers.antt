use Prim.Native.Nat.{ℕ, zero, suc, ◌<◌}
use mathlib.Core.Path.{◌≡◌, refl}
use mathlib.Core.List.{List, [], ◌∷◌}
use native.Mathlib.Omega.{arith}
use Rattle.std.proofs.Common.{slice_index_or}
use Rattle.judge.specs.Digits.{glyph}
use Rattle.judge.proofs.digits.glyph.Goals as goal

abbrev GLYPHS : List ℕ
GLYPHS = 48 ∷ 49 ∷ 50 ∷ 51 ∷ 52 ∷ 53 ∷ 54 ∷ 55 ∷ 56 ∷ 57 ∷ 65 ∷ 66 ∷ 67 ∷ 68 ∷ 69 ∷ 70 ∷ []

tabled : (d : ℕ) → d < 16 → slice_index_or {A = ℕ} GLYPHS d 0 ≡ glyph d
unfolding glyph
tabled zero l = refl
tabled (suc zero) l = refl
tabled (suc (suc zero)) l = refl
tabled (suc (suc (suc zero))) l = refl
tabled (suc (suc (suc (suc zero)))) l = refl
tabled (suc (suc (suc (suc (suc zero))))) l = refl
tabled (suc (suc (suc (suc (suc (suc zero)))))) l = refl
tabled (suc (suc (suc (suc (suc (suc (suc zero))))))) l = refl
tabled (suc (suc (suc (suc (suc (suc (suc (suc zero)))))))) l = refl
tabled (suc (suc (suc (suc (suc (suc (suc (suc (suc zero))))))))) l = refl
tabled (suc (suc (suc (suc (suc (suc (suc (suc (suc (suc zero)))))))))) l = refl
tabled (suc (suc (suc (suc (suc (suc (suc (suc (suc (suc (suc zero))))))))))) l = refl
tabled (suc (suc (suc (suc (suc (suc (suc (suc (suc (suc (suc (suc zero)))))))))))) l = refl
tabled (suc (suc (suc (suc (suc (suc (suc (suc (suc (suc (suc (suc (suc zero))))))))))))) l = refl
tabled (suc (suc (suc (suc (suc (suc (suc (suc (suc (suc (suc (suc (suc (suc zero)))))))))))))) l = refl
tabled (suc (suc (suc (suc (suc (suc (suc (suc (suc (suc (suc (suc (suc (suc (suc zero))))))))))))))) l = refl
tabled (suc (suc (suc (suc (suc (suc (suc (suc (suc (suc (suc (suc (suc (suc (suc (suc d)))))))))))))))) l = absurd (omega arith)

pub returns : goal.returns
returns c = tabled c.args.d c.requires
