-- The range of a figure is that of its kind, and fits four bytes. Assumes nothing.
use Rattle.std.specs.Prelude.{◌≡◌, refl, Bool, true, false, ℕ, ◌<◌, T, leb, ℤ, pos, negsuc}
use Rattle.std.proofs.Common.{sym, subst, arith, leb-true}
use Rattle.std.specs.Int.Signed.{mag, le_z}
use Rattle.integer.proofs.laws.BelowLaws.{and-true}
use Rattle.rulebook.specs.declared.Kind.{Kind}
use Rattle.rulebook.specs.declared.Kind.TheVariants.{Quantity, Injection, Load, Price}
use Rattle.rulebook.specs.Units.{between, in_range}
use Rattle.rulebook.specs.File.{Figure, BVQ, BVP, TVQ, TVP, MEP, IEQ, UEGQ, MQ, RVP1, RVP2, NccLoad}
use Rattle.rulebook.specs.Proper.{least, most, FigureInRange}
use Rattle.rulebook.proofs.laws.TestLaws.{T-path}
use Rattle.rulebook.proofs.laws.IntervalLaws.{kind_of_figure}

-- the test of a kind is that of the figure's two ends
pub kind-range : (g : Figure) (v : ℤ) → in_range (kind_of_figure g) v ≡ between (least g) (most g) v
kind-range BVQ v = refl
kind-range BVP v = refl
kind-range (TVQ t) v = refl
kind-range (TVP t) v = refl
kind-range (MEP f) v = refl
kind-range (IEQ f) v = refl
kind-range UEGQ v = refl
kind-range MQ v = refl
kind-range RVP1 v = refl
kind-range RVP2 v = refl
kind-range NccLoad v = refl

passes : {b : Bool} → b ≡ true → T b
passes e = subst T (sym e) tt

pub in_range_lem : (g : Figure) (v : ℤ) → in_range (kind_of_figure g) v ≡ true → FigureInRange g v
in_range_lem g v e =
    let b = and-true (le_z (least g) v) (le_z v (most g)) (rw (kind-range g v) at e) in
    record { low = record { le = passes b.0 }; high = record { le = passes b.1 } }

pub range_in : (g : Figure) (v : ℤ) → FigureInRange g v → in_range (kind_of_figure g) v ≡ true
range_in g v f = rw (kind-range g v, T-path (le_z (least g) v) f.low.le, T-path (le_z v (most g)) f.high.le)

never {ℓ} : {P : Type ℓ} → false ≡ true → P
never e = absurd (let z : ◌≡◌ {A = ℕ} 0 1 = cc in omega arith)

-- what is in range fits 32 bits
pub in_word : (k : Kind) (v : ℤ) → in_range k v ≡ true → mag v < 2147483648
in_word Quantity (pos n) e = let b = leb-true n 10000000 (and-true (leb 0 n) (leb n 10000000) e).1 in omega arith
in_word Quantity (negsuc n) e = never e
in_word Price (pos n) e = let b = leb-true n 1000000 e in omega arith
in_word Price (negsuc n) e = let b = leb-true n 999999 (and-true (leb n 999999) true e).0 in omega arith
in_word Injection (pos n) e = let b = leb-true n 10000000 e in omega arith
in_word Injection (negsuc n) e = let b = leb-true n 9999999 (and-true (leb n 9999999) true e).0 in omega arith
in_word Load (pos n) e = let b = leb-true n 1000000000 (and-true (leb 0 n) (leb n 1000000000) e).1 in omega arith
in_word Load (negsuc n) e = never e
