-- A residual or NCC row fits exactly if its flag is 0 or 1 and its figures are in range or zero. Assumes nothing.
use Rattle.std.specs.Prelude.{◌≡◌, refl, cond, ◌&&◌, ℕ, zero, suc, ℤ, pos, negsuc}
use Rattle.std.proofs.Common.{◌∙◌, arith}
use Rattle.std.proofs.Math.Bool.{and_assoc, and-true, and-false}
use Rattle.std.proofs.lemmas.Bool.{lt-leb}
use Rattle.std.specs.Int.Signed.{lt_z}
use Rattle.integer.specs.Below.{fold}
use Rattle.rulebook.specs.declared.Kind.TheVariants.{Quantity, Load, Price}
use Rattle.rulebook.specs.declared.Section.TheVariants.{Residual, Ncc}
use Rattle.rulebook.specs.Units.{between, in_range}
use Rattle.rulebook.specs.WellFormed.{is_zero, row_fits}
use Rattle.rulebook.proofs.laws.RowFlagLaws.{row_flagged, row-by_flag}

residual-by : (f : ℕ → ℤ) (z : ℤ) → f 0 ≡ z → row_fits Residual f
    ≡ (between (pos 0) (pos 1) (f 0) && cond (lt_z (pos 0) (f 0)) ((in_range Quantity (f 1) && in_range Quantity (f 2)) && (in_range Price (f 3) && in_range Price (f 4)))
    ((is_zero (f 1) && is_zero (f 2)) && (is_zero (f 3) && is_zero (f 4))))
unfolding row_flagged fold
residual-by f (negsuc n) e = row-by_flag Residual f ∙ rw e refl
residual-by f (pos zero) e = row-by_flag Residual f ∙ rw e (and_assoc (is_zero (f 1) && is_zero (f 2)) (is_zero (f 3)) (is_zero (f 4)))
residual-by f (pos (suc zero)) e = row-by_flag Residual f ∙ rw e (and_assoc (in_range Quantity (f 1) && in_range Quantity (f 2)) (in_range Price (f 3)) (in_range Price (f 4)))
residual-by f (pos (suc (suc n))) e = row-by_flag Residual f ∙ rw e (simp (lt-leb (suc (suc n)) 1 (omega arith), and-false))

ncc-by : (f : ℕ → ℤ) (z : ℤ) → f 1 ≡ z → row_fits Ncc f ≡ (between (pos 0) (pos 1) (f 1) && cond (lt_z (pos 0) (f 1)) (in_range Load (f 0)) (is_zero (f 0)))
unfolding row_flagged fold
ncc-by f (negsuc n) e = row-by_flag Ncc f ∙ rw e refl
ncc-by f (pos zero) e = row-by_flag Ncc f ∙ rw e (simp and-true)
ncc-by f (pos (suc zero)) e = row-by_flag Ncc f ∙ rw e (simp and-true)
ncc-by f (pos (suc (suc n))) e = row-by_flag Ncc f ∙ rw e (simp (lt-leb (suc (suc n)) 1 (omega arith), and-false))

-- of a row's words f 0, f 1, ..
module _ (f : ℕ → ℤ) where
  -- the flag is 0 or 1: UEGQ, MQ, RVP1, RVP2
  pub residual-is : row_fits Residual f
      ≡ (between (pos 0) (pos 1) (f 0) && cond (lt_z (pos 0) (f 0)) ((in_range Quantity (f 1) && in_range Quantity (f 2)) && (in_range Price (f 3) && in_range Price (f 4)))
      ((is_zero (f 1) && is_zero (f 2)) && (is_zero (f 3) && is_zero (f 4))))
  residual-is = residual-by f (f 0) refl

  -- the NCC load, then its flag, 0 or 1
  pub ncc-is : row_fits Ncc f ≡ (between (pos 0) (pos 1) (f 1) && cond (lt_z (pos 0) (f 1)) (in_range Load (f 0)) (is_zero (f 0)))
  ncc-is = ncc-by f (f 1) refl
