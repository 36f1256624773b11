-- The two calls that document 01 leaves to the library, in its figures. Assumes nothing.
use Rattle.std.specs.Prelude.{◌≡◌, true, false, Bool, List, ℕ, ◌+◌, ◌*◌, T, ℤ, cond, Option, Some, None}
use Rattle.std.proofs.Common.{refl, subst, sym, ⊎_elim, arith}
use Rattle.integer.proofs.laws.BelowLaws.{either}
use Rattle.rulebook.specs.declared.Terms.{Terms}
use Rattle.rulebook.specs.Terms.{terms_fit, InTerms}
use Rattle.rulebook.specs.Layout.{base, interval_size, ring, size}
use Rattle.rulebook.specs.WellFormed.{well_formed}
use Rattle.rulebook.proofs.laws.HeaderLaws.{opened-terms, terms-fit}
use Rattle.robijan.specs.Returned.{judge_number, size_returned}

-- 0 of a well-formed book, 3 of any other words
pub judge-formed : (w : List ℤ) → well_formed w ≡ true → judge_number w ≡ 0
unfolding judge_number
judge-formed w e = rw e

pub judge-ill : (w : List ℤ) → well_formed w ≡ false → judge_number w ≡ 3
unfolding judge_number
judge-ill w e = rw e

-- the size of terms that an opening takes
pub size-taken : (o : Terms) → InTerms o → size_returned o ≡ record { number = 0; words = 64 + 8 * o.accounts + 48 * (o.lag + o.horizon) * (4 + 24 * o.accounts) }
unfolding size_returned size base ring interval_size
size-taken o i = ⊎_elim (λ e. rw e) (λ e. absurd (subst T e (terms-fit o i))) (either (terms_fit o))

-- 1 and no word of any others
pub size-refused : (o : Terms) → ¬ InTerms o → size_returned o ≡ record { number = 1; words = 0 }
unfolding size_returned
size-refused o n = ⊎_elim (λ e. absurd (n (opened-terms o (subst T (sym e) tt)))) (λ e. rw e) (either (terms_fit o))

-- what the test of terms tells
pub accepted-some : (o p : Terms) → cond (terms_fit o) (Some o) None ≡ Some p → (terms_fit o ≡ true) × (p ≡ o)
accepted-some o p e = by (terms_fit o) refl e
  where
    by : (b : Bool) → terms_fit o ≡ b → ◌≡◌ {A = Option Terms} (cond b (Some o) None) (Some p) → (terms_fit o ≡ true) × (p ≡ o)
    by true f h = (f, cc)
    by false f h = absurd (let z : ◌≡◌ {A = ℕ} 0 1 = cc in omega arith)

pub accepted-none : (o : Terms) → cond (terms_fit o) (Some o) None ≡ None → terms_fit o ≡ false
accepted-none o e = by (terms_fit o) refl e
  where
    by : (b : Bool) → terms_fit o ≡ b → ◌≡◌ {A = Option Terms} (cond b (Some o) None) None → terms_fit o ≡ false
    by true f h = absurd (let z : ◌≡◌ {A = ℕ} 0 1 = cc in omega arith)
    by false f h = f
