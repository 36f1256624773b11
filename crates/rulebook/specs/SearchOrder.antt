-- Document 01, "Close": the flags of a close in search order, and the first of them that is zero. In any lent book, rows half present too.
-- Assumes nothing.
use Rattle.std.specs.Prelude.{◌≡◌, ◌≢◌, ◌↔◌, cond, List, [], ◌∷◌, ◌++◌, ℕ, ◌+◌, ◌≤◌, ℤ, pos, T, length}
use Rattle.integer.specs.Below.{fold, Each}
use Rattle.integer.specs.Words.{word}
use Rattle.rulebook.specs.declared.Section.TheVariants.{Vesting, Meter, Residual, Ncc}
use Rattle.rulebook.specs.declared.Terms.{Terms}
use Rattle.rulebook.specs.Units.{last_day, intervals}
use Rattle.rulebook.specs.DayAmount.{settles_residual, residual_day}
use Rattle.rulebook.specs.Layout.{flag_word}
use Rattle.rulebook.specs.BookData.{terms_of, next_day}
use Rattle.rulebook.specs.WellFormed.{well_formed}
use Rattle.rulebook.specs.Close.{closed}
use Rattle.rulebook.specs.Numbers.{accepted, datum_absent, numbered, of_close}

-- f 0, f 1, .. f (n - 1) one after another
abbrev pub in_turn : ℕ → (ℕ → List ℕ) → List ℕ
in_turn n f = fold ◌++◌ [] n f

module _ (o : Terms) (D : ℕ) where
  -- in interval i: accounts ascending, vesting then meter of D; then NCC of r, then residual of r by account
  unfoldable pub flags_at : ℕ → List ℕ
  flags_at i = in_turn o.accounts (λ a. flag_word o Vesting a D i ∷ flag_word o Meter a D i ∷ [])
      ++ cond (settles_residual o D) (flag_word o Ncc 0 (residual_day o D) i ∷ in_turn o.accounts (λ a. flag_word o Residual a (residual_day o D) i ∷ [])) []

  -- interval after interval
  unfoldable pub flag_order : List ℕ
  flag_order = in_turn intervals flags_at

-- v is the first of these indices whose word is zero
pub record FirstZero (w : List ℤ) (flags : List ℕ) (v : ℕ) : Type 0 where
  pub before : List ℕ
  pub after : List ℕ
  pub order : flags ≡ before ++ (v ∷ after)
  pub there : Each (λ n. word w n ≢ pos 0) before
  pub absent : word w v ≡ pos 0

-- what a close of w with this statement returns: 11 at v exactly if v is the first flag that is zero, 0 exactly if none is
pub record SearchTells (w statement : List ℤ) : Type 0 where
  pub missing : (v : ℕ) → (of_close (closed w statement).answer ≡ numbered datum_absent v) ↔ FirstZero w (flag_order (terms_of w) (next_day w)) v
  pub complete : ((of_close (closed w statement).answer).number ≡ accepted) ↔ Each (λ n. word w n ≢ pos 0) (flag_order (terms_of w) (next_day w))

-- on every well-formed book with a day left to close, and a statement with room
abbrev pub SearchHolds : Type 0
SearchHolds = (w statement : List ℤ) → T (well_formed w) → next_day w ≤ last_day → (terms_of w).accounts + 1 ≤ length statement → SearchTells w statement
