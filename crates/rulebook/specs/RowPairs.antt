-- A vesting or meter row as a flag and four pairs, the form in which code judges it; RowPairLaws joins it with `row_fits`. Assumes nothing.
use Rattle.std.specs.Prelude.{Bool, ◌&&◌, ◌||◌, ℕ, ◌+◌, ◌*◌, ℤ, pos}
use Rattle.std.specs.Int.Signed.{lt_z}
use Rattle.integer.specs.Below.{all}
use Rattle.rulebook.specs.declared.Kind.{Kind}
use Rattle.rulebook.specs.Units.{between, in_range}
use Rattle.rulebook.specs.WellFormed.{is_zero}

-- a base and three tenders, or four facilities
abbrev pub row_pairs : ℕ
row_pairs = 4

-- of the row's words f 0, f 1, ..: each pair is in range
unfoldable pub pairs_in_range : Kind → Kind → (ℕ → ℤ) → Bool
pairs_in_range k l f = all row_pairs (λ p. in_range k (f (1 + 2 * p)) && in_range l (f (2 + 2 * p)))

-- each that the flag does not count is zero
unfoldable pub rest_zero : (ℕ → ℤ) → Bool
rest_zero f = all row_pairs (λ p. lt_z (pos p) (f 0) || (is_zero (f (1 + 2 * p)) && is_zero (f (2 + 2 * p))))

-- the row fits, absent or there
unfoldable pub pairs_fit : Kind → Kind → (ℕ → ℤ) → Bool
pairs_fit k l f = between (pos 0) (pos row_pairs) (f 0) && pairs_in_range k l f && rest_zero f
