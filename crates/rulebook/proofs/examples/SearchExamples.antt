-- Document 01, "Close": the flags of a close in search order, by index: N = 2, L = 1, F = 9,497. Computed. Assumes nothing.
use Rattle.std.specs.Prelude.{◌≡◌, refl, [], ◌∷◌, take}
use Rattle.integer.specs.Below.{fold}
use Rattle.rulebook.specs.DayAmount.{settles_residual}
use Rattle.rulebook.specs.Layout.{base, ring, interval_size, slot, interval_word, row_word}
use Rattle.rulebook.specs.SearchOrder.{flags_at, flag_order}
use Rattle.rulebook.proofs.examples.Examples.{two}

pub record SearchedFlags : Type 0 where
  -- the first day has no r: vesting and meter of both accounts, then interval 1
  pub first_day : take 6 (flag_order two 9497) ≡ 84 ∷ 93 ∷ 108 ∷ 117 ∷ 136 ∷ 145 ∷ []
  -- the second: its own four, NCC of r, residual of r of both accounts; then interval 1
  pub second_day : take 14 (flag_order two 9498) ≡ 2580 ∷ 2589 ∷ 2604 ∷ 2613 ∷ 81 ∷ 102 ∷ 126 ∷ 2632 ∷ 2641 ∷ 2656 ∷ 2665 ∷ 133 ∷ 154 ∷ 178 ∷ []

pub searched-flags : SearchedFlags
unfolding flag_order flags_at settles_residual fold base ring interval_size slot interval_word row_word
searched-flags = record { first_day = refl; second_day = refl }
