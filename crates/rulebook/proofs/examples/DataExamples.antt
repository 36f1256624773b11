-- Data by name, from the words of a book and from rows in force, at the first, the second and the last interval. Computed. Assumes nothing.
use Rattle.std.specs.Prelude.{◌≡◌, refl, cond, List, [], ◌∷◌, ℕ, eqb, ℤ, pos, replicate, Some, None}
use Rattle.integer.specs.Integer.{minus}
use Rattle.integer.specs.Below.{tabulate}
use Rattle.rulebook.specs.declared.Section.TheVariants.{Vesting, Meter, Residual, Ncc}
use Rattle.rulebook.specs.DayAmount.{AccountData}
use Rattle.rulebook.specs.Layout.{base, ring, interval_size, slot, interval_word, row_word}
use Rattle.rulebook.specs.BookData.{terms_of, next_day, book_data}
use Rattle.rulebook.specs.File.{number_of, figure_of}
use Rattle.rulebook.specs.History.{RowsInForce, data_in_force}
use Rattle.rulebook.proofs.examples.Examples.{two}
use Rattle.rulebook.proofs.examples.FileExamples.{vesting, meter, residual, ncc}

-- quantities as they are, prices as they are: BVQ; BVP; TVQ; TVP; facilities; MEP; IEQ; UEGQ, MQ; RVP1, RVP2
abbrev quantities : AccountData → List ℕ
quantities x = x.bvq ∷ x.tvq 0 ∷ x.tvq 1 ∷ x.tvq 2 ∷ x.facilities ∷ x.uegq ∷ x.mq ∷ []

abbrev prices : AccountData → List ℤ
prices x = x.bvp ∷ x.tvp 0 ∷ x.tvp 1 ∷ x.tvp 2 ∷ x.mep 0 ∷ x.mep 1 ∷ x.mep 2 ∷ x.mep 3 ∷ x.rvp1 ∷ x.rvp2 ∷ []

abbrev injections : AccountData → List ℤ
injections x = x.ieq 0 ∷ x.ieq 1 ∷ x.ieq 2 ∷ x.ieq 3 ∷ []

-- ---- A book of which word n is n

abbrev counted : List ℤ
counted = tabulate 200 (λ n. pos n)

pub record BookRead : Type 0 where
  pub quantities_at : quantities ((book_data two counted).account 1 9497 0) ≡ 109 ∷ 111 ∷ 113 ∷ 115 ∷ 117 ∷ 127 ∷ 128 ∷ []
  pub prices_at : prices ((book_data two counted).account 1 9497 0) ≡ pos 110 ∷ pos 112 ∷ pos 114 ∷ pos 116 ∷ pos 118 ∷ pos 120 ∷ pos 122 ∷ pos 124 ∷ pos 129 ∷ pos 130 ∷ []
  pub injections_at : injections ((book_data two counted).account 1 9497 0) ≡ pos 119 ∷ pos 121 ∷ pos 123 ∷ pos 125 ∷ []
  -- the next interval, 52 words later
  pub next_interval : quantities ((book_data two counted).account 1 9497 1) ≡ 161 ∷ 163 ∷ 165 ∷ 167 ∷ 169 ∷ 179 ∷ 180 ∷ []
  pub loads : ((book_data two counted).load 9497 0 ≡ 80) × ((book_data two counted).load 9497 1 ≡ 132)
  pub terms : terms_of counted ≡ record { accounts = 1; lag = 2; horizon = 3; first = 4; change = 7 }
  pub next : next_day counted ≡ 5

pub book-read : BookRead
unfolding tabulate base ring interval_size slot interval_word row_word
book-read = record { quantities_at = refl; prices_at = refl; injections_at = refl; next_interval = refl; loads = (refl, refl); terms = refl; next = refl }

-- ---- Rows in force on 9,497 of account 1, and the NCC row of that day

abbrev force : RowsInForce
force Vesting a d = cond (eqb a 1) (Some vesting) None
force Meter a d = cond (eqb a 1) (Some meter) None
force Residual a d = cond (eqb a 1) (Some residual) None
force Ncc a d = cond (eqb a 0) (Some ncc) None

pub record RowsRead : Type 0 where
  pub quantities_first : quantities ((data_in_force force).account 1 9497 0) ≡ 1 ∷ 3 ∷ 5 ∷ 0 ∷ 1 ∷ 1 ∷ 2 ∷ []
  pub quantities_last : quantities ((data_in_force force).account 1 9497 47) ≡ 11 ∷ 13 ∷ 15 ∷ 0 ∷ 1 ∷ 31 ∷ 32 ∷ []
  pub prices_last : prices ((data_in_force force).account 1 9497 47) ≡ minus 12 ∷ minus 14 ∷ minus 16 ∷ pos 0 ∷ minus 21 ∷ pos 0 ∷ pos 0 ∷ pos 0 ∷ minus 33 ∷ minus 34 ∷ []
  pub injections_last : injections ((data_in_force force).account 1 9497 47) ≡ minus 22 ∷ pos 0 ∷ pos 0 ∷ pos 0 ∷ []
  pub loads : ((data_in_force force).load 9497 0 ≡ 1) × ((data_in_force force).load 9497 1 ≡ 0) × ((data_in_force force).load 9497 47 ≡ 41)
  -- another account has no rows
  pub absent : quantities ((data_in_force force).account 0 9497 47) ≡ replicate 7 0

pub rows-read : RowsRead
unfolding figure_of number_of
rows-read = record { quantities_first = refl; quantities_last = refl; prices_last = refl; injections_last = refl; loads = (refl, refl, refl); absent = refl }
