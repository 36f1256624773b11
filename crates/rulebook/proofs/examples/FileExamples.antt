-- Document 01, "A submission file": rows read off bytes, and their figures by name at each interval, computed. Assumes nothing.
use Rattle.std.specs.Prelude.{◌≡◌, refl, List, [], ◌∷◌, ◌++◌, ℕ, ◌*◌, ℤ, pos, replicate}
use Rattle.integer.specs.Integer.{twos_complement, minus}
use Rattle.integer.specs.Below.{turns, tabulate}
use Rattle.rulebook.specs.declared.Section.{Section}
use Rattle.rulebook.specs.declared.Section.TheVariants.{Vesting, Meter, Residual, Ncc}
use Rattle.rulebook.specs.File.{num, value_at, row_end, row_pos, section_end, section_rows, file_rows, Row, number_of, Figure, BVQ, BVP, TVQ, TVP, MEP, IEQ, UEGQ, MQ, RVP1, RVP2, NccLoad, figure_of}
use Rattle.rulebook.proofs.examples.Examples.{zeros}

-- ---- Bytes

pub record BytesRead : Type 0 where
  pub minus_one : value_at (255 ∷ 255 ∷ 255 ∷ 255 ∷ []) 0 ≡ minus 1
  -- the ends of two's complement
  pub most : value_at (255 ∷ 255 ∷ 255 ∷ 127 ∷ []) 0 ≡ pos 2147483647
  pub least : value_at (0 ∷ 0 ∷ 0 ∷ 128 ∷ []) 0 ≡ minus 2147483648
  -- an NCC row of 48 loads: 258, then zeros, then 3
  pub row : file_rows (zeros 6 ++ (1 ∷ 0 ∷ 0x19 ∷ 0x25 ∷ 2 ∷ 1 ∷ zeros 186 ++ (3 ∷ 0 ∷ 0 ∷ 0 ∷ [])))
      ≡ record { section = Ncc; account = 0; day = 9497; count = 0; numbers = pos 258 ∷ replicate 46 (pos 0) ++ (pos 3 ∷ []) } ∷ []
  -- eight zero bytes have no rows
  pub no_rows : file_rows (zeros 8) ≡ []

pub bytes_read : BytesRead
unfolding file_rows section_rows tabulate num row_end row_pos section_end turns value_at twos_complement
bytes_read = record { minus_one = refl; most = refl; least = refl; row = refl; no_rows = refl }

-- ---- Figures, at the first interval, at the last, and of names that the row does not have

-- zeros, but for the numbers of the first and the last interval; n numbers an interval
abbrev row : Section → ℕ → ℕ → List ℤ → List ℤ → Row
row s count n start end = record { section = s; account = 1; day = 9497; count = count; numbers = start ++ (replicate (46 * n) (pos 0) ++ end) }

abbrev pub vesting : Row
vesting = row Vesting 2 6 (pos 1 ∷ pos 2 ∷ pos 3 ∷ pos 4 ∷ pos 5 ∷ pos 6 ∷ []) (pos 11 ∷ minus 12 ∷ pos 13 ∷ minus 14 ∷ pos 15 ∷ minus 16 ∷ [])

abbrev pub meter : Row
meter = row Meter 1 2 (pos 1 ∷ pos 2 ∷ []) (minus 21 ∷ minus 22 ∷ [])

abbrev pub residual : Row
residual = row Residual 0 4 (pos 1 ∷ pos 2 ∷ pos 3 ∷ pos 4 ∷ []) (pos 31 ∷ pos 32 ∷ minus 33 ∷ minus 34 ∷ [])

abbrev pub ncc : Row
ncc = row Ncc 0 1 (pos 1 ∷ []) (pos 41 ∷ [])

abbrev figures : Row → ℕ → List Figure → List ℤ
figures r i [] = []
figures r i (g ∷ gs) = figure_of r i g ∷ figures r i gs

abbrev every : List Figure
every = BVQ ∷ BVP ∷ TVQ 0 ∷ TVP 0 ∷ TVQ 1 ∷ TVP 1 ∷ TVQ 2 ∷ TVP 2 ∷ MEP 0 ∷ IEQ 0 ∷ MEP 1 ∷ IEQ 1 ∷ UEGQ ∷ MQ ∷ RVP1 ∷ RVP2 ∷ NccLoad ∷ []

pub record FiguresRead : Type 0 where
  pub vesting_first : figures vesting 0 every ≡ pos 1 ∷ pos 2 ∷ pos 3 ∷ pos 4 ∷ pos 5 ∷ pos 6 ∷ replicate 11 (pos 0)
  pub vesting_between : figures vesting 1 every ≡ replicate 17 (pos 0)
  pub vesting_last : figures vesting 47 every ≡ pos 11 ∷ minus 12 ∷ pos 13 ∷ minus 14 ∷ pos 15 ∷ minus 16 ∷ replicate 11 (pos 0)
  pub meter_last : figures meter 47 every ≡ replicate 8 (pos 0) ++ (minus 21 ∷ minus 22 ∷ replicate 7 (pos 0))
  pub residual_last : figures residual 47 every ≡ replicate 12 (pos 0) ++ (pos 31 ∷ pos 32 ∷ minus 33 ∷ minus 34 ∷ pos 0 ∷ [])
  pub ncc_last : figures ncc 47 every ≡ replicate 16 (pos 0) ++ (pos 41 ∷ [])

pub figures-read : FiguresRead
unfolding figure_of number_of
figures-read = record { vesting_first = refl; vesting_between = refl; vesting_last = refl; meter_last = refl; residual_last = refl; ncc_last = refl }
