-- Rows written out by hand, byte by byte: what the encoder gives. Assumes nothing.
use Rattle.std.specs.Prelude.{◌≡◌, refl, ℕ, zero, suc, ◌+◌, ℤ, pos, length, take, drop, replicate}
use mathlib.Core.List.{[], ◌∷◌, flat_map}
use Rattle.integer.specs.Integer.{minus}
use Rattle.integer.specs.Below.{tabulate}
use Rattle.rulebook.specs.declared.Section.TheVariants.{Vesting, Meter, Residual, Ncc}
use Rattle.rulebook.specs.File.{Figure, BVQ, BVP, TVQ, TVP, MEP, IEQ, UEGQ, MQ, RVP1, RVP2, NccLoad}
use Rattle.rulebook.specs.NamedRows.{NamedRow}
use Rattle.rulebook.specs.Encoding.{pairs, figures, bytes, twos, value_bytes, heading, interval_bytes, row_bytes, rows_of, section_bytes, encoded}

-- BVQ 400, BVP −1, tranche t of 7 + t at −2 − t; facilities with MEP 10,000 and IEQ −5 − f; UEGQ 100, MQ 500, RVP1 1, RVP2 −1,000,000;
-- load 1,000,000,000 in interval 0 and i in interval i
pub sample : ℕ → Figure → ℤ
sample i BVQ = pos 400
sample i BVP = minus 1
sample i (TVQ t) = pos (7 + t)
sample i (TVP t) = minus (2 + t)
sample i (MEP f) = pos 10000
sample i (IEQ f) = minus (5 + f)
sample i UEGQ = pos 100
sample i MQ = pos 500
sample i RVP1 = pos 1
sample i RVP2 = minus 1000000
sample zero NccLoad = pos 1000000000
sample (suc i) NccLoad = pos (suc i)

abbrev pub vesting : NamedRow
vesting = record { section = Vesting; account = 1; day = 9497; count = 2; figure = sample }

abbrev pub meter : NamedRow
meter = record { section = Meter; account = 31; day = 36524; count = 2; figure = sample }

abbrev pub residual : NamedRow
residual = record { section = Residual; account = 0; day = 9497; count = 0; figure = sample }

abbrev pub ncc : NamedRow
ncc = record { section = Ncc; account = 0; day = 9498; count = 0; figure = sample }

-- heading and first interval of each row; the last loads; rows of 1,156, 772, 771 and 194 bytes with 8 bytes of counts, in any order
pub record Written : Type 0 where
  pub vesting_row : take 28 (row_bytes vesting)
      ≡ 1 ∷ 0x19 ∷ 0x25 ∷ 2 ∷ 0x90 ∷ 1 ∷ 0 ∷ 0 ∷ 0xFF ∷ 0xFF ∷ 0xFF ∷ 0xFF ∷ 7 ∷ 0 ∷ 0 ∷ 0 ∷ 0xFE ∷ 0xFF ∷ 0xFF ∷ 0xFF ∷ 8 ∷ 0 ∷ 0 ∷ 0 ∷ 0xFD ∷ 0xFF ∷ 0xFF ∷ 0xFF ∷ []
  pub meter_row : take 20 (row_bytes meter)
      ≡ 31 ∷ 0xAC ∷ 0x8E ∷ 2 ∷ 0x10 ∷ 0x27 ∷ 0 ∷ 0 ∷ 0xFB ∷ 0xFF ∷ 0xFF ∷ 0xFF ∷ 0x10 ∷ 0x27 ∷ 0 ∷ 0 ∷ 0xFA ∷ 0xFF ∷ 0xFF ∷ 0xFF ∷ []
  pub residual_row : take 19 (row_bytes residual) ≡ 0 ∷ 0x19 ∷ 0x25 ∷ 100 ∷ 0 ∷ 0 ∷ 0 ∷ 0xF4 ∷ 1 ∷ 0 ∷ 0 ∷ 1 ∷ 0 ∷ 0 ∷ 0 ∷ 0xC0 ∷ 0xBD ∷ 0xF0 ∷ 0xFF ∷ []
  pub ncc_row : take 10 (row_bytes ncc) ≡ 0x1A ∷ 0x25 ∷ 0 ∷ 0xCA ∷ 0x9A ∷ 0x3B ∷ 1 ∷ 0 ∷ 0 ∷ 0 ∷ []
  pub ncc_end : drop 186 (row_bytes ncc) ≡ 46 ∷ 0 ∷ 0 ∷ 0 ∷ 47 ∷ 0 ∷ 0 ∷ 0 ∷ []
  pub file_length : length (encoded (ncc ∷ residual ∷ vesting ∷ meter ∷ [])) ≡ 2901
  pub one_row : encoded (ncc ∷ []) ≡ 0 ∷ 0 ∷ 0 ∷ 0 ∷ 0 ∷ 0 ∷ 1 ∷ 0 ∷ row_bytes ncc
  pub no_rows : encoded [] ≡ replicate 8 0
  -- counts and days: the high byte last
  pub many_rows : (bytes 2 255 ≡ 255 ∷ 0 ∷ []) × (bytes 2 256 ≡ 0 ∷ 1 ∷ []) × (bytes 2 36524 ≡ 0xAC ∷ 0x8E ∷ [])

pub written : Written
unfolding encoded section_bytes rows_of row_bytes interval_bytes heading flat_map value_bytes bytes twos figures pairs tabulate sample
written = record {
  vesting_row = refl;
  meter_row = refl;
  residual_row = refl;
  ncc_row = refl;
  ncc_end = refl;
  file_length = refl;
  one_row = refl;
  no_rows = refl;
  many_rows = (refl, refl, refl);
}
