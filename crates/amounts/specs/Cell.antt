-- An account's words at one interval, its cell, read by name as the code reads them. Assumes nothing.
use Rattle.std.specs.Prelude.{◌≡◌, true, List, ℕ, ◌+◌, ◌*◌, ◌≤◌, ◌<◌, ℤ, length}
use Rattle.integer.specs.Words.{word}
use Rattle.rulebook.specs.declared.Kind.TheVariants.{Quantity}
use Rattle.rulebook.specs.declared.Section.TheVariants.{Meter}
use Rattle.rulebook.specs.Units.{positive, as_quantity, in_range}
use Rattle.rulebook.specs.Sections.{BVQ, BVP, TVQ, TVP, MEP, IEQ, UEGQ, MQ, RVP1, RVP2}
use Rattle.rulebook.specs.Layout.{account_words, flag_at, figure_at}
use Rattle.rulebook.specs.DayAmount.{AccountData, tenders}
use Rattle.rulebook.specs.Bounds.{Sized}

-- the data of a cell: not cited from `account_by`, as the code finds the words of tender or facility t 2t words after the first, for which
-- `figure_at` searches the table
abbrev pub cell_data : List ℤ → AccountData
cell_data c = record {
  bvq = as_quantity (word c (figure_at BVQ));
  bvp = word c (figure_at BVP);
  tvq = λ t. as_quantity (word c (figure_at (TVQ 0) + 2 * t));
  tvp = λ t. word c (figure_at (TVP 0) + 2 * t);
  facilities = positive (word c (flag_at Meter));
  mep = λ f. word c (figure_at (MEP 0) + 2 * f);
  ieq = λ f. word c (figure_at (IEQ 0) + 2 * f);
  uegq = as_quantity (word c (figure_at UEGQ));
  mq = as_quantity (word c (figure_at MQ));
  rvp1 = word c (figure_at RVP1);
  rvp2 = word c (figure_at RVP2);
}

-- a cell in range, with a meter row; no quantity is negative
pub record RangedCell (c : List ℤ) : Type 0 where
  pub whole : length c ≡ account_words
  pub sized : Sized (cell_data c)
  pub some : 1 ≤ (cell_data c).facilities
  pub bvq : in_range Quantity (word c (figure_at BVQ)) ≡ true
  pub tvq : (t : ℕ) → t < tenders → in_range Quantity (word c (figure_at (TVQ 0) + 2 * t)) ≡ true
  pub uegq : in_range Quantity (word c (figure_at UEGQ)) ≡ true
  pub mq : in_range Quantity (word c (figure_at MQ)) ≡ true
