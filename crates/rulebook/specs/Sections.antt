-- Document 01, "A submission file" and "The book": what a row of each section holds. Assumes nothing.
use Rattle.std.specs.Prelude.{Bool, true, false, cond, ℕ, ◌+◌, ◌*◌, ◌%◌, eqb, ltb, ℤ}
use Rattle.rulebook.specs.declared.Section.{Section}
use Rattle.rulebook.specs.declared.Section.TheVariants.{Vesting, Meter, Residual, Ncc}
use Rattle.rulebook.specs.declared.Kind.{Kind}
use Rattle.rulebook.specs.declared.Kind.TheVariants.{Quantity, Price, Injection, Load}
use Rattle.rulebook.specs.Units.{in_range, as_quantity}
use Rattle.rulebook.specs.ReferencePrice.{most_facilities}
use Rattle.rulebook.specs.DayAmount.{AccountData, tenders}

--            count                  its values of an interval
--   vesting  0 to 3 tranches        BVQ, BVP, then TVQ, TVP pairs
--   meter    1 to 4 facilities      MEP, IEQ pairs
--   residual none                   UEGQ, MQ, RVP1, RVP2
--   NCC      none                   load
abbrev pub least_count : Section → ℕ
least_count Vesting = 0
least_count Meter = 1
least_count Residual = 0
least_count Ncc = 0

abbrev pub most_count : Section → ℕ
most_count Vesting = tenders
most_count Meter = most_facilities
most_count Residual = 0
most_count Ncc = 0

abbrev pub per_interval : Section → ℕ → ℕ
per_interval Vesting n = 2 + 2 * n
per_interval Meter n = 2 * n
per_interval Residual n = 4
per_interval Ncc n = 1

-- what value k of an interval, or of a row, is
abbrev pub kind_of : Section → ℕ → Kind
kind_of Vesting k = cond (eqb (k % 2) 0) Quantity Price
kind_of Meter k = cond (eqb (k % 2) 0) Price Injection
kind_of Residual k = cond (ltb (k % 4) 2) Quantity Price
kind_of Ncc k = Load

-- value k of an interval is in range
abbrev pub value_in_range : Section → ℕ → ℤ → Bool
value_in_range s k z = in_range (kind_of s k) z

abbrev pub same_section : Section → Section → Bool
same_section Vesting t = elim t [ Vesting ↦ true | Meter ↦ false | Residual ↦ false | Ncc ↦ false ]
same_section Meter t = elim t [ Vesting ↦ false | Meter ↦ true | Residual ↦ false | Ncc ↦ false ]
same_section Residual t = elim t [ Vesting ↦ false | Meter ↦ false | Residual ↦ true | Ncc ↦ false ]
same_section Ncc t = elim t [ Vesting ↦ false | Meter ↦ false | Residual ↦ false | Ncc ↦ true ]

-- of n accounts, how many have rows of a section: section 4 has one row a day, kept as account 0's. For what is said of every section alike
abbrev pub accounts_of : Section → ℕ → ℕ
accounts_of Vesting n = n
accounts_of Meter n = n
accounts_of Residual n = n
accounts_of Ncc n = 1

-- ---- Figures, by document 01's names

-- of tender t of 0 to 2, facility f of 0 to 3
pub data Figure : Type 0 where
  BVQ BVP : Figure
  TVQ TVP : ℕ → Figure
  MEP IEQ : ℕ → Figure
  UEGQ MQ RVP1 RVP2 : Figure
  NccLoad : Figure

-- whose rows have it
abbrev pub figure_section : Figure → Section
figure_section BVQ = Vesting
figure_section BVP = Vesting
figure_section (TVQ t) = Vesting
figure_section (TVP t) = Vesting
figure_section (MEP f) = Meter
figure_section (IEQ f) = Meter
figure_section UEGQ = Residual
figure_section MQ = Residual
figure_section RVP1 = Residual
figure_section RVP2 = Residual
figure_section NccLoad = Ncc

-- which of its interval's values it is
abbrev pub figure_place : Figure → ℕ
figure_place BVQ = 0
figure_place BVP = 1
figure_place (TVQ t) = 2 + 2 * t
figure_place (TVP t) = 3 + 2 * t
figure_place (MEP f) = 2 * f
figure_place (IEQ f) = 1 + 2 * f
figure_place UEGQ = 0
figure_place MQ = 1
figure_place RVP1 = 2
figure_place RVP2 = 3
figure_place NccLoad = 0

-- ---- The day amount's data, by figures

-- an account's at an interval, of what each figure is and of its facility count
abbrev pub account_by : (Figure → ℤ) → ℕ → AccountData
account_by figure facilities = record {
  bvq = as_quantity (figure BVQ);
  bvp = figure BVP;
  tvq = λ t. as_quantity (figure (TVQ t));
  tvp = λ t. figure (TVP t);
  facilities = facilities;
  mep = λ f. figure (MEP f);
  ieq = λ f. figure (IEQ f);
  uegq = as_quantity (figure UEGQ);
  mq = as_quantity (figure MQ);
  rvp1 = figure RVP1;
  rvp2 = figure RVP2;
}

-- the interval's NCC load
abbrev pub load_by : (Figure → ℤ) → ℕ
load_by figure = as_quantity (figure NccLoad)
