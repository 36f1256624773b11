-- Document 01: the rows that a book can take, its ranges and windows as inequalities; and rows that say the same. Assumes nothing.
use Rattle.std.specs.Prelude.{◌≡◌, Bool, false, ◌&&◌, List, [], ◌∷◌, ◌++◌, ℕ, ◌+◌, ◌≤◌, ◌<◌, eqb, ℤ, pos, length, ◌≤ℤ◌}
use Rattle.integer.specs.Integer.{minus}
use Rattle.integer.specs.Below.{Each}
use Rattle.rulebook.specs.declared.Section.{Section}
use Rattle.rulebook.specs.declared.Section.TheVariants.{Vesting, Meter, Residual, Ncc}
use Rattle.rulebook.specs.declared.Terms.{Terms}
use Rattle.rulebook.specs.Sections.{same_section}
use Rattle.rulebook.specs.File.{Figure, BVQ, BVP, TVQ, TVP, MEP, IEQ, UEGQ, MQ, RVP1, RVP2, NccLoad, figure_section}
use Rattle.rulebook.specs.NamedRows.{NamedRow}
use Rattle.rulebook.specs.Encoding.{figures, rows_of}

-- every element is a byte
abbrev pub Bytes : List ℕ → Type 0
Bytes file = Each (λ b. b < 256) file

-- ---- Ranges: quantities and load in kWh, prices in cents per MWh

abbrev pub least : Figure → ℤ
least BVQ = pos 0
least BVP = minus 1000000
least (TVQ t) = pos 0
least (TVP t) = minus 1000000
least (MEP f) = minus 1000000
least (IEQ f) = minus 10000000
least UEGQ = pos 0
least MQ = pos 0
least RVP1 = minus 1000000
least RVP2 = minus 1000000
least NccLoad = pos 0

abbrev pub most : Figure → ℤ
most BVQ = pos 10000000
most BVP = pos 1000000
most (TVQ t) = pos 10000000
most (TVP t) = pos 1000000
most (MEP f) = pos 1000000
most (IEQ f) = pos 10000000
most UEGQ = pos 10000000
most MQ = pos 10000000
most RVP1 = pos 1000000
most RVP2 = pos 1000000
most NccLoad = pos 1000000000

pub record FigureInRange (g : Figure) (v : ℤ) : Type 0 where
  pub low : least g ≤ℤ v
  pub high : v ≤ℤ most g

-- 0 to 3 tranches, 1 to 4 facilities; other rows have no count
abbrev pub CountInRange : Section → ℕ → Type 0
CountInRange Vesting n = n ≤ 3
CountInRange Meter n = (1 ≤ n) × (n ≤ 4)
CountInRange Residual n = n ≡ 0
CountInRange Ncc n = n ≡ 0

-- ---- Accounts and days of a book, C being the next day to close

-- an account of the book; an NCC row has none
abbrev pub AccountOf : Terms → Section → ℕ → Type 0
AccountOf o Vesting a = a < o.accounts
AccountOf o Meter a = a < o.accounts
AccountOf o Residual a = a < o.accounts
AccountOf o Ncc a = a ≡ 0

-- to C + H − 1, none past 36,524
pub record OpenTo (o : Terms) (C d : ℕ) : Type 0 where
  pub high : d < C + o.horizon
  pub last : d ≤ 36524

-- from C, or for residual and NCC rows from max(F, C − L)
abbrev pub OpenDay : Terms → ℕ → Section → ℕ → Type 0
OpenDay o C Vesting d = (C ≤ d) × OpenTo o C d
OpenDay o C Meter d = (C ≤ d) × OpenTo o C d
OpenDay o C Residual d = (o.first ≤ d) × (C ≤ d + o.lag) × OpenTo o C d
OpenDay o C Ncc d = (o.first ≤ d) × (C ≤ d + o.lag) × OpenTo o C d

-- ---- Rows

-- of an account, its day open, with all that it gives in range
pub record Proper (o : Terms) (C : ℕ) (r : NamedRow) : Type 0 where
  pub account : AccountOf o r.section r.account
  pub day : OpenDay o C r.section r.day
  pub count : CountInRange r.section r.count
  pub ranges : (i : ℕ) → i < 48 → Each (λ g. FigureInRange g (r.figure i g)) (figures r.section r.count)

-- two rows of one section, account and day; of section 4, whose account is 0, of one day
abbrev pub same_key : NamedRow → NamedRow → Bool
same_key q r = same_section q.section r.section && (eqb q.account r.account && eqb q.day r.day)

-- no two have the same key
unfoldable pub Once : List NamedRow → Type 0
Once [] = Unit
Once (r ∷ rs) = Each (λ q. same_key r q ≡ false) rs × Once rs

-- proper rows, each key once, section after section, and no more of a section than 2 bytes can count
pub record ProperRows (o : Terms) (C : ℕ) (rows : List NamedRow) : Type 0 where
  pub each : Each (Proper o C) rows
  pub once : Once rows
  pub order : rows ≡ rows_of Vesting rows ++ (rows_of Meter rows ++ (rows_of Residual rows ++ rows_of Ncc rows))
  pub few : (sec : Section) → length (rows_of sec rows) ≤ 65535

-- ---- Rows that say the same

-- the same names, and the same figures at the 48 intervals
pub record Alike (q r : NamedRow) : Type 0 where
  pub section : q.section ≡ r.section
  pub account : q.account ≡ r.account
  pub day : q.day ≡ r.day
  pub count : q.count ≡ r.count
  pub figure : (i : ℕ) → i < 48 → Each (λ g. q.figure i g ≡ r.figure i g) (figures r.section r.count)

-- one by one
unfoldable pub AllAlike : List NamedRow → List NamedRow → Type 0
AllAlike [] [] = Unit
AllAlike [] (r ∷ rs) = ⊥
AllAlike (q ∷ qs) [] = ⊥
AllAlike (q ∷ qs) (r ∷ rs) = Alike q r × AllAlike qs rs

-- ---- Figures that a row lacks

-- read zero: tenders and facilities from the count on, and what another section's rows give
pub record LackingZero (r : NamedRow) (i : ℕ) : Type 0 where
  pub tender : r.section ≡ Vesting → (t : ℕ) → r.count ≤ t → (r.figure i (TVQ t) ≡ pos 0) × (r.figure i (TVP t) ≡ pos 0)
  pub facility : r.section ≡ Meter → (f : ℕ) → r.count ≤ f → (r.figure i (MEP f) ≡ pos 0) × (r.figure i (IEQ f) ≡ pos 0)
  pub other : (g : Figure) → same_section r.section (figure_section g) ≡ false → r.figure i g ≡ pos 0
