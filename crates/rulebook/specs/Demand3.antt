-- Demand 3: one statement about every list of submissions and closes on a newly opened book. Assumes nothing.
use Rattle.std.specs.Prelude.{◌≡◌, ◌↔◌, List, [], ◌∷◌, ℕ, ◌+◌, ◌-◌, ◌*◌, ◌≤◌, ◌<◌, ℤ, pos, ◌+ℤ◌, T, length, None}
use Rattle.integer.specs.Below.{sum_ℤ}
use Rattle.integer.specs.Words.{word}
use Rattle.rulebook.specs.Answers.{OpenAnswer}
use Rattle.rulebook.specs.declared.Section.{Section}
use Rattle.rulebook.specs.declared.Section.TheVariants.{Vesting, Meter, Residual, Ncc}
use Rattle.rulebook.specs.declared.Terms.{Terms}
use Rattle.rulebook.specs.Units.{last_day, intervals}
use Rattle.rulebook.specs.DayAmount.{settles_residual, residual_day}
use Rattle.rulebook.specs.Layout.{balance_word, mssl_word, differences_word}
use Rattle.rulebook.specs.Opening.{opened}
use Rattle.rulebook.specs.Numbers.{Answer, accepted, datum_absent, of_open}
use Rattle.rulebook.specs.History.{Call, submit, close, Event, closes, closing_day, in_force, formula_balance, residual_counts, formula_differences, returned_differences}
use Rattle.rulebook.specs.Promises.{OpenPromise, Run, book_of, history_of}

-- ---- A close reports a missing datum exactly when

-- a row that the close of day D needs: its section, account and day
pub data Needed (o : Terms) (D : ℕ) : Section → ℕ → ℕ → Type 0 where
  vesting_of : {a : ℕ} → a < o.accounts → Needed o D Vesting a D
  meter_of : {a : ℕ} → a < o.accounts → Needed o D Meter a D
  ncc_of : T (settles_residual o D) → Needed o D Ncc 0 (residual_day o D)
  residual_of : {a : ℕ} → T (settles_residual o D) → a < o.accounts → Needed o D Residual a (residual_day o D)

pub record Missing (o : Terms) (past : List Event) : Type 0 where
  pub section : Section
  pub account : ℕ
  pub day : ℕ
  pub needed : Needed o (closing_day o past) section account day
  pub absent : in_force past section account day ≡ None

-- a day was left to close, the statement had room, and a row that the close needed was not in force
pub record MissingDatum (o : Terms) (past : List Event) (statement : List ℤ) : Type 0 where
  pub day_left : closing_day o past ≤ last_day
  pub room : o.accounts + 1 ≤ length statement
  pub missing : Missing o past

-- what is said of one call after the calls before it
abbrev pub Reported : Terms → Call → Answer → List Event → Type 0
Reported o (submit file) answer past = Unit {0}
Reported o (close st) answer past = (answer.number ≡ datum_absent) ↔ MissingDatum o past st

abbrev pub EachReported : Terms → List Event → Type 0
EachReported o [] = Unit {0}
EachReported o (e ∷ past) = Reported o e.call e.answer past × EachReported o past

-- ---- The statement

-- the counts that the closes returned are 48 N for each closed day but the first L: `-` stops at 0
abbrev pub ResidualsCounted : Terms → List Event → Type 0
ResidualsCounted o past = residual_counts past ≡ intervals * o.accounts * (closes past - o.lag)

-- the rounding differences that the calls returned are those of the closed days
abbrev pub DifferencesReturned : Terms → List Event → Type 0
DifferencesReturned o past = returned_differences past ≡ formula_differences o past

pub record Demand3 (o : Terms) (book : List ℤ) (past : List Event) : Type 0 where
  -- each balance is the sum of the account's formula amounts over the closed days
  pub balances : (a : ℕ) → a < o.accounts → word book (balance_word a) ≡ formula_balance o past a
  -- all balances and the MSSL's sum to zero
  pub total : sum_ℤ o.accounts (λ a. word book (balance_word a)) +ℤ word book mssl_word ≡ pos 0
  -- word 8 is the sum of the closed days' rounding differences, and those returned add up to it (document 02, P5)
  pub differences : word book differences_word ≡ formula_differences o past
  pub returned : DifferencesReturned o past
  pub residuals : ResidualsCounted o past
  pub reported : EachReported o past

-- for every accepted opening, and every list of submit and close calls in the order made on the book that it left
abbrev pub Demand3OnCalls : Type 0
Demand3OnCalls = (o : Terms) (lent : List ℤ) → (of_open (opened o lent).answer).number ≡ accepted
    → (calls : List Call) → Demand3 o (book_of (opened o lent).words calls) (history_of (opened o lent).words calls)

-- the same for every run of calls that keep their promises
abbrev pub Demand3Holds : Type 0
Demand3Holds = (o : Terms) (lent start : List ℤ) (answer : OpenAnswer) → OpenPromise o lent answer start → (of_open answer).number ≡ accepted
    → (past : List Event) (book : List ℤ) → Run start past book → Demand3 o book past
