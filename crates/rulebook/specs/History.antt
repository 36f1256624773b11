-- Demand 3's history: told from the opening's arguments and the calls' arguments and answers, never from the book's words.
-- A history has its latest call first. Assumes nothing.
use Rattle.std.specs.Prelude.{Bool, true, false, cond, ◌&&◌, List, [], ◌∷◌, ℕ, suc, ◌+◌, ℤ, pos, ◌+ℤ◌, eqb, Option, Some, None}
use Rattle.rulebook.specs.declared.Section.{Section}
use Rattle.rulebook.specs.declared.Section.TheVariants.{Meter}
use Rattle.rulebook.specs.declared.Terms.{Terms}
use Rattle.rulebook.specs.DayAmount.{AccountData, SettlementData, posted_amount, rounding_difference}
use Rattle.rulebook.specs.Sections.{same_section, figure_section, account_by, load_by}
use Rattle.rulebook.specs.File.{Row, file_rows, Figure, figure_of}
use Rattle.rulebook.specs.Numbers.{Answer, accepted}

-- ---- Calls

-- submit lends a file, close a statement
pub data Call : Type 0 where
  submit : List ℕ → Call
  close : List ℤ → Call

-- a call that was made, and what it returned
pub record Event : Type 0 where
  pub call : Call
  pub answer : Answer

-- the calls of a history, the latest first
unfoldable pub calls_in : List Event → List Call
calls_in [] = []
calls_in (e ∷ past) = e.call ∷ calls_in past

-- a call is accepted if it returned 0
abbrev pub was_accepted : Event → Bool
was_accepted e = eqb e.answer.number accepted

abbrev pub is_close : Call → Bool
is_close (submit file) = false
is_close (close st) = true

abbrev pub accepted_close : Event → Bool
accepted_close e = is_close e.call && was_accepted e

-- k: the closes accepted so far
unfoldable pub closes : List Event → ℕ
closes [] = 0
closes (e ∷ past) = cond (accepted_close e) (suc (closes past)) (closes past)

-- D = F + k, the day that the next close is of
abbrev pub closing_day : Terms → List Event → ℕ
closing_day o past = o.first + closes past

-- the residual counts that the closes returned
unfoldable pub residual_counts : List Event → ℕ
residual_counts [] = 0
residual_counts (e ∷ past) = cond (is_close e.call) (residual_counts past + e.answer.count) (residual_counts past)

-- the rounding differences that the calls returned
unfoldable pub returned_differences : List Event → ℤ
returned_differences [] = pos 0
returned_differences (e ∷ past) = returned_differences past +ℤ e.answer.difference

-- ---- Rows in force

-- the first that is there of two, the later before the earlier
unfoldable pub latest : {A : Type 0} → Option A → Option A → Option A
latest None y = y
latest (Some a) y = Some a

-- the row for a section, account and day, if there is one
abbrev pub RowsInForce : Type 0
RowsInForce = Section → ℕ → ℕ → Option Row

-- the row is section s's for account a and day d; section 4 names no account, which reads 0
abbrev pub is_for : Section → ℕ → ℕ → Row → Bool
is_for s a d row = same_section row.section s && eqb row.account a && eqb row.day d

-- the last row of a list for its section, account and day
unfoldable pub last_for : List Row → RowsInForce
last_for [] s a d = None
last_for (r ∷ rs) s a d = latest (last_for rs s a d) (cond (is_for s a d r) (Some r) None)

-- the rows of a call: what its file's bytes say
abbrev pub call_rows : Call → List Row
call_rows (submit file) = file_rows file
call_rows (close st) = []

-- they count where the call returned 0
unfoldable pub accepted_rows : Event → List Row
accepted_rows e = cond (was_accepted e) (call_rows e.call) []

-- the row in force: the last accepted for its section, account and day
unfoldable pub in_force : List Event → RowsInForce
in_force [] s a d = None
in_force (e ∷ past) s a d = latest (last_for (accepted_rows e) s a d) (in_force past s a d)

-- ---- Data of rows, by name

-- a row's figure at interval i; zero without a row
abbrev pub figure_in : Option Row → ℕ → Figure → ℤ
figure_in None i g = pos 0
figure_in (Some r) i g = figure_of r i g

-- its count
abbrev pub count_in : Option Row → ℕ
count_in None = 0
count_in (Some r) = r.count

-- that of the row in force for account a and day d
abbrev pub figure_in_force : RowsInForce → ℕ → ℕ → ℕ → Figure → ℤ
figure_in_force rows a d i g = figure_in (rows (figure_section g) a d) i g

abbrev pub account_in_force : RowsInForce → ℕ → ℕ → ℕ → AccountData
account_in_force rows a d i = account_by (figure_in_force rows a d i) (count_in (rows Meter a d))

abbrev pub data_in_force : RowsInForce → SettlementData
data_in_force rows = record { account = account_in_force rows; load = λ d i. load_by (figure_in_force rows 0 d i) }

-- ---- Formula amounts, and the rounding difference

module _ (o : Terms) where
  -- account a's, for the day that a close after this history is of
  unfoldable pub formula_amount : List Event → ℕ → ℤ
  formula_amount past a = posted_amount o (data_in_force (in_force past)) a (closing_day o past)

  -- and their sum over the closed days
  unfoldable pub formula_balance : List Event → ℕ → ℤ
  formula_balance [] a = pos 0
  formula_balance (e ∷ past) a = cond (accepted_close e) (formula_balance past a +ℤ formula_amount past a) (formula_balance past a)

  -- 1,000 times what that close posts to the MSSL less its exact amount, and the sum of these over the closed days
  unfoldable pub formula_difference : List Event → ℤ
  formula_difference past = rounding_difference o (data_in_force (in_force past)) (closing_day o past)

  unfoldable pub formula_differences : List Event → ℤ
  formula_differences [] = pos 0
  formula_differences (e ∷ past) = cond (accepted_close e) (formula_differences past +ℤ formula_difference past) (formula_differences past)
