-- Document 01, "Close"; document 02, P5: the rounding difference. Assumes nothing.
use Rattle.std.specs.Prelude.{Bool, cond, List, ℕ, zero, suc, ◌+◌, ◌*◌, ℤ, pos, ◌+ℤ◌, ltb, length, set, Option, Some, None, Ok, Err}
use Rattle.integer.specs.Below.{first, or_else}
use Rattle.integer.specs.Words.{word}
use Rattle.rulebook.specs.Answers.{CloseAnswer}
use Rattle.rulebook.specs.declared.Section.{Section}
use Rattle.rulebook.specs.declared.Section.TheVariants.{Vesting, Meter, Residual, Ncc}
use Rattle.rulebook.specs.declared.Terms.{Terms}
use Rattle.rulebook.specs.declared.CloseFigures.{CloseFigures}
use Rattle.rulebook.specs.declared.CloseError.TheVariants.{BookIllFormed, Finished, NoRoom, DatumMissing}
use Rattle.rulebook.specs.Units.{last_day, intervals}
use Rattle.rulebook.specs.DayAmount.{settles_residual, residual_day, posted_amount, mssl_amount, rounding_difference}
use Rattle.rulebook.specs.Layout.{stored, next_day_word, mssl_word, differences_word, balance_word, slot_length, slot_start, flag_word}
use Rattle.rulebook.specs.BookData.{book_data, terms_of, next_day}
use Rattle.rulebook.specs.WellFormed.{is_zero, well_formed}

-- ---- The search

-- an index, if its word is zero
unfoldable pub absent_at : List ℤ → ℕ → Option ℕ
absent_at w n = cond (is_zero (word w n)) (Some n) None

-- the order of a search, by what it finds at the row of a section and an account: vesting of an account, then meter
abbrev pub account_searched : (Section → ℕ → Option ℕ) → ℕ → Option ℕ
account_searched x a = or_else (x Vesting a) (x Meter a)

-- NCC, then residual by account
abbrev pub residuals_searched : ℕ → (Section → ℕ → Option ℕ) → Option ℕ
residuals_searched n x = or_else (x Ncc 0) (first n (x Residual))

-- n accounts ascending; then these, if residuals are due
unfoldable pub searched : ℕ → Bool → (Section → ℕ → Option ℕ) → Option ℕ
searched n due x = or_else (first n (account_searched x)) (cond due (residuals_searched n x) None)

-- the day of the row that a close of D needs of a section: D or r
abbrev pub needed_day : Terms → ℕ → Section → ℕ
needed_day o D Vesting = D
needed_day o D Meter = D
needed_day o D Residual = residual_day o D
needed_day o D Ncc = residual_day o D

module _ (o : Terms) (w : List ℤ) (D : ℕ) where
  -- the index of that row's flag at interval i, if the flag is zero
  abbrev pub absent_flag : ℕ → Section → ℕ → Option ℕ
  absent_flag i s a = absent_at w (flag_word o s a (needed_day o D s) i)

  -- the search in interval i, and in all
  unfoldable pub missing_at : ℕ → Option ℕ
  missing_at i = searched o.accounts (settles_residual o D) (absent_flag i)

  unfoldable pub first_missing : Option ℕ
  first_missing = first intervals missing_at

-- ---- What an accepted close writes

-- the first n accounts' balances grown by these amounts
unfoldable pub balances_grown_by : List ℤ → (ℕ → ℤ) → ℕ → List ℤ
balances_grown_by w amount zero = w
balances_grown_by w amount (suc n) = set (balances_grown_by w amount n) (balance_word n) (word w (balance_word n) +ℤ amount n)

-- zeros in r's slot, if r ≥ F
unfoldable pub slot_blanked : Terms → ℕ → List ℤ → List ℤ
slot_blanked o D w = cond (settles_residual o D) (stored w (slot_start o (residual_day o D)) (slot_length o.accounts) (λ m. pos 0)) w

module _ (o : Terms) (w : List ℤ) (D : ℕ) where
  unfoldable pub posted : ℕ → ℤ
  posted a = posted_amount o (book_data o w) a D

  unfoldable pub posted_to_mssl : ℤ
  posted_to_mssl = mssl_amount o (book_data o w) D

  -- the rounding difference: 1,000 times that less the MSSL's exact amount
  unfoldable pub day_difference : ℤ
  day_difference = rounding_difference o (book_data o w) D

  -- by what is posted
  abbrev pub balances_grown : ℕ → List ℤ
  balances_grown = balances_grown_by w posted

  -- every sum: the balances, the MSSL's, the rounding difference
  unfoldable pub sums_grown : List ℤ
  sums_grown = set (set (balances_grown o.accounts) mssl_word (word w mssl_word +ℤ posted_to_mssl)) differences_word (word w differences_word +ℤ day_difference)

  unfoldable pub day_closed : List ℤ
  day_closed = slot_blanked o D (set sums_grown next_day_word (pos (suc D)))

  -- N amounts, then the MSSL's
  unfoldable pub statement_written : List ℤ → List ℤ
  statement_written st = set (stored st 0 o.accounts posted) o.accounts posted_to_mssl

-- ---- What a close answers

-- the residuals that a close of D settles: 48N if r ≥ F, else none
unfoldable pub residual_count : Terms → ℕ → ℕ
residual_count o D = cond (settles_residual o D) (intervals * o.accounts) 0

-- what an accepted close answers
abbrev pub close_figures : Terms → List ℤ → ℕ → CloseFigures
close_figures o w D = record { day = D; count = residual_count o D; difference = day_difference o w D }

-- what a close answers, and the words of book and statement that it leaves
pub record Closing : Type 0 where
  pub answer : CloseAnswer
  pub words : List ℤ
  pub statement : List ℤ

abbrev pub close_refused : List ℤ → List ℤ → CloseAnswer → Closing
close_refused w st answer = record { answer = answer; words = w; statement = st }

-- by what the search found
unfoldable pub settled : Terms → List ℤ → ℕ → List ℤ → Option ℕ → Closing
settled o w D st (Some n) = close_refused w st (Err (DatumMissing n))
settled o w D st None = record { answer = Ok (close_figures o w D); words = day_closed o w D; statement = statement_written o w D st }

-- by whether the book is well formed, whether no day is left, whether the statement is too short, and what the search found
abbrev pub closed_by : Terms → List ℤ → ℕ → List ℤ → Bool → Bool → Bool → Option ℕ → Closing
closed_by o w D st formed finished short found =
    cond formed
    (cond finished (close_refused w st (Err Finished))
    (cond short (close_refused w st (Err NoRoom))
    (settled o w D st found)))
    (close_refused w st (Err BookIllFormed))

unfoldable pub closed : List ℤ → List ℤ → Closing
closed w st =
    closed_by (terms_of w) w (next_day w) st (well_formed w) (ltb last_day (next_day w)) (ltb (length st) ((terms_of w).accounts + 1)) (first_missing (terms_of w) w (next_day w))
