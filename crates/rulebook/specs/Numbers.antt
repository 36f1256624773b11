-- Document 01, "Numbers returned", and the numbers that document 02 adds: the table, and what each answer returns. Assumes nothing.
use Rattle.std.specs.Prelude.{Bool, cond, List, ℕ, ℤ, pos, Ok, Err, Result}
use Rattle.rulebook.specs.Answers.{OpenAnswer, SubmitAnswer, CloseAnswer}
use Rattle.rulebook.specs.declared.Why.{Why}
use Rattle.rulebook.specs.declared.Why.TheVariants.{NotWhole, OutOfRange, DayNotOpen, Repeated, Excess}
use Rattle.rulebook.specs.Judging.{Verdict}
use Rattle.rulebook.specs.declared.OpenError.TheVariants.{BadTerms, TooShort}
use Rattle.rulebook.specs.declared.SubmitError.TheVariants.{IllFormed, FileRefused}
use Rattle.rulebook.specs.declared.CloseError.TheVariants.{BookIllFormed, Finished, NoRoom, DatumMissing}
pub use Rattle.rulebook.specs.declared.Answer.{Answer}
use Rattle.rulebook.specs.declared.PriceReturned.{PriceReturned}
use Rattle.rulebook.specs.declared.TrancheReturned.{TrancheReturned}
use Rattle.rulebook.specs.declared.ProfileReturned.{ProfileReturned}
use Rattle.rulebook.specs.declared.RuleError.{RuleError}
use Rattle.rulebook.specs.declared.RuleError.TheVariants.{OutsideRange, OutputTooShort, TotalImpossible}
use Rattle.rulebook.specs.declared.Tranches.{Tranches}

-- ---- The table

abbrev pub accepted : ℕ
accepted = 0

-- opening, share, tranche, price or profile parameter, amount of packed decimal, or a list's length, outside its range; MEP and IEQ lists of unequal length
abbrev pub outside_range : ℕ
outside_range = 1

-- opening: words fewer than the size
abbrev pub words_too_few : ℕ
words_too_few = 2

-- submit, close: not well formed
abbrev pub not_well_formed : ℕ
not_well_formed = 3

-- field or count not whole
abbrev pub field_not_whole : ℕ
field_not_whole = 4

-- account, count or value of a file out of range
abbrev pub field_out_of_range : ℕ
field_out_of_range = 5

-- day not open, or above 36,524
abbrev pub day_not_open : ℕ
day_not_open = 6

-- row repeated in its section
abbrev pub row_repeated : ℕ
row_repeated = 7

-- bytes after section 4
abbrev pub bytes_after_end : ℕ
bytes_after_end = 8

-- C is 36,525
abbrev pub book_finished : ℕ
book_finished = 9

abbrev pub output_too_short : ℕ
output_too_short = 10

abbrev pub datum_absent : ℕ
datum_absent = 11

-- no such date or month in 2000 to 2099, or day above 36,524
abbrev pub no_such_date : ℕ
no_such_date = 12

-- holiday list not strictly ascending in 0 to 36,524
abbrev pub bad_holidays : ℕ
bad_holidays = 13

-- calendar result past 36,524
abbrev pub past_last_day : ℕ
past_last_day = 14

-- profile: no 48 quantities keep the limits of this T and D (document 02, P1)
abbrev pub total_impossible : ℕ
total_impossible = 15

-- packed decimal: a wrong digit or sign, zero with D, or a cut last field (document 02, P4)
abbrev pub packed_field_wrong : ℕ
packed_field_wrong = 16

-- ---- One check after another, in the order in which they are tried: a check that is not met refuses, else the rest decides

abbrev pub checked : {A : Type 0} → Bool → A → A → A
checked met refusal rest = cond met rest refusal

-- ---- Open, submit, close: number, position of a refusal, an accepted close's day, residual count and rounding difference

-- every other figure is 0
abbrev pub numbered : ℕ → ℕ → Answer
numbered n p = record { number = n; position = p; day = 0; count = 0; difference = pos 0 }

abbrev pub why_number : Why → ℕ
why_number NotWhole = field_not_whole
why_number OutOfRange = field_out_of_range
why_number DayNotOpen = day_not_open
why_number Repeated = row_repeated
why_number Excess = bytes_after_end

abbrev pub of_open : OpenAnswer → Answer
of_open (Ok _) = numbered accepted 0
of_open (Err BadTerms) = numbered outside_range 0
of_open (Err TooShort) = numbered words_too_few 0

-- a file's
abbrev pub of_verdict : Verdict → Answer
of_verdict (Ok _) = numbered accepted 0
of_verdict (Err r) = numbered (why_number r.why) r.at

abbrev pub of_submit : SubmitAnswer → Answer
of_submit (Ok _) = of_verdict (Ok tt)
of_submit (Err IllFormed) = numbered not_well_formed 0
of_submit (Err (FileRefused r)) = of_verdict (Err r)

abbrev pub of_close : CloseAnswer → Answer
of_close (Ok c) = record { number = accepted; position = 0; day = c.day; count = c.count; difference = c.difference }
of_close (Err BookIllFormed) = numbered not_well_formed 0
of_close (Err Finished) = numbered book_finished 0
of_close (Err NoRoom) = numbered output_too_short 0
of_close (Err (DatumMissing at)) = numbered datum_absent at

-- ---- The calls on no book: number and figures; refused, every figure is 0

abbrev pub rule_number : RuleError → ℕ
rule_number OutsideRange = outside_range
rule_number OutputTooShort = output_too_short
rule_number TotalImpossible = total_impossible

abbrev pub price_accepted : ℤ → PriceReturned
price_accepted v = record { number = accepted; price = v }

abbrev pub price_refused : ℕ → PriceReturned
price_refused number = record { number = number; price = pos 0 }

abbrev pub price_returned : Result ℤ RuleError → PriceReturned
price_returned (Ok v) = price_accepted v
price_returned (Err e) = price_refused (rule_number e)

abbrev pub share_number : Result (Unit {0}) RuleError → ℕ
share_number (Ok _) = accepted
share_number (Err e) = rule_number e

-- the number, and the output's words after
pub record ShareReturned : Type 0 where
  pub number : ℕ
  pub output : List ℤ

abbrev pub tranche_accepted : ℤ → ℤ → TrancheReturned
tranche_accepted t u = record { number = accepted; first = t; second = u }

abbrev pub tranche_refused : ℕ → TrancheReturned
tranche_refused number = record { number = number; first = pos 0; second = pos 0 }

abbrev pub tranche_returned : Result Tranches RuleError → TrancheReturned
tranche_returned (Ok t) = tranche_accepted t.first t.second
tranche_returned (Err e) = tranche_refused (rule_number e)

-- 1 where the profile keeps the limits, 0 where it does not
abbrev pub profile_accepted : Bool → ProfileReturned
profile_accepted keeps = record { number = accepted; keeps = cond keeps 1 0 }

abbrev pub profile_refused : ℕ → ProfileReturned
profile_refused number = record { number = number; keeps = 0 }

abbrev pub profile_returned : Result Bool RuleError → ProfileReturned
profile_returned (Ok keeps) = profile_accepted keeps
profile_returned (Err e) = profile_refused (rule_number e)
