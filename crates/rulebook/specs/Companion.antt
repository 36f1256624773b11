-- Demand 3's companion: on every run, each call's whole answer, and what it leaves of statement and book, told from the history. Assumes nothing.
use Rattle.std.specs.Prelude.{◌≡◌, ◌≢◌, ◌↔◌, cond, List, ℕ, ◌+◌, ◌≤◌, ◌<◌, ℤ, neg_ℤ, ltb, length, Option, Some, None}
use Rattle.integer.specs.Below.{sum_ℤ}
use Rattle.integer.specs.Words.{word}
use Rattle.rulebook.specs.Answers.{OpenAnswer}
use Rattle.rulebook.specs.declared.Section.{Section}
use Rattle.rulebook.specs.declared.Terms.{Terms}
use Rattle.rulebook.specs.Units.{last_day}
use Rattle.rulebook.specs.DayAmount.{settles_residual}
use Rattle.rulebook.specs.Terms.{InTerms}
use Rattle.rulebook.specs.Layout.{size, flag_word}
use Rattle.rulebook.specs.Opening.{header}
use Rattle.rulebook.specs.File.{Row}
use Rattle.rulebook.specs.Judging.{limits_of, judged}
use Rattle.rulebook.specs.Close.{searched, needed_day, residual_count}
use Rattle.rulebook.specs.Numbers.{Answer, numbered, accepted, outside_range, words_too_few, not_well_formed, book_finished, output_too_short, datum_absent, of_open, of_verdict, of_submit, of_close}
use Rattle.rulebook.specs.History.{Event, closing_day, in_force, formula_amount, formula_difference}
use Rattle.rulebook.specs.Promises.{OpenPromise, Run, begun, then_submit, then_close}

-- ---- A submission: what the judge says at C = F + k

abbrev pub submit_told : Terms → List Event → List ℕ → Answer
submit_told o past file = of_verdict (judged (limits_of o (closing_day o past)) file)

-- ---- A close: 9 when no day is left, else 10 without room, else 11 when a needed row is missing, else 0 with day, count and rounding difference

-- a row that is not in force lacks all its flags, the first of them in interval 0
abbrev pub flag_lacking : Option Row → ℕ → Option ℕ
flag_lacking None at = Some at
flag_lacking (Some r) at = None

module _ (o : Terms) (past : List Event) where
  abbrev pub lacking : Section → ℕ → ℕ → Option ℕ
  lacking s a d = flag_lacking (in_force past s a d) (flag_word o s a d 0)

  -- in the order of the search
  unfoldable pub first_lacking : Option ℕ
  first_lacking = searched o.accounts (settles_residual o (closing_day o past)) (λ s a. lacking s a (needed_day o (closing_day o past) s))

  abbrev pub search_answered : Option ℕ → Answer
  search_answered (Some at) = numbered datum_absent at
  search_answered None = record { number = accepted; position = 0; day = closing_day o past; count = residual_count o (closing_day o past); difference = formula_difference o past }

  unfoldable pub close_told : List ℤ → Answer
  close_told statement =
      cond (ltb last_day (closing_day o past)) (numbered book_finished 0)
      (cond (ltb (length statement) (o.accounts + 1)) (numbered output_too_short 0)
      (search_answered first_lacking))

-- ---- What each call leaves

-- words from n on, and how many words there are
pub record KeptFrom (n : ℕ) (before after : List ℤ) : Type 0 where
  pub long : length after ≡ length before
  pub words : (m : ℕ) → n ≤ m → word after m ≡ word before m

-- an opening: 0 exactly if each parameter is in its range and the words suffice, and then 395, N, L, H, F, F, 0, X, 0 and zeros to the size;
-- 1 exactly if a parameter is out of range, else 2; every other figure is 0
pub record OpenTells (o : Terms) (before : List ℤ) (answer : Answer) (after : List ℤ) : Type 0 where
  pub taken : (answer ≡ numbered accepted 0) ↔ (InTerms o × (size o ≤ length before))
  pub outside : (answer ≡ numbered outside_range 0) ↔ (InTerms o → ⊥)
  pub short : (answer ≡ numbered words_too_few 0) ↔ (InTerms o × (length before < size o))
  pub words : answer.number ≡ accepted → (m : ℕ) → m < size o → word after m ≡ word (header o) m
  pub beyond : KeptFrom (size o) before after
  pub refused : answer.number ≢ accepted → after ≡ before

pub record SubmitTells (o : Terms) (past : List Event) (before : List ℤ) (file : List ℕ) (answer : Answer) (after : List ℤ) : Type 0 where
  pub answered : answer ≡ submit_told o past file
  pub well_formed : answer.number ≢ not_well_formed
  pub refused : answer.number ≢ accepted → after ≡ before
  pub beyond : KeptFrom (size o) before after

pub record CloseTells (o : Terms) (past : List Event) (before statement : List ℤ) (answer : Answer) (after written : List ℤ) : Type 0 where
  pub answered : answer ≡ close_told o past statement
  pub well_formed : answer.number ≢ not_well_formed
  pub refused : answer.number ≢ accepted → (after ≡ before) × (written ≡ statement)
  -- an accepted close's statement: the formula amounts, then the MSSL's, minus their sum
  pub amounts : answer.number ≡ accepted → (a : ℕ) → a < o.accounts → word written a ≡ formula_amount o past a
  pub mssl : answer.number ≡ accepted → word written o.accounts ≡ neg_ℤ (sum_ℤ o.accounts (formula_amount o past))
  pub beyond : KeptFrom (size o) before after
  pub statement_beyond : KeptFrom (o.accounts + 1) statement written

-- ---- The statement

-- of each call of a run
abbrev pub EachTold : Terms → {start : List ℤ} {past : List Event} {book : List ℤ} → Run start past book → Type 0
EachTold o begun = Unit {0}
EachTold o (then_submit {past = past} {before = before} {after = after} {file = file} {answer = answer} run promise) =
    SubmitTells o past before file (of_submit answer) after × EachTold o run
EachTold o (then_close {past = past} {before = before} {after = after} {statement = statement} {written = written} {answer = answer} run promise) =
    CloseTells o past before statement (of_close answer) after written × EachTold o run

-- for every opening
abbrev pub OpeningHolds : Type 0
OpeningHolds = (o : Terms) (lent start : List ℤ) (answer : OpenAnswer) → OpenPromise o lent answer start → OpenTells o lent (of_open answer) start

-- for every accepted opening, and every run of calls on the book that it left
abbrev pub CompanionHolds : Type 0
CompanionHolds = (o : Terms) (lent start : List ℤ) (answer : OpenAnswer) → OpenPromise o lent answer start → (of_open answer).number ≡ accepted
    → (past : List Event) (book : List ℤ) (run : Run start past book) → EachTold o run
