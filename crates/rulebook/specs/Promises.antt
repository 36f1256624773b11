-- What open, submit and close promise, and a run of calls that keep these promises. A function's contract is its promise. Assumes nothing.
use Rattle.std.specs.Prelude.{◌≡◌, List, [], ◌∷◌, ℕ, ℤ}
use Rattle.rulebook.specs.Answers.{OpenAnswer, SubmitAnswer, CloseAnswer}
use Rattle.rulebook.specs.declared.Terms.{Terms}
use Rattle.rulebook.specs.Opening.{opened}
use Rattle.rulebook.specs.Submit.{submitted}
use Rattle.rulebook.specs.Close.{closed}
use Rattle.rulebook.specs.Numbers.{Answer, of_open, of_submit, of_close}
use Rattle.rulebook.specs.History.{Call, Event, submit, close}

-- ---- The promises: number, position, day, count and difference returned, and every lent word after, by the words before and the arguments

pub record OpenPromise (o : Terms) (before : List ℤ) (answer : OpenAnswer) (after : List ℤ) : Type 0 where
  pub answered : of_open answer ≡ of_open (opened o before).answer
  pub book_after : after ≡ (opened o before).words

pub record SubmitPromise (before : List ℤ) (file : List ℕ) (answer : SubmitAnswer) (after : List ℤ) : Type 0 where
  pub answered : of_submit answer ≡ of_submit (submitted before file).answer
  pub book_after : after ≡ (submitted before file).words

pub record ClosePromise (before statement : List ℤ) (answer : CloseAnswer) (after written : List ℤ) : Type 0 where
  pub answered : of_close answer ≡ of_close (closed before statement).answer
  pub book_after : after ≡ (closed before statement).words
  pub statement_after : written ≡ (closed before statement).statement

-- ---- A run

-- submit and close calls in the order made, each on the book as the last one left it: `Run start past book` goes from the words
-- `start` to the words `book`, and `past` tells the calls and what they returned, the latest first
pub data Run (start : List ℤ) : List Event → List ℤ → Type 0 where
  begun : Run start [] start
  then_submit : {past : List Event} {before after : List ℤ} {file : List ℕ} {answer : SubmitAnswer} → Run start past before → SubmitPromise before file answer after
      → Run start (record { call = submit file; answer = of_submit answer } ∷ past) after
  then_close : {past : List Event} {before after statement written : List ℤ} {answer : CloseAnswer} → Run start past before → ClosePromise before statement answer after written
      → Run start (record { call = close statement; answer = of_close answer } ∷ past) after

-- ---- A list of calls, in the order made, by a function

-- what a call returns, and the book that it leaves
pub record Made : Type 0 where
  pub answer : Answer
  pub book : List ℤ

abbrev pub made : List ℤ → Call → Made
made book (submit file) = record { answer = of_submit (submitted book file).answer; book = (submitted book file).words }
made book (close statement) = record { answer = of_close (closed book statement).answer; book = (closed book statement).words }

-- the book after the calls, each on the book as the last one left it
unfoldable pub book_of : List ℤ → List Call → List ℤ
book_of book [] = book
book_of book (call ∷ calls) = book_of (made book call).book calls

-- their history, `past` having happened before
unfoldable pub history_from : List Event → List ℤ → List Call → List Event
history_from past book [] = past
history_from past book (call ∷ calls) = history_from (record { call = call; answer = (made book call).answer } ∷ past) (made book call).book calls

abbrev pub history_of : List ℤ → List Call → List Event
history_of book calls = history_from [] book calls
