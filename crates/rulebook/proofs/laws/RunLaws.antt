-- Every list of calls is a run of calls that keep their promises: the theorems over runs speak of all lists. Assumes nothing.
use Rattle.std.specs.Prelude.{◌≡◌, refl, ℤ}
use mathlib.Core.List.{List, [], ◌∷◌, reverse, reverse_aux}
use Rattle.rulebook.specs.Submit.{submitted}
use Rattle.rulebook.specs.Close.{closed}
use Rattle.rulebook.specs.History.{Call, submit, close, Event, calls_in}
use Rattle.rulebook.specs.Promises.{Run, begun, then_submit, then_close, made, book_of, history_from, history_of}

-- a run, and more calls after it
pub run_on : {start : List ℤ} (past : List Event) (book : List ℤ) (calls : List Call) → Run start past book → Run start (history_from past book calls) (book_of book calls)
unfolding history_from book_of
run_on past book [] run = run
run_on past book (submit file ∷ calls) run = run_on (record { call = submit file; answer = (made book (submit file)).answer } ∷ past) (made book (submit file)).book calls
    (then_submit {answer = (submitted book file).answer} run (record { answered = refl; book_after = refl }))
run_on past book (close statement ∷ calls) run = run_on (record { call = close statement; answer = (made book (close statement)).answer } ∷ past) (made book (close statement)).book calls
    (then_close {written = (closed book statement).statement} {answer = (closed book statement).answer} run (record { answered = refl; book_after = refl; statement_after = refl }))

pub run_of : (start : List ℤ) (calls : List Call) → Run start (history_of start calls) (book_of start calls)
run_of start calls = run_on [] start calls begun

-- a history has its calls, the latest first
calls_from : (past : List Event) (book : List ℤ) (calls : List Call) → calls_in (history_from past book calls) ≡ reverse_aux calls (calls_in past)
unfolding history_from calls_in
calls_from past book [] = refl
calls_from past book (call ∷ calls) = calls_from (record { call = call; answer = (made book call).answer } ∷ past) (made book call).book calls

pub calls_of : (book : List ℤ) (calls : List Call) → calls_in (history_of book calls) ≡ reverse calls
unfolding calls_in
calls_of book calls = calls_from [] book calls
