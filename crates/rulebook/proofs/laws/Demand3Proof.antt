-- The theorem of demand 3, by induction on the run. Assumes nothing.
use Rattle.std.specs.Prelude.{◌≡◌, refl, List, [], ◌∷◌, ℕ, ℤ, neg_ℤ, ◌+ℤ◌}
use Rattle.std.proofs.Common.{ap, ◌∙◌, subst}
use Rattle.std.proofs.Math.IntN.{+ℤ_invr}
use Rattle.integer.specs.Below.{sum_ℤ}
use Rattle.integer.proofs.laws.BelowLaws.{sum_ℤ-cong}
use Rattle.integer.specs.Words.{word}
use Rattle.rulebook.specs.Answers.{OpenAnswer, SubmitAnswer, CloseAnswer}
use Rattle.rulebook.specs.declared.Terms.{Terms}
use Rattle.rulebook.specs.Terms.{InTerms}
use Rattle.rulebook.specs.Layout.{balance_word}
use Rattle.rulebook.specs.Opening.{opened}
use Rattle.rulebook.specs.Numbers.{Answer, of_submit, of_close, accepted, of_open}
use Rattle.rulebook.specs.History.{submit, close, Event, formula_balance}
use Rattle.rulebook.specs.Promises.{SubmitPromise, ClosePromise, OpenPromise, Run, begun, then_submit, then_close, history_of, book_of}
use Rattle.rulebook.specs.Demand3.{Demand3, Demand3Holds, Demand3OnCalls}
use Rattle.rulebook.specs.Ledger.{State}
use Rattle.rulebook.proofs.laws.StateLaws.{submit-step}
use Rattle.rulebook.proofs.laws.CloseStateLaws.{close-step}
use Rattle.rulebook.proofs.laws.HeaderLaws.{opened-terms}
use Rattle.rulebook.proofs.laws.StartLaws.{new_state, accepted-opening}
use Rattle.rulebook.proofs.laws.RunLaws.{run_of}

-- a call that keeps its promise keeps the state
submit-kept : (o : Terms) (t : InTerms o) (past : List Event) (before after : List ℤ) (file : List ℕ) (answer : SubmitAnswer) → State o past before → SubmitPromise before file answer after
    → State o (record { call = submit file; answer = of_submit answer } ∷ past) after
submit-kept o t past before after file answer h p = rw (p.answered, p.book_after) (submit-step o t past before h file)

close-kept : (o : Terms) (t : InTerms o) (past : List Event) (before after statement written : List ℤ) (answer : CloseAnswer) → State o past before → ClosePromise before statement answer after written
    → State o (record { call = close statement; answer = of_close answer } ∷ past) after
close-kept o t past before after statement written answer h p = rw (p.answered, p.book_after) (close-step o t past before h statement)

pub run_state : {start : List ℤ} {past : List Event} {book : List ℤ} (o : Terms) → InTerms o → State o [] start → Run start past book → State o past book
run_state o t s begun = s
run_state o t s (then_submit {past = past} {before = before} {after = after} {file = file} {answer = answer} run p) = submit-kept o t past before after file answer (run_state o t s run) p
run_state o t s (then_close {past = past} {before = before} {after = after} {statement = statement} {written = written} {answer = answer} run p) =
    close-kept o t past before after statement written answer (run_state o t s run) p

-- an accepted opening leaves a new book
pub opening-state : (o : Terms) (lent start : List ℤ) (answer : OpenAnswer) → OpenPromise o lent answer start → (of_open answer).number ≡ accepted → InTerms o × State o [] start
opening-state o lent start answer p e =
    let x = accepted-opening o lent (subst (λ (y : Answer). y.number ≡ accepted) p.answered e) in
    let t = opened-terms o x.0 in
    (t, rw (p.book_after, x.2) (new_state o t lent x.1))

demanded : (o : Terms) (past : List Event) (book : List ℤ) → State o past book → Demand3 o book past
demanded o past book h = record {
  balances = h.holds.balances;
  total = rw h.holds.mssl (ap (λ (x : ℤ). x +ℤ neg_ℤ (sum_ℤ o.accounts (formula_balance o past)))
      (sum_ℤ-cong o.accounts (λ a. word book (balance_word a)) (formula_balance o past) h.holds.balances) ∙ +ℤ_invr (sum_ℤ o.accounts (formula_balance o past)));
  differences = h.holds.differences;
  returned = h.returned;
  residuals = h.counted;
  reported = h.reported;
}

pub demand3 : Demand3Holds
demand3 o lent start answer p e past book run = let x = opening-state o lent start answer p e in demanded o past book (run_state o x.0 x.1 run)

pub demand3-on_calls : Demand3OnCalls
demand3-on_calls o lent e calls =
    demand3 o lent (opened o lent).words (opened o lent).answer (record { answered = refl; book_after = refl }) e
    (history_of (opened o lent).words calls) (book_of (opened o lent).words calls) (run_of (opened o lent).words calls)
