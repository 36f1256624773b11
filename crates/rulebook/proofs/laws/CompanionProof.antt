-- The companion of demand 3, by induction on the run. Assumes nothing.
use Rattle.std.specs.Prelude.{◌≡◌, refl, ◌≢◌, Bool, not, List, [], ℕ, ◌+◌, ◌≤◌, ℤ, ltb, length, Option, Some, None, Ok, Err}
use Rattle.std.proofs.Math.Path.{sym, ap}
use Rattle.std.proofs.Common.{◌∙◌, subst, arith, nltb→le}
use Rattle.std.proofs.Math.Bool.{true, false}
use Rattle.std.proofs.Math.IntN.{neg_ℤ}
use Rattle.std.proofs.Math.Dec.{T}
use Rattle.integer.specs.Below.{sum_ℤ}
use Rattle.integer.proofs.laws.BelowLaws.{sum_ℤ-cong}
use Rattle.rulebook.specs.Answers.{SubmitAnswer, CloseAnswer}
use Rattle.rulebook.specs.declared.Terms.{Terms}
use Rattle.rulebook.specs.declared.Why.{Why}
use Rattle.rulebook.specs.declared.Why.TheVariants.{NotWhole, OutOfRange, DayNotOpen, Repeated, Excess}
use Rattle.rulebook.specs.Judging.{Verdict, refused}
use Rattle.rulebook.specs.declared.CloseError.TheVariants.{Finished, NoRoom, DatumMissing}
use Rattle.rulebook.specs.Units.{last_day}
use Rattle.rulebook.specs.DayAmount.{mssl_amount}
use Rattle.rulebook.specs.Terms.{InTerms}
use Rattle.rulebook.specs.Layout.{size}
use Rattle.rulebook.specs.File.{file_rows}
use Rattle.rulebook.specs.Judging.{limits_of, judged}
use Rattle.rulebook.specs.Submit.{Submission, submitted, taken}
use Rattle.rulebook.specs.Close.{Closing, close_refused, closed_by, closed, settled, posted, posted_to_mssl, first_missing, residual_count}
use Rattle.rulebook.specs.Numbers.{Answer, accepted, not_well_formed, why_number, of_verdict, of_submit, of_close}
use Rattle.rulebook.specs.History.{Event, closes, closing_day, formula_amount}
use Rattle.rulebook.specs.Promises.{SubmitPromise, ClosePromise, Run, begun, then_submit, then_close}
use Rattle.rulebook.specs.Companion.{first_lacking, search_answered, close_told, SubmitTells, CloseTells, EachTold, CompanionHolds}
use Rattle.rulebook.specs.Ledger.{State}
use Rattle.rulebook.proofs.laws.SoundLaws.{file-sound}
use Rattle.rulebook.proofs.laws.FormLaws.{ring-pos}
use Rattle.rulebook.proofs.laws.SearchLaws.{search_is}
use Rattle.rulebook.proofs.laws.StepLaws.{storable}
use Rattle.rulebook.proofs.laws.BeyondLaws.{kept-all, rows-beyond, closed-beyond, statement-beyond, statement-amount, statement-mssl}
use Rattle.rulebook.proofs.laws.StateLaws.{terms, submit-is}
use Rattle.rulebook.proofs.laws.CloseStateLaws.{close-is, amount-same, difference-same}
use Rattle.rulebook.proofs.laws.Demand3Proof.{run_state, opening-state}

not_3 : (why : Why) → why_number why ≢ not_well_formed
not_3 NotWhole e = omega arith
not_3 OutOfRange e = omega arith
not_3 DayNotOpen e = omega arith
not_3 Repeated e = omega arith
not_3 Excess e = omega arith

module _ (o : Terms) (t : InTerms o) (past : List Event) (w : List ℤ) (h : State o past w) where
  -- ---- submit
  submit-by : (file : List ℕ) (v : Verdict) → judged (limits_of o (closing_day o past)) file ≡ v → SubmitTells o past w file (of_submit (taken w file v).answer) (taken w file v).words
  submit-by file (Ok tt) e = record {
    answered = ap of_verdict (sym e);
    well_formed = λ x. omega arith;
    refused = λ x. absurd (x refl);
    beyond = rw (terms o t past w h) (rows-beyond o (ring-pos o t) (closes past) (file_rows file) w
        (storable o (closes past) t.horizon_from (file_rows file) (file-sound (limits_of o (closing_day o past)) t.accounts_from file e)));
  }
  submit-by file (Err r) e = record {
    answered = ap of_verdict (sym e);
    well_formed = not_3 r.why;
    refused = λ x. refl;
    beyond = kept-all (size o) w;
  }

  pub submit-tells : (file : List ℕ) → SubmitTells o past w file (of_submit (submitted w file).answer) (submitted w file).words
  submit-tells file = subst (λ (r : Submission). SubmitTells o past w file (of_submit r.answer) r.words) (sym (submit-is o t past w h file))
      (submit-by file (judged (limits_of o (closing_day o past)) file) refl)

  -- ---- close
  lacking-is : first_missing o w (closing_day o past) ≡ first_lacking o past
  unfolding first_lacking
  lacking-is = search_is o t past w h

  abbrev Tells : List ℤ → Closing → Type 0
  Tells st r = CloseTells o past w st (of_close r.answer) r.words r.statement

  -- a refused close leaves book and statement as they were
  refused-tells : (st : List ℤ) (answer : CloseAnswer) → of_close answer ≡ close_told o past st → (of_close answer).number ≢ not_well_formed → (of_close answer).number ≢ accepted
      → Tells st (close_refused w st answer)
  refused-tells st answer told formed refused = record {
    answered = told;
    well_formed = formed;
    refused = λ x. (refl, refl);
    amounts = λ x. absurd (refused x);
    mssl = λ x. absurd (refused x);
    beyond = kept-all (size o) w;
    statement_beyond = kept-all (o.accounts + 1) st;
  }

  settled-by : (st : List ℤ) → o.accounts + 1 ≤ length st → (x : Option ℕ) → close_told o past st ≡ search_answered o past x → Tells st (settled o w (closing_day o past) st x)
  unfolding settled
  settled-by st room None e = record {
    answered = sym (e ∙ ap answered (sym (difference-same o t past w h)));
    well_formed = λ x. omega arith;
    refused = λ x. absurd (x refl);
    amounts = λ x a ha. statement-amount o w (closing_day o past) st room a ha ∙ amount-same o t past w h a ha;
    mssl = λ x. statement-mssl o w (closing_day o past) st room ∙ mssl-is;
    beyond = closed-beyond o (ring-pos o t) w (closing_day o past);
    statement_beyond = statement-beyond o w (closing_day o past) st;
  }
    where
      -- with the rounding difference of the book
      answered : ℤ → Answer
      answered z = record { number = accepted; position = 0; day = closing_day o past; count = residual_count o (closing_day o past); difference = z }

      mssl-is : posted_to_mssl o w (closing_day o past) ≡ neg_ℤ (sum_ℤ o.accounts (formula_amount o past))
      mssl-is = unfold posted_to_mssl posted mssl_amount in ap neg_ℤ (sum_ℤ-cong o.accounts (posted o w (closing_day o past)) (formula_amount o past) (amount-same o t past w h))
  settled-by st room (Some n) e = refused-tells st (Err (DatumMissing n)) (sym e) (λ x. omega arith) (λ x. omega arith)

  close-by : (st : List ℤ) (a b : Bool) → ltb last_day (closing_day o past) ≡ a → ltb (length st) (o.accounts + 1) ≡ b
      → Tells st (closed_by o w (closing_day o past) st true a b (first_missing o w (closing_day o past)))
  unfolding close_told
  close-by st true b x y = refused-tells st (Err Finished) (rw x refl) (λ z. omega arith) (λ z. omega arith)
  close-by st false true x y = refused-tells st (Err NoRoom) (rw (x, y) refl) (λ z. omega arith) (λ z. omega arith)
  close-by st false false x y =
      settled-by st (nltb→le (length st) (o.accounts + 1) (subst (λ (b : Bool). T (not b)) (sym y) tt)) (first_missing o w (closing_day o past)) (rw (x, y, lacking-is) refl)

  pub close-tells : (st : List ℤ) → Tells st (closed w st)
  close-tells st = subst (Tells st) (sym (close-is o t past w h st))
      (close-by st (ltb last_day (closing_day o past)) (ltb (length st) (o.accounts + 1)) refl refl)

-- ---- The run

submit-told : (o : Terms) (t : InTerms o) (past : List Event) (before after : List ℤ) (file : List ℕ) (answer : SubmitAnswer) → State o past before → SubmitPromise before file answer after
    → SubmitTells o past before file (of_submit answer) after
submit-told o t past before after file answer h p = rw (p.answered, p.book_after) (submit-tells o t past before h file)

close-told : (o : Terms) (t : InTerms o) (past : List Event) (before after statement written : List ℤ) (answer : CloseAnswer) → State o past before → ClosePromise before statement answer after written
    → CloseTells o past before statement (of_close answer) after written
close-told o t past before after statement written answer h p = rw (p.answered, p.book_after, p.statement_after) (close-tells o t past before h statement)

each_told : {start : List ℤ} {past : List Event} {book : List ℤ} (o : Terms) (t : InTerms o) (s : State o [] start) (run : Run start past book) → EachTold o run
each_told o t s begun = tt
each_told o t s (then_submit {past = past} {before = before} {after = after} {file = file} {answer = answer} run p) =
    (submit-told o t past before after file answer (run_state o t s run) p, each_told o t s run)
each_told o t s (then_close {past = past} {before = before} {after = after} {statement = statement} {written = written} {answer = answer} run p) =
    (close-told o t past before after statement written answer (run_state o t s run) p, each_told o t s run)

pub companion : CompanionHolds
companion o lent start answer p e past book run = let x = opening-state o lent start answer p e in each_told o x.0 x.1 run
