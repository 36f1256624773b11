-- Each submission keeps what is true of a book after a history. Assumes nothing.
use Rattle.std.specs.Prelude.{◌≡◌, Bool, true, false, cond, List, [], ◌∷◌, ℕ, suc, ◌*◌, ◌≤◌, ℤ, ◌+ℤ◌, nat_abs, eqb, Ok, Err}
use Rattle.std.proofs.Math.Path.{refl, ap, fun_ext}
use Rattle.std.proofs.Common.{sym, ◌∙◌, subst, arith}
use lib.IntN.{+ℤ_idr}
use Rattle.rulebook.specs.declared.Terms.{Terms}
use Rattle.rulebook.specs.declared.Limits.{Limits}
use Rattle.rulebook.specs.declared.Why.{Why}
use Rattle.rulebook.specs.declared.Why.TheVariants.{NotWhole, OutOfRange, DayNotOpen, Repeated, Excess}
use Rattle.rulebook.specs.Judging.{Verdict}
use Rattle.rulebook.specs.declared.SubmitError.TheVariants.{FileRefused}
use Rattle.rulebook.specs.Terms.{InTerms}
use Rattle.rulebook.specs.BookData.{terms_of, next_day}
use Rattle.rulebook.specs.WellFormed.{difference_bound, well_formed}
use Rattle.rulebook.specs.File.{file_rows}
use Rattle.rulebook.specs.Judging.{limits_of, judged}
use Rattle.rulebook.specs.Submit.{taken, submitted, Submission}
use Rattle.rulebook.specs.Numbers.{why_number, accepted, of_submit}
use Rattle.rulebook.specs.History.{latest, submit, Event, closes, in_force, accepted_rows, last_for, accepted_close, formula_balance, formula_difference, formula_differences, residual_counts, returned_differences, closing_day, data_in_force}
use Rattle.rulebook.specs.Demand3.{Reported}
use Rattle.rulebook.specs.Ledger.{ledger_after, State}
use Rattle.rulebook.proofs.laws.TestLaws.{T-path}
use Rattle.rulebook.proofs.laws.DayAmountLaws.{difference-parts}
use Rattle.rulebook.proofs.laws.SumLaws.{sum-grown}
use Rattle.rulebook.proofs.laws.LedgerLaws.{held_same, rows-held}
use Rattle.rulebook.proofs.laws.SoundLaws.{file-sound}
use Rattle.rulebook.proofs.laws.FormLaws.{Fit, terms-of, next_day_lem, well_formed_lem, ring-pos}
use Rattle.rulebook.proofs.laws.StepLaws.{storable, kept-fit, file-kept, kept_same, newer-entries}

pub never-accepted : (why : Why) → eqb (why_number why) accepted ≡ false
never-accepted NotWhole = refl
never-accepted OutOfRange = refl
never-accepted DayNotOpen = refl
never-accepted Repeated = refl
never-accepted Excess = refl

-- the closed days' rounding differences, within N × 500 a day
differences-bounded : (o : Terms) (past : List Event) → nat_abs (formula_differences o past) ≤ o.accounts * (closes past * difference_bound)
unfolding formula_differences closes
differences-bounded o [] = omega arith
differences-bounded o (e ∷ past) = go (differences-bounded o past) (accepted_close e)
  where
    go : nat_abs (formula_differences o past) ≤ o.accounts * (closes past * difference_bound) → (b : Bool) → nat_abs (cond b (formula_differences o past +ℤ formula_difference o past) (formula_differences o past)) ≤ o.accounts * (cond b (suc (closes past)) (closes past) * difference_bound)
    go h true = sum-grown difference_bound o.accounts (closes past) (formula_differences o past) (formula_difference o past) h
        (unfold formula_difference in (difference-parts o (data_in_force (in_force past)) (closing_day o past)).within)
    go h false = h

-- a call that leaves the book, and of which the history tells nothing new but its answer
pub unchanged : (o : Terms) (past : List Event) (w : List ℤ) → State o past w → (e : Event) → closes (e ∷ past) ≡ closes past → in_force (e ∷ past) ≡ in_force past
    → formula_balance o (e ∷ past) ≡ formula_balance o past → formula_differences o (e ∷ past) ≡ formula_differences o past
    → residual_counts (e ∷ past) ≡ residual_counts past → returned_differences (e ∷ past) ≡ returned_differences past → Reported o e.call e.answer past → State o (e ∷ past) w
unchanged o past w h e closed rows balance difference counts returned reported = record {
  holds = rw (closed, rows, balance, difference) h.holds;
  kept = rw (closed, rows, balance) h.kept;
  counted = rw (closed, counts) h.counted;
  returned = rw (difference, returned) h.returned;
  reported = (reported, h.reported);
}

module _ (o : Terms) (t : InTerms o) (past : List Event) (w : List ℤ) (h : State o past w) where
  fit : Fit o (ledger_after o past)
  fit = kept-fit o (closes past) (in_force past) (formula_balance o past) h.kept (formula_differences o past) (differences-bounded o past)

  pub formed : well_formed w ≡ true
  formed = T-path (well_formed w) (well_formed_lem o t (ledger_after o past) w h.holds fit)

  pub terms : terms_of w ≡ o
  terms = terms-of o t (ledger_after o past) w h.holds fit

  pub next : next_day w ≡ closing_day o past
  next = next_day_lem o t (ledger_after o past) w h.holds fit

  -- ---- submit
  -- what a submission answers and leaves
  pub submit-is : (file : List ℕ) → submitted w file ≡ taken w file (judged (limits_of o (closing_day o past)) file)
  unfolding submitted
  submit-is file = rw formed (ap (λ (l : Limits). taken w file (judged l file)) (ap (λ (x : Terms). limits_of x (next_day w)) terms ∙ ap (limits_of o) next))

  submit-done : (file : List ℕ) (v : Verdict) → judged (limits_of o (closing_day o past)) file ≡ v
      → State o (record { call = submit file; answer = of_submit (taken w file v).answer } ∷ past) (taken w file v).words
  unfolding closes in_force accepted_rows formula_balance formula_differences residual_counts returned_differences latest last_for
  submit-done file (Ok tt) e =
      let s = file-sound (limits_of o (closing_day o past)) t.accounts_from file e in
      record {
        holds = held_same refl (λ s a d i j. newer-entries (file_rows file) (in_force past) s a d i j) (λ a ha. refl) refl refl
            (rw terms (rows-held o (ring-pos o t) (file_rows file) (ledger_after o past) w (storable o (closes past) t.horizon_from (file_rows file) s) h.holds));
        kept = kept_same (λ s a d. refl) (file-kept o (closes past) (in_force past) (formula_balance o past) h.kept t.horizon_from (file_rows file) s);
        counted = h.counted;
        returned = +ℤ_idr (returned_differences past) ∙ h.returned;
        reported = (tt, h.reported);
      }
  submit-done file (Err r) e = unchanged o past w h _ refl same refl refl refl (+ℤ_idr (returned_differences past)) tt
    where
      same : in_force (record { call = submit file; answer = of_submit (Err (FileRefused r)) } ∷ past) ≡ in_force past
      same = fun_ext (λ s. fun_ext (λ a. fun_ext (λ d. ap (λ (b : Bool). latest (last_for (cond b (file_rows file) []) s a d) (in_force past s a d)) (never-accepted r.why))))

  pub submit-step : (file : List ℕ) → State o (record { call = submit file; answer = of_submit (submitted w file).answer } ∷ past) (submitted w file).words
  submit-step file = subst (λ (r : Submission). State o (record { call = submit file; answer = of_submit r.answer } ∷ past) r.words) (sym (submit-is file))
      (submit-done file (judged (limits_of o (closing_day o past)) file) refl)
