-- What a submission to a lent book returns: 3 exactly where the book is not well formed, else the judge's number by the table. Assumes nothing.
use Rattle.std.specs.Prelude.{◌≡◌, refl, Bool, true, false, cond, List, ◌≢◌, ◌↔◌, ℕ, ◌<◌, T, ℤ, Ok, Err}
use Rattle.std.proofs.Common.{sym, ap, ◌∙◌}
use native.Mathlib.Omega.{arith}
use Rattle.rulebook.specs.Judging.{Verdict}
use Rattle.rulebook.specs.declared.Why.{Why}
use Rattle.rulebook.specs.declared.Why.TheVariants.{NotWhole, OutOfRange, DayNotOpen, Repeated, Excess}
use Rattle.rulebook.specs.declared.SubmitError.TheVariants.{IllFormed}
use Rattle.rulebook.specs.BookData.{terms_of, next_day}
use Rattle.rulebook.specs.WellFormed.{well_formed}
use Rattle.rulebook.specs.Judging.{limits_of, judged}
use Rattle.rulebook.specs.Submit.{taken, submitted}
use Rattle.rulebook.specs.Numbers.{Answer, accepted, not_well_formed, numbered, why_number, of_verdict, of_submit}
use Rattle.rulebook.specs.Checks.{NoneStrikes, FirstStrikes}
use Rattle.rulebook.specs.FileTable.{checks}
use Rattle.rulebook.proofs.laws.TestLaws.{T-path}
use Rattle.rulebook.proofs.laws.FormedLaws.{opened_of}
use Rattle.rulebook.proofs.laws.StrikeLaws.{told-accepted, refused-exactly, accepted-clear}

module _ (w : List ℤ) (file : List ℕ) where
  pub submit-ill_formed : (of_submit (submitted w file).answer ≡ numbered not_well_formed 0) ↔ (well_formed w ≡ false)
  unfolding submitted
  submit-ill_formed = (go (well_formed w) (judged (limits_of (terms_of w) (next_day w)) file), λ e. rw e)
    where
      other : (why : Why) → why_number why ≢ not_well_formed
      other NotWhole e = omega arith
      other OutOfRange e = omega arith
      other DayNotOpen e = omega arith
      other Repeated e = omega arith
      other Excess e = omega arith

      go : (b : Bool) (v : Verdict) → of_submit (cond b (taken w file v) (record { answer = (Err IllFormed); words = w })).answer ≡ numbered not_well_formed 0 → b ≡ false
      go false v e = refl
      go true (Ok tt) e = absurd (let z : ◌≡◌ {A = ℕ} 0 3 = ap (λ (y : Answer). y.number) e in omega arith)
      go true (Err r) e = absurd (other r.why (ap (λ (y : Answer). y.number) e))

  module _ (t : T (well_formed w)) where
    told : (v : Verdict) → of_submit (taken w file v).answer ≡ of_verdict v
    told (Ok tt) = refl
    told (Err r) = refl

    judged-told : of_submit (submitted w file).answer ≡ of_verdict (judged (limits_of (terms_of w) (next_day w)) file)
    unfolding submitted
    judged-told = rw (T-path (well_formed w) t) (told (judged (limits_of (terms_of w) (next_day w)) file))

    pub submit-refused : (n p : ℕ) → 0 < n → (of_submit (submitted w file).answer ≡ numbered n p) ↔ FirstStrikes (checks (terms_of w) (next_day w) file) n p
    submit-refused n p h =
        let r = refused-exactly (terms_of w) (opened_of w t) (next_day w) file n p h in
        ((λ e. r.0 (sym judged-told ∙ e)), (λ f. judged-told ∙ r.1 f))

    pub submit-accepted : (of_submit (submitted w file).answer ≡ numbered accepted 0) ↔ NoneStrikes (checks (terms_of w) (next_day w) file)
    submit-accepted =
        let r = accepted-clear (terms_of w) (opened_of w t) (next_day w) file in
        ((λ e. r.0 (told-accepted (judged (limits_of (terms_of w) (next_day w)) file) (sym judged-told ∙ e))), (λ f. judged-told ∙ ap of_verdict (r.1 f)))
