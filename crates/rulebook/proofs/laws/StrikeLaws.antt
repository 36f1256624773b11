-- The judge's number is that of the first check that strikes. Rests on TableLaws and FieldVerdictLaws. Assumes nothing.
use Rattle.std.specs.Prelude.{◌≡◌, refl, List, ◌↔◌, ℕ, ◌<◌, Ok, Err}
use Rattle.std.proofs.Common.{sym, ap, ◌∙◌, arith}
use Rattle.integer.specs.Below.{Each}
use Rattle.integer.proofs.laws.BelowLaws.{each_flat}
use Rattle.rulebook.specs.declared.Terms.{Terms}
use Rattle.rulebook.specs.declared.Why.{Why}
use Rattle.rulebook.specs.declared.Why.TheVariants.{NotWhole, OutOfRange, DayNotOpen, Repeated, Excess}
use Rattle.rulebook.specs.Judging.{Verdict}
use Rattle.rulebook.specs.Terms.{InTerms}
use Rattle.rulebook.specs.Judging.{limits_of, judged}
use Rattle.rulebook.specs.Numbers.{Answer, accepted, numbered, why_number, of_verdict}
use Rattle.rulebook.specs.Checks.{NoneStrikes, FirstStrikes}
use Rattle.rulebook.specs.FileTable.{Field, RowCount, Account, Day, TrancheCount, FacilityCount, Value, EndOfFile, fields_of, checks_of, checks}
use Rattle.rulebook.proofs.laws.FirstCheckLaws.{first_or, first-none, first-shows, first_finds, first-clear}
use Rattle.rulebook.proofs.laws.FieldVerdictLaws.{told_or, fields_told}
use Rattle.rulebook.proofs.laws.TableLaws.{judged-verdicts}

abbrev number_of : Answer → ℕ
number_of a = a.number

abbrev position-of : Answer → ℕ
position-of a = a.position

told_is : (v : Verdict) → told_or v (numbered accepted 0) ≡ of_verdict v
unfolding told_or
told_is (Ok tt) = refl
told_is (Err r) = refl

pub told-accepted : (v : Verdict) → of_verdict v ≡ numbered accepted 0 → v ≡ (Ok tt)
told-accepted (Ok tt) e = refl
told-accepted (Err r) e = absurd (refusing r.why (ap (λ (a : Answer). a.number) e))
  where
    refusing : (w : Why) → why_number w ≡ 0 → ⊥
    refusing NotWhole z = omega arith
    refusing OutOfRange z = omega arith
    refusing DayNotOpen z = omega arith
    refusing Repeated z = omega arith
    refusing Excess z = omega arith

module _ (o : Terms) (terms : InTerms o) (C : ℕ) (s : List ℕ) where
  first-told : first_or numbered (checks o C s) (numbered accepted 0) ≡ of_verdict (judged (limits_of o C) s)
  first-told =
      fields_told o C s terms (fields_of s) (numbered accepted 0)
      ∙ ap (λ v. told_or v (numbered accepted 0)) (sym (judged-verdicts o C s))
      ∙ told_is (judged (limits_of o C) s)

  field-numbered : (f : Field) → Each (λ c. 0 < c.number) (checks_of o C s f)
  field-numbered (RowCount at) = (omega arith, tt)
  field-numbered (Account at) = (omega arith, (omega arith, tt))
  field-numbered (Day sec rows i at) = (omega arith, (omega arith, (omega arith, tt)))
  field-numbered (TrancheCount at) = (omega arith, (omega arith, tt))
  field-numbered (FacilityCount at) = (omega arith, (omega arith, tt))
  field-numbered (Value g at) = (omega arith, (omega arith, tt))
  field-numbered (EndOfFile at) = (omega arith, (omega arith, tt))

  pub refused-exactly : (n p : ℕ) → 0 < n → (of_verdict (judged (limits_of o C) s) ≡ numbered n p) ↔ FirstStrikes (checks o C s) n p
  refused-exactly n p h = (
    (λ e. first_finds numbered number_of position-of (λ n p. refl) (λ n p. refl) (numbered accepted 0) refl (checks o C s) n p h (first-told ∙ e)),
    (λ f. sym first-told ∙ first-shows numbered (checks o C s) (numbered accepted 0) n p f),
  )

  pub accepted-clear : (judged (limits_of o C) s ≡ (Ok tt)) ↔ NoneStrikes (checks o C s)
  accepted-clear = (
    (λ e. first-clear numbered number_of position-of (λ n p. refl) (λ n p. refl) (numbered accepted 0) refl (checks o C s) (each_flat (λ c. 0 < c.number) (checks_of o C s) field-numbered (fields_of s)) (ap number_of (first-told ∙ ap of_verdict e))),
    (λ f. told-accepted (judged (limits_of o C) s) (sym first-told ∙ first-none numbered (checks o C s) (numbered accepted 0) f)),
  )
