-- At each field the judge says what the first of the table's conditions says. Assumes nothing.
use Rattle.std.specs.Prelude.{◌≡◌, Bool, true, false, cond, not, ◌||◌, ℕ, ◌+◌, ◌-◌, ◌≤◌, ltb, leb, ℤ, length, Ok, Err}
use Rattle.std.proofs.Math.Path.{refl, sym, ap}
use Rattle.std.proofs.Common.{◌∙◌, ⊎_elim, arith}
use mathlib.Core.List.{List, [], ◌∷◌, flat_map}
use borrow.Author.Tests.{lt-ltb, le-ltb, le-leb, lt-leb}
use Rattle.std.specs.Int.Signed.{le_z, lt_z}
use Rattle.integer.specs.Below.{any}
use Rattle.integer.proofs.laws.BelowLaws.{lt_or_le}
use Rattle.rulebook.specs.declared.Section.{Section}
use Rattle.rulebook.specs.declared.Section.TheVariants.{Vesting, Meter, Residual, Ncc}
use Rattle.rulebook.specs.declared.Terms.{Terms}
use Rattle.rulebook.specs.declared.Why.{Why}
use Rattle.rulebook.specs.declared.Why.TheVariants.{OutOfRange, DayNotOpen, Repeated, Excess}
use Rattle.rulebook.specs.Judging.{Verdict}
use Rattle.rulebook.specs.Terms.{InTerms}
use Rattle.rulebook.specs.Units.{in_range}
use Rattle.rulebook.specs.File.{Figure, num, value_at}
use Rattle.rulebook.specs.Judging.{require, ◌and_then◌, open_from, limits_of, whole, field_in}
use Rattle.rulebook.specs.Numbers.{Answer, numbered, why_number}
use Rattle.rulebook.specs.Proper.{least, most, same_key}
use Rattle.rulebook.specs.FileTable.{Field, RowCount, Account, Day, TrancheCount, FacilityCount, Value, EndOfFile, late, shut, checks_of}
use Rattle.rulebook.proofs.laws.TestLaws.{ltb-not, lt_z-not, not_and, not_not}
use Rattle.rulebook.proofs.laws.FirstCheckLaws.{first_or, first-append}
use Rattle.rulebook.proofs.laws.IntervalLaws.{kind_of_figure}
use Rattle.rulebook.proofs.laws.FigureRangeLaws.{kind-range}

-- ---- Answers in order

-- the answer of a verdict, and a where it is accepted
unfoldable pub told_or : Verdict → Answer → Answer
told_or (Ok tt) a = a
told_or (Err r) a = numbered (why_number r.why) r.at

pub told-then : (x y : Verdict) (a : Answer) → told_or (x and_then y) a ≡ told_or x (told_or y a)
unfolding told_or
told-then (Ok tt) y a = refl
told-then (Err r) y a = refl

told-require : (b : Bool) (w : Why) (p : ℕ) (a : Answer) → told_or (require b w p) a ≡ cond (not b) (numbered (why_number w) p) a
unfolding told_or
told-require true w p a = refl
told-require false w p a = refl

-- ---- Tests

cond-or : (a b : Bool) (x y : Answer) → cond (a || b) x y ≡ cond a x (cond b x y)
cond-or true b x y = refl
cond-or false b x y = refl

few-not : (n a : ℕ) → 1 ≤ n → leb n a ≡ not (leb a (n - 1))
few-not n a h = ⊎_elim (λ l. rw (lt-leb n a l, le-leb a (n - 1) (omega arith))) (λ l. rw (le-leb n a l, lt-leb a (n - 1) (omega arith))) (lt_or_le a n)

-- the days that are not open are those outside the limits
late_is : (o : Terms) (C d : ℕ) → 1 ≤ o.horizon → late o C d ≡ not (leb d (limits_of o C).last)
late_is o C d h =
    ⊎_elim (λ l. ⊎_elim
    (λ m. rw (lt-leb (C + o.horizon) d l, lt-ltb 36524 d m, lt-leb d (limits_of o C).last (omega arith)))
    (λ m. rw (lt-leb (C + o.horizon) d l, le-ltb 36524 d m, le-leb d (limits_of o C).last (omega arith))) (lt_or_le 36524 d))
    (λ l. rw (le-leb (C + o.horizon) d l, lt-leb d (limits_of o C).last (omega arith)))
    (lt_or_le d (C + o.horizon))

early-is : (o : Terms) (C d : ℕ) → (ltb d o.first || ltb (d + o.lag) C) ≡ not (leb (limits_of o C).earliest d)
early-is o C d =
    ⊎_elim (λ l. rw (lt-ltb d o.first l, lt-leb (limits_of o C).earliest d (omega arith)))
    (λ l. ⊎_elim
    (λ m. rw (le-ltb d o.first l, lt-ltb (d + o.lag) C m, lt-leb (limits_of o C).earliest d (omega arith)))
    (λ m. rw (le-ltb d o.first l, le-ltb (d + o.lag) C m, le-leb (limits_of o C).earliest d (omega arith))) (lt_or_le (d + o.lag) C))
    (lt_or_le d o.first)

shut-is : (o : Terms) (C : ℕ) (sec : Section) (d : ℕ) → 1 ≤ o.horizon → shut o C sec d ≡ not (leb (open_from (limits_of o C) sec) d) || not (leb d (limits_of o C).last)
shut-is o C Vesting d h = ap (λ b. b || late o C d) (ltb-not d C) ∙ ap (λ b. not (leb C d) || b) (late_is o C d h)
shut-is o C Meter d h = ap (λ b. b || late o C d) (ltb-not d C) ∙ ap (λ b. not (leb C d) || b) (late_is o C d h)
shut-is o C Residual d h = ap (λ b. b || late o C d) (early-is o C d) ∙ ap (λ b. not (leb (limits_of o C).earliest d) || b) (late_is o C d h)
shut-is o C Ncc d h = ap (λ b. b || late o C d) (early-is o C d) ∙ ap (λ b. not (leb (limits_of o C).earliest d) || b) (late_is o C d h)

-- a figure outside its range
outside-is : (g : Figure) (v : ℤ) → (lt_z v (least g) || lt_z (most g) v) ≡ not (in_range (kind_of_figure g) v)
outside-is g v = rw (kind-range g v, lt_z-not v (least g), lt_z-not (most g) v) (sym (not_and (le_z (least g) v) (le_z v (most g))))

-- ---- What the judge says at a field

module _ (o : Terms) (C : ℕ) (s : List ℕ) where
  unfoldable pub verdict_at : Field → Verdict
  verdict_at (RowCount at) = whole 2 s at
  verdict_at (Account at) = field_in 1 0 (o.accounts - 1) OutOfRange s at
  verdict_at (Day sec rows i at) =
      field_in 2 (open_from (limits_of o C) sec) (limits_of o C).last DayNotOpen s at and_then require (not (any i (λ j. same_key (rows j) (rows i)))) Repeated at
  verdict_at (TrancheCount at) = field_in 1 0 3 OutOfRange s at
  verdict_at (FacilityCount at) = field_in 1 1 4 OutOfRange s at
  verdict_at (Value g at) = whole 4 s at and_then require (in_range (kind_of_figure g) (value_at s at)) OutOfRange at
  verdict_at (EndOfFile at) = whole 0 s at and_then require (leb (length s) at) Excess at

  pub field_told : InTerms o → (f : Field) (a : Answer) → first_or numbered (checks_of o C s f) a ≡ told_or (verdict_at f) a
  unfolding first_or verdict_at field_in
  field_told t (RowCount at) a = rw (told-require, ltb-not (length s) (at + 2))
  field_told t (Account at) a =
      simp (told-then, told-require) (rw (ltb-not (length s) (at + 1), few-not o.accounts (num 1 s at) t.accounts_from, le-leb 0 (num 1 s at) (omega arith)))
  field_told t (Day sec rows i at) a =
      simp (told-then, told-require) (rw (ltb-not (length s) (at + 2), shut-is o C sec (num 2 s at) t.horizon_from, cond-or, not_not))
  field_told t (TrancheCount at) a =
      simp (told-then, told-require) (rw (ltb-not (length s) (at + 1), ltb-not 3 (num 1 s at), le-leb 0 (num 1 s at) (omega arith)))
  field_told t (FacilityCount at) a =
      simp (told-then, told-require) (rw (ltb-not (length s) (at + 1), ltb-not 4 (num 1 s at), ltb-not (num 1 s at) 1, cond-or))
  field_told t (Value g at) a = simp (told-then, told-require) (rw (ltb-not (length s) (at + 4), outside-is g (value_at s at)))
  field_told t (EndOfFile at) a = simp (told-then, told-require) (rw (ltb-not (length s) (at + 0), ltb-not at (length s)))

  -- and at fields in order
  unfoldable pub verdicts : List Field → Verdict
  verdicts [] = (Ok tt)
  verdicts (f ∷ fs) = verdict_at f and_then verdicts fs

  pub fields_told : InTerms o → (fs : List Field) (a : Answer) → first_or numbered (flat_map (checks_of o C s) fs) a ≡ told_or (verdicts fs) a
  unfolding flat_map verdicts
  fields_told t [] a = unfold first_or told_or in refl
  fields_told t (f ∷ fs) a =
      first-append numbered (checks_of o C s f) _ a ∙ field_told t f _ ∙ ap (told_or (verdict_at f)) (fields_told t fs a) ∙ sym (told-then (verdict_at f) (verdicts fs) a)
