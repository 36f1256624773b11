-- Laws of business days: the n-th after a day is found, and there is one at most; where a holiday list has a day. Assumes nothing.
use Rattle.std.proofs.Math.Path.{◌≡◌, refl, ap}
use Rattle.std.proofs.Common.{◌∙◌}
use Rattle.std.proofs.Math.Bool.{Bool, true, false, cond}
use Rattle.std.proofs.Math.Logic.{⊎_elim}
use Prim.Native.Nat.{ℕ, ◌+◌, ◌-◌, ◌≤◌, ◌<◌}
use native.Mathlib.Omega.{arith}
use borrow.Author.Tests.{ltb-true, lt-ltb, eqb-true, eq-eqb}
use Rattle.std.specs.Int.{from_bool}
use Rattle.std.specs.Prelude.{ltb, Option, Some, None}
use Rattle.integer.specs.Below.{fold, count}
use Rattle.integer.proofs.laws.BelowLaws.{and-true, either, lt_or_le, first_stops, first-nothing, nothing-first, first-at}
use Rattle.rulebook.specs.Units.{last_day}
use Rattle.integer.proofs.laws.CountLaws.{count-suc, count-mono}
use Rattle.std.specs.Option.{ok_or}
use Rattle.calendar.specs.declared.CalendarError.TheVariants.{PastLastDay}
use Rattle.calendar.specs.Calendar.{days_after, is_nth_after, nth_after, day_returned, up_to_last_day}

-- ---- How many days after d pass a test

pub from_bool-le : (b : Bool) → from_bool b ≤ 1
from_bool-le true = omega arith
from_bool-le false = omega arith

module _ (test : ℕ → Bool) (d : ℕ) where
  pub days_after-none : (e : ℕ) → e ≤ d → days_after test d e ≡ 0
  unfolding days_after fold
  days_after-none e h = let z : e - d ≡ 0 = omega arith in rw z

  pub days_after-suc : (e : ℕ) → d ≤ e → days_after test d (e + 1) ≡ days_after test d e + cond (test (e + 1)) 1 0
  unfolding days_after
  days_after-suc e h =
      let p : ℕ → Bool = λ k. test (d + 1 + k) in
      let n : e + 1 - d ≡ e - d + 1 = omega arith in
      let i : d + 1 + (e - d) ≡ e + 1 = omega arith in
      ap (λ k. count k p) n ∙ count-suc (e - d) p ∙ ap (λ k. count (e - d) p + cond (test k) 1 0) i

  -- one day more, by the test as a number
  pub days_after-next : (e : ℕ) → d ≤ e → days_after test d (e + 1) ≡ days_after test d e + from_bool (test (e + 1))
  days_after-next e h = days_after-suc e h ∙ ap (λ n. days_after test d e + n) (as_number (test (e + 1)))
    where
      as_number : (b : Bool) → ◌≡◌ {A = ℕ} (cond b 1 0) (from_bool b)
      as_number true = refl
      as_number false = refl

  pub days_after-mono : (e f : ℕ) → e ≤ f → days_after test d e ≤ days_after test d f
  unfolding days_after
  days_after-mono e f h = count-mono (e - d) (f - d) (λ k. test (d + 1 + k)) (omega arith)

-- ---- The n-th day after d that passes

-- `is_nth_after`, by its parts
pub record IsNth (test : ℕ → Bool) (n d e : ℕ) : Type 0 where
  pub after : d < e
  pub passes : test e ≡ true
  pub as_many : days_after test d e ≡ n

module _ (test : ℕ → Bool) (n d : ℕ) where
  pub is_nth_of : (e : ℕ) → IsNth test n d e → is_nth_after test n d e ≡ true
  unfolding is_nth_after
  is_nth_of e v = rw (lt-ltb d e v.after, v.passes, eq-eqb (days_after test d e) n v.as_many)

  pub of_is_nth : (e : ℕ) → is_nth_after test n d e ≡ true → IsNth test n d e
  unfolding is_nth_after
  of_is_nth e t =
      let a = and-true (ltb d e) _ t in
      let b = and-true (test e) _ a.1 in
      record { after = ltb-true d e a.0; passes = b.0; as_many = eqb-true (days_after test d e) n b.1 }

  -- a later day that passes has more up to it
  pub more_later : (e f : ℕ) → d ≤ e → e < f → test f ≡ true → days_after test d e < days_after test d f
  more_later e f l h t =
      let g : f - 1 + 1 ≡ f = omega arith in
      let s = days_after-suc test d (f - 1) (omega arith) in
      let u : days_after test d f ≡ days_after test d (f - 1) + cond (test f) 1 0 = rw g at s in
      let v : ◌≡◌ {A = ℕ} (cond (test f) 1 0) 1 = rw t in
      omega (arith, days_after-mono test d e (f - 1) (omega arith))

  -- the day on which the count reaches n
  pub nth_here : (e : ℕ) → d ≤ e → days_after test d e < n → days_after test d (e + 1) ≡ n → IsNth test n d (e + 1)
  nth_here e l h q = record { after = omega arith; passes = ⊎_elim (λ t. t) (λ t. let z : ◌≡◌ {A = ℕ} (cond (test (e + 1)) 1 0) 0 = rw t in absurd (omega (arith, days_after-suc test d e l))) (either (test (e + 1))); as_many = q }

  -- there is one at most
  nth-one : (e f : ℕ) → IsNth test n d e → IsNth test n d f → e ≡ f
  nth-one e f v w =
      ⊎_elim (λ h. absurd (omega (arith, more_later e f (omega (arith, v.after)) h w.passes, v.as_many, w.as_many)))
      (λ h. ⊎_elim (λ k. absurd (omega (arith, more_later f e (omega (arith, w.after)) k v.passes, v.as_many, w.as_many))) (λ k. omega arith) (lt_or_le f e))
      (lt_or_le e f)

  pub nth-unique : (e f : ℕ) → is_nth_after test n d e ≡ true → is_nth_after test n d f ≡ true → e ≡ f
  nth-unique e f s t = nth-one e f (of_is_nth e s) (of_is_nth f t)

  -- it is the one that is found
  pub nth-found : (e : ℕ) → IsNth test n d e → e ≤ last_day → nth_after test n d ≡ Some e
  unfolding nth_after
  nth-found e v h = first_stops (last_day + 1) try e e (omega arith) (nothing-first e try before) (rw (is_nth_of e v))
    where
      try : ℕ → Option ℕ
      try f = cond (is_nth_after test n d f) (Some f) None

      before : (f : ℕ) → f < e → try f ≡ None
      before f l = ⊎_elim (λ t. absurd (omega (arith, nth-one f e (of_is_nth f t) v))) (λ t. rw t) (either (is_nth_after test n d f))

  -- too few up to 31 December 2099: there is none
  pub nth-none : days_after test d last_day < n → nth_after test n d ≡ None
  unfolding nth_after
  nth-none h = nothing-first (last_day + 1) (λ e. cond (is_nth_after test n d e) (Some e) None) none
    where
      none : (e : ℕ) → e < last_day + 1 → cond (is_nth_after test n d e) (Some e) None ≡ None
      none e l = ⊎_elim (λ t. absurd (omega (arith, days_after-mono test d e last_day (omega arith), (of_is_nth e t).as_many))) (λ t. rw t) (either (is_nth_after test n d e))

  -- what is found is the one
  pub nth-is : (e : ℕ) → nth_after test n d ≡ Some e → (is_nth_after test n d e ≡ true) × (e ≤ last_day)
  unfolding nth_after
  nth-is e q =
      let r = first-at (last_day + 1) (λ f. cond (is_nth_after test n d f) (Some f) None) e q in
      let c = at_cond (is_nth_after test n d r.0) r.0 r.2 in
      (rw c.1 at c.0, omega (arith, r.1, c.1))
    where
      at_cond : (t : Bool) (f : ℕ) → cond t (Some f) None ≡ Some e → (t ≡ true) × (f ≡ e)
      at_cond true f s = (refl, cc)
      at_cond false f s = absurd (let z : ◌≡◌ {A = ℕ} 0 1 = cc in omega arith)

  -- where none is found there is none
  pub nth-nothing : nth_after test n d ≡ None → (e : ℕ) → e ≤ last_day → is_nth_after test n d e ≡ false
  unfolding nth_after
  nth-nothing q e h = nothing-cond (is_nth_after test n d e) e (first-nothing (last_day + 1) (λ f. cond (is_nth_after test n d f) (Some f) None) q e (omega arith))
    where
      nothing-cond : (t : Bool) (f : ℕ) → cond t (Some f) None ≡ None → t ≡ false
      nothing-cond true f s = absurd (let z : ◌≡◌ {A = ℕ} 0 1 = cc in omega arith)
      nothing-cond false f s = refl

-- a day that was found, or none up to 31 December 2099, as it is returned
pub found-returned : (found : Option ℕ) → day_returned (ok_or found PastLastDay) ≡ up_to_last_day found
found-returned (Some d) = refl
found-returned None = refl
