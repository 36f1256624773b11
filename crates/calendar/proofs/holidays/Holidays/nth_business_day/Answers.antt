-- `Holidays::nth_business_day` meets its contract. The invariant: of the days after d up to this one, fewer than n passed, and so many.
use Rattle.std.proofs.Common.{◌≡◌, ◌+◌, sym, ap, ◌∙◌, arith}
use Rattle.std.specs.Int.{from_bool}
use Rattle.rulebook.specs.Units.{last_day}
use Rattle.calendar.specs.declared.holidays.Holidays.{Holidays}
use Rattle.calendar.specs.Calendar.{is_business_day, days_after}
use Rattle.calendar.proofs.laws.BusinessLaws.{days_after-none, days_after-next, days_after-mono, nth_here, nth-found, nth-none}
use Rattle.calendar.proofs.holidays.Holidays.nth_business_day.Goals as goal
use Rattle.calendar.proofs.holidays.Holidays.nth_business_day.Goals.{After-is_business_day}

pub loop-place-init : goal.loop-place-init
loop-place-init c =
    let s = c.args in
    (omega arith, sym (days_after-none (is_business_day s.self.now.days.now) s.d c.place_of-place.result.day (omega arith)), omega arith, c.place_of-place.ensures.0)

-- one more day is counted
counted : (c : After-is_business_day) → c.loop-place.passed + from_bool c.is_business_day.result ≡ days_after (is_business_day c.args.self.now.days.now) c.args.d (c.loop-place.place.day + 1)
counted c =
    let s = c.args in
    let h : ◌≡◌ {A = Holidays} c.go_on.new.self.holidays s.self.now = c.go_on.ensures.0 ∙ c.loop-place.invariant.3 in
    let e : c.go_on.new.self.day ≡ c.loop-place.place.day + 1 = omega arith in
    let b = c.is_business_day.ensures ∙ ap (λ (p : Holidays). is_business_day p.days.now c.go_on.new.self.day) h ∙ ap (is_business_day s.self.now.days.now) e in
    rw (b, c.loop-place.invariant.1) (sym (days_after-next (is_business_day s.self.now.days.now) s.d c.loop-place.place.day c.loop-place.invariant.0))

pub loop-place-preserved-then-not-is_business_day : goal.loop-place-preserved-then-not-is_business_day
loop-place-preserved-then-not-is_business_day c =
    let s = c.args in
    let e : c.loop-place.place.day + 1 ≡ c.go_on.new.self.day = omega arith in
    let more = counted (goal.at.loop-place-preserved-then-not-is_business_day c).After-is_business_day in
    let same : c.loop-place.passed ≡ c.loop-place.passed + from_bool c.is_business_day.result = rw c.if-not-is_business_day.true (omega arith) in
    (omega arith, same ∙ more ∙ ap (days_after (is_business_day s.self.now.days.now) s.d) e, omega arith, c.go_on.ensures.0 ∙ c.loop-place.invariant.3)

pub returns-then-passed-n : goal.returns-then-passed-n
returns-then-passed-n c =
    let s = c.args in
    let test = is_business_day s.self.now.days.now in
    let e : c.go_on.new.self.day ≡ c.loop-place.place.day + 1 = omega arith in
    let more = counted (goal.at.returns-then-passed-n c).After-is_business_day in
    let one : c.loop-place.passed + from_bool c.is_business_day.result ≡ c.loop-place.passed + 1 = rw c.if-not-is_business_day.false (omega arith) in
    rw e (sym (nth-found test s.n s.d (c.loop-place.place.day + 1) (nth_here test s.n s.d c.loop-place.place.day c.loop-place.invariant.0 (omega arith) (sym more ∙ one ∙ c.if-passed-n.true)) (omega arith)))

pub loop-place-preserved : goal.loop-place-preserved
loop-place-preserved c =
    let s = c.args in
    let e : c.loop-place.place.day + 1 ≡ c.go_on.new.self.day = omega arith in
    let more = counted (goal.at.loop-place-preserved c).After-is_business_day in
    let one : c.loop-place.passed + 1 ≡ c.loop-place.passed + from_bool c.is_business_day.result = rw c.if-not-is_business_day.false (omega arith) in
    (omega arith, one ∙ more ∙ ap (days_after (is_business_day s.self.now.days.now) s.d) e, omega arith, c.go_on.ensures.0 ∙ c.loop-place.invariant.3)

pub returns : goal.returns
returns c =
    let s = c.args in
    let test = is_business_day s.self.now.days.now in
    sym (nth-none test s.n s.d (omega (arith, c.loop-place.invariant.1, days_after-mono test s.d last_day c.loop-place.place.day (omega arith))))
