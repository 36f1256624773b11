-- The profile call's checks in turn give its table. Assumes nothing.
use Rattle.std.specs.Prelude.{◌≡◌, refl, Bool, true, false, ◌↔◌, List, ℕ, ◌+◌, ◌*◌, ◌<◌, eqb, ℤ, pos, length, ◌≤ℤ◌}
use Rattle.std.proofs.Common.{ap, ◌∙◌, arith, eqb-true, eq-eqb}
use Rattle.integer.proofs.laws.IntegerLaws.{int, parts}
use Rattle.integer.proofs.laws.BelowLaws.{and-true, all_of, sum_ℕ-cong, length-tabulate, get_d_tabulate}
use Rattle.integer.specs.Words.{word}
use Rattle.rulebook.specs.declared.Kind.TheVariants.{Quantity}
use Rattle.rulebook.specs.declared.ProfileReturned.{ProfileReturned}
use Rattle.rulebook.specs.Units.{between, in_range, intervals, positive}
use Rattle.rulebook.specs.Profile.{most_day_kwh, most_contracted, KeepsLimits, keeps_limits, total_possible, evenly}
use Rattle.rulebook.specs.Numbers.{checked, profile_accepted, profile_refused}
use Rattle.rulebook.specs.Calls.{all_in_range, quantities_in, profile_terms, profile_input, profile_told, profile_call}
use Rattle.rulebook.specs.ProfileTable.{Quantities, Keeping, ProfileGiven, even_profile, ProfileTable, KeepingAnswered}
use Rattle.rulebook.proofs.laws.UnitsLaws.{between-true, true-between}
use Rattle.rulebook.proofs.laws.CallsLaws.{in_range-at}
use Rattle.rulebook.proofs.laws.CheckedLaws.{test-fails, then_where, struck, met}
use Rattle.rulebook.proofs.laws.ProfileLaws.{keeps-limits, limits-keep, keeping_possible, even-keeps, even-quantity}

-- ---- What is given

quantities-of : (profile : List ℤ) → length profile ≡ intervals → all_in_range Quantity profile ≡ true → Quantities profile
quantities-of profile n e = record { count = n; from = λ i l. (at i l).0; to = λ i l. (at i l).1 }
  where
    at : (i : ℕ) → i < 48 → (pos 0 ≤ℤ word profile i) × (word profile i ≤ℤ pos 10000000)
    at i l = between-true (pos 0) (pos 10000000) (word profile i) (in_range-at Quantity profile e i (omega arith))

of_quantities : (profile : List ℤ) → Quantities profile → all_in_range Quantity profile ≡ true
unfolding all_in_range
of_quantities profile q =
    all_of (length profile) (λ i. in_range Quantity (word profile i))
    (λ i l. let h : i < 48 = omega (arith, q.count) in true-between (pos 0) (pos 10000000) (word profile i) (q.from i h) (q.to i h))

given-says : (profile : List ℤ) (t d : ℤ) → (profile_input profile t d ≡ true) ↔ ProfileGiven profile t d
unfolding profile_input
given-says profile t d = (given, test)
  where
    given : profile_input profile t d ≡ true → ProfileGiven profile t d
    given e =
        let a = and-true (profile_terms (length profile) t d) (all_in_range Quantity profile) e in
        let b = and-true (eqb (length profile) intervals) _ a.0 in
        let c = and-true (between (pos 0) (pos most_day_kwh) t) (between (pos 0) (pos most_contracted) d) b.1 in
        let x = between-true (pos 0) (pos most_day_kwh) t c.0 in
        let y = between-true (pos 0) (pos most_contracted) d c.1 in
        record {
          quantities = quantities-of profile (eqb-true (length profile) intervals b.0) a.1;
          total_from = x.0;
          total_to = x.1;
          contracted_from = y.0;
          contracted_to = y.1;
        }

    test : ProfileGiven profile t d → profile_input profile t d ≡ true
    test g = rw (
      eq-eqb (length profile) intervals g.quantities.count,
      true-between (pos 0) (pos most_day_kwh) t g.total_from g.total_to,
      true-between (pos 0) (pos most_contracted) d g.contracted_from g.contracted_to,
      of_quantities profile g.quantities,
    )

-- ---- The even profile

even-at : (t : ℤ) (i : ℕ) → i < 48 → word (even_profile t) i ≡ pos (evenly (positive t) i)
even-at t i l = get_d_tabulate 48 (λ i. pos (evenly (positive t) i)) i (pos 0) l

even-keeping : (t d : ℤ) → d ≤ℤ pos most_contracted → total_possible (positive t) (positive d) ≡ true → Keeping t d (even_profile t)
even-keeping t d h e = record {
  quantities = record {
    count = length-tabulate 48 (λ i. pos (evenly (positive t) i));
    from = λ i l. rw (even-at t i l) (omega int);
    to = λ i l. rw (even-at t i l) (omega (int, even-quantity (positive t) (positive d) e (omega (int, h, parts d)) i));
  };
  limits = record {
    floor = λ b l. let x = same (2 * b) (omega arith) in let y = same (2 * b + 1) (omega arith) in omega (arith, k.floor b l);
    cap = λ b l. let x = same (2 * b) (omega arith) in let y = same (2 * b + 1) (omega arith) in omega (arith, k.cap b l);
    total = sum_ℕ-cong 48 (quantities_in (even_profile t)) (evenly (positive t)) same ∙ k.total;
  };
}
  where
    k : KeepsLimits (positive t) (positive d) (evenly (positive t))
    k = even-keeps (positive t) (positive d) e

    same : (i : ℕ) → i < 48 → quantities_in (even_profile t) i ≡ evenly (positive t) i
    same i l = ap positive (even-at t i l)

-- ---- The table

module _ (profile : List ℤ) (t d : ℤ) where
  abbrev number : ProfileReturned → ℕ
  number r = r.number

  abbrev possible : Bool
  possible = total_possible (positive t) (positive d)

  abbrev keeps : Bool
  keeps = keeps_limits (positive t) (positive d) (quantities_in profile)

  -- where the input is in range
  abbrev rest : Bool → Bool → ProfileReturned
  rest p k = checked p (profile_refused 15) (profile_accepted k)

  rest-number : (p k : Bool) → eqb (rest p k).number 1 ≡ false
  rest-number true k = refl
  rest-number false k = refl

  possible-says : ProfileGiven profile t d → (possible ≡ true) ↔ ((other : List ℤ) × Keeping t d other)
  possible-says g = (
    λ e. (even_profile t, even-keeping t d g.contracted_to e),
    λ k. keeping_possible (positive t) (positive d) (quantities_in k.0) k.1.limits,
  )

  keeps-says : ProfileGiven profile t d → (keeps ≡ true) ↔ Keeping t d profile
  keeps-says g = (
    λ e. record { quantities = g.quantities; limits = keeps-limits (positive t) (positive d) (quantities_in profile) e },
    λ k. limits-keep (positive t) (positive d) (quantities_in profile) k.limits,
  )

  accepted-yes : (k : Bool) → (profile_accepted k ≡ record { number = 0; keeps = 1 }) ↔ (k ≡ true)
  accepted-yes true = (λ e. refl, λ e. refl)
  accepted-yes false = (λ e. absurd (let z : ◌≡◌ {A = ℕ} 0 1 = ap (λ (x : ProfileReturned). x.keeps) e in omega arith), λ e. ap profile_accepted e)

  accepted-no : (k : Bool) → (profile_accepted k ≡ record { number = 0; keeps = 0 }) ↔ (k ≡ false)
  accepted-no true = (λ e. absurd (let z : ◌≡◌ {A = ℕ} 1 0 = ap (λ (x : ProfileReturned). x.keeps) e in omega arith), λ e. ap profile_accepted e)
  accepted-no false = (λ e. refl, λ e. refl)

  -- ---- Where the input is in range

  none_could : ProfileGiven profile t d → (rest possible keeps ≡ profile_refused 15) ↔ ((other : List ℤ) → ¬ Keeping t d other)
  none_could g =
      let r = struck number possible (possible-says g) (profile_refused 15) (profile_accepted keeps) refl in
      (λ e other k. r.0 e (other, k), λ n. r.1 (λ k. n k.0 k.1))

  this_does : ProfileGiven profile t d → (rest possible keeps ≡ record { number = 0; keeps = 1 }) ↔ Keeping t d profile
  this_does g =
      let r = met number possible (possible-says g) (profile_refused 15) (profile_accepted keeps) (record { number = 0; keeps = 1 }) refl in
      let y = accepted-yes keeps in
      let k = keeps-says g in
      (λ e. k.0 (y.0 (r.0 e).1), λ x. r.1 ((profile, x), y.1 (k.1 x)))

  another_does : ProfileGiven profile t d → (rest possible keeps ≡ record { number = 0; keeps = 0 }) ↔ ((¬ Keeping t d profile) × ((other : List ℤ) × Keeping t d other))
  another_does g =
      let r = met number possible (possible-says g) (profile_refused 15) (profile_accepted keeps) (record { number = 0; keeps = 0 }) refl in
      let n = accepted-no keeps in
      let k = test-fails keeps (keeps-says g) in
      (λ e. let x = r.0 e in (k.0 (n.0 x.1), x.0), λ x. r.1 (x.1, n.1 (k.1 x.0)))

  shown : (p k : Bool) → (rest p k).number ≡ 0 → p ≡ true
  shown true k e = refl
  shown false k e = absurd (let z : ◌≡◌ {A = ℕ} 15 0 = e in omega arith)

  one_shown : (g p k : Bool) → (checked g (profile_refused 1) (rest p k)).number ≡ 0 → (g ≡ true) × (p ≡ true)
  one_shown true p k e = (refl, shown p k e)
  one_shown false p k e = absurd (let z : ◌≡◌ {A = ℕ} 1 0 = e in omega arith)

  pub profile-table : ProfileTable profile t d
  unfolding profile_call profile_told
  profile-table =
      let input = profile_input profile t d in
      let says = given-says profile t d in
      let first = met number input says (profile_refused 1) (rest possible keeps) in
      record {
        outside = struck number input says (profile_refused 1) (rest possible keeps) (rest-number possible keeps);
        impossible = then_where (first (profile_refused 15) refl) none_could;
        yes = then_where (first (record { number = 0; keeps = 1 }) refl) this_does;
        no = then_where (first (record { number = 0; keeps = 0 }) refl) another_does;
        shown = λ e. let x = one_shown input possible keeps e in even-keeping t d (says.0 x.0).contracted_to x.1;
      }

pub keeping_answered : KeepingAnswered
keeping_answered profile t d a b c e k =
    (profile-table profile t d).yes.1 (record { quantities = k.quantities; total_from = a; total_to = b; contracted_from = c; contracted_to = e }, k)
