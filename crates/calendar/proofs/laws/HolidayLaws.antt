-- Laws of holiday lists: a proper list ascends, so one index parts the entries before a day from those from it on. Assumes nothing.
use Rattle.std.specs.Prelude.{◌≡◌, refl, Bool, true, ◌&&◌, List, ℕ, zero, suc, ◌+◌, ◌-◌, ◌≤◌, ◌<◌, ltb, ℤ, pos, negsuc}
use Rattle.std.specs.List.{IsAllAdjacentAnswer}
use Rattle.std.specs.List.Sorted.{IsPartitionedBy, IsPartitionPoint}
use Rattle.std.proofs.Common.{sym, ap, ◌∙◌, not-suc-le-zero, add-one, add-zero, leb→le, le→leb, ltb→lt}
use Rattle.std.proofs.lemmas.List.Sorted.{IsPartitionedBy-ltb, IsNonDecreasingBy-from_default}
use Rattle.integer.specs.Integer.{positive}
use Rattle.std.proofs.Math.Bool.{false}
use Rattle.std.proofs.Math.Logic.{⊎_elim}
use native.Mathlib.Omega.{arith}
use borrow.Author.Tests.{ltb-true, ltb-false, ne_eqb, eq-eqb, eqb-true, eqb-false}
use Rattle.std.proofs.Math.Dec.{T, eqb}
use Rattle.std.proofs.Math.ListN.{length}
use Rattle.std.specs.Int.{from_bool}
use Rattle.std.specs.Int.Signed.{le_z, lt_z}
use Rattle.integer.specs.Below.{all}
use Rattle.integer.specs.Words.{word}
use Rattle.integer.proofs.laws.BelowLaws.{and-true, either, lt_or_le, all_at, all_of, all_fails}
use Rattle.integer.proofs.laws.CountLaws.{any_at, any_none}
use Rattle.rulebook.specs.Units.{last_day}
use Rattle.rulebook.proofs.laws.TestLaws.{and_left, and_right, and_both, tests_same, all_yes, all_at as all-holds}
use Rattle.calendar.specs.Steps.{entry_at, FirstFrom}
use Rattle.calendar.proofs.laws.DateLaws.{IsDay, of_is_day}
use Rattle.calendar.specs.Calendar.{is_day, is_later, in_place, is_proper, is_entry, is_listed}

-- ---- A list that ascends, of which the first and the last entry are days

after_is : (a b : ℤ) → T (lt_z a b) → T (le_z (pos 0) a) → T (le_z (pos 0) b)
after_is (pos m) (pos n) t u = le→leb 0 n (omega arith)
after_is (pos m) (negsuc n) t u = absurd t
after_is (negsuc m) b t u = absurd u

before_is : (a b : ℤ) → T (lt_z a b) → T (le_z b (pos last_day)) → T (le_z a (pos last_day))
before_is (pos m) (pos n) t u = le→leb m last_day (omega (arith, ltb→lt m n t, leb→le n last_day u))
before_is (pos m) (negsuc n) t u = absurd t
before_is (negsuc m) b t u = tt

module _ (holidays : List ℤ) where
  -- an entry and the next
  later-next : T (all (length holidays) (is_later holidays)) → (i : ℕ) → i + 1 < length holidays → T (lt_z (word holidays i) (word holidays (i + 1)))
  later-next t i l =
      let u = all-holds (length holidays) (is_later holidays) t (i + 1) l in
      let z : eqb (i + 1) 0 ≡ false = ne_eqb (i + 1) 0 (λ e. omega arith) in
      let j : i + 1 - 1 ≡ i = omega arith in
      rw (z, j) at u

  none_below : T (all (length holidays) (is_later holidays)) → T (le_z (pos 0) (word holidays 0)) → (i : ℕ) → i < length holidays → T (le_z (pos 0) (word holidays i))
  none_below t h zero l = h
  none_below t h (suc i) l =
      let s = rw (add-one i) at (later-next t i (omega arith)) in
      after_is (word holidays i) (word holidays (suc i)) s (none_below t h i (omega arith))

  none_above : T (all (length holidays) (is_later holidays)) → T (le_z (word holidays (length holidays - 1)) (pos last_day))
      → (k i : ℕ) → i + k + 1 ≡ length holidays → T (le_z (word holidays i) (pos last_day))
  none_above t h zero i e = let j : length holidays - 1 ≡ i = omega arith in rw j at h
  none_above t h (suc k) i e = before_is (word holidays i) (word holidays (i + 1)) (later-next t i (omega arith)) (none_above t h k (i + 1) (omega arith))

  pub proper_by_ends : 0 < length holidays → is_proper holidays ≡ (is_day (word holidays 0) && is_day (word holidays (length holidays - 1)) && all (length holidays) (is_later holidays))
  unfolding is_proper in_place is_day
  proper_by_ends some = tests_same (all (length holidays) (in_place holidays)) (is_day (word holidays 0) && is_day (word holidays (length holidays - 1)) && all (length holidays) (is_later holidays))
      (λ t. and_both (is_day (word holidays 0) && is_day (word holidays (length holidays - 1))) (all (length holidays) (is_later holidays))
      (and_both (is_day (word holidays 0)) (is_day (word holidays (length holidays - 1))) (day t 0 some) (day t (length holidays - 1) (omega arith)))
      (all_yes (length holidays) (is_later holidays) (λ i l. and_right (is_day (word holidays i)) (is_later holidays i) (all-holds (length holidays) (in_place holidays) t i l))))
      (λ t. let a = and_right (is_day (word holidays 0) && is_day (word holidays (length holidays - 1))) (all (length holidays) (is_later holidays)) t in
      let b = and_left (is_day (word holidays 0) && is_day (word holidays (length holidays - 1))) (all (length holidays) (is_later holidays)) t in
      let f = and_left (is_day (word holidays 0)) (is_day (word holidays (length holidays - 1))) b in
      let g = and_right (is_day (word holidays 0)) (is_day (word holidays (length holidays - 1))) b in
      all_yes (length holidays) (in_place holidays) (λ i l. and_both (is_day (word holidays i)) (is_later holidays i)
      (and_both (le_z (pos 0) (word holidays i)) (le_z (word holidays i) (pos last_day))
      (none_below a (and_left (le_z (pos 0) (word holidays 0)) (le_z (word holidays 0) (pos last_day)) f) i l)
      (none_above a (and_right (le_z (pos 0) (word holidays (length holidays - 1))) (le_z (word holidays (length holidays - 1)) (pos last_day)) g) (length holidays - 1 - i) i (omega arith)))
      (all-holds (length holidays) (is_later holidays) a i l)))
    where
      day : T (all (length holidays) (in_place holidays)) → (i : ℕ) → i < length holidays → T (is_day (word holidays i))
      day t i l = and_left (is_day (word holidays i)) (is_later holidays i) (all-holds (length holidays) (in_place holidays) t i l)

-- what is asked of each entry and the next is asked of each
pub sorted_ascends : (holidays : List ℤ) (r : Bool) → IsAllAdjacentAnswer (λ x y b. b ≡ lt_z x y) holidays r → r ≡ all (length holidays) (is_later holidays)
sorted_ascends holidays true h = sym (all_of (length holidays) (is_later holidays) later)
  where
    later : (i : ℕ) → i < length holidays → is_later holidays i ≡ true
    later zero l = refl
    later (suc i) l = let z : eqb (suc i) 0 ≡ false = ne_eqb (suc i) 0 (λ e. omega arith) in let j : suc i - 1 ≡ i = omega arith in rw (z, j) (sym (rw (add-one i) at (h i (pos 0) (omega arith))))
sorted_ascends holidays false (i, l, e) =
    let z : eqb (i + 1) 0 ≡ false = ne_eqb (i + 1) 0 (λ q. omega arith) in
    let j : i + 1 - 1 ≡ i = omega arith in
    sym (all_fails (length holidays) (is_later holidays) (i + 1) l (rw (z, j) (sym (e (pos 0)))))

-- ---- The index that parts a list

pos-below : (a b : ℕ) → lt_z (pos a) (pos b) ≡ true → a < b
pos-below a b e = ltb-true a b e

module _ (holidays : List ℤ) (proper : is_proper holidays ≡ true) where
  pub entry_in-place : (i : ℕ) → i < length holidays → in_place holidays i ≡ true
  unfolding is_proper
  entry_in-place i l = all_at (length holidays) (in_place holidays) proper i l

  pub entry-is_day : (i : ℕ) → i < length holidays → IsDay (word holidays i)
  unfolding in_place
  entry-is_day i l = of_is_day (word holidays i) (and-true (is_day (word holidays i)) _ (entry_in-place i l)).0

  -- each entry is later than the one before it
  entry-step : (i : ℕ) → i + 1 < length holidays → entry_at holidays i < entry_at holidays (i + 1)
  unfolding in_place
  entry-step i l =
      let t = (and-true (is_day (word holidays (i + 1))) _ (entry_in-place (i + 1) l)).1 in
      let z : eqb (i + 1) 0 ≡ false = ne_eqb (i + 1) 0 (λ e. omega arith) in
      let j : i + 1 - 1 ≡ i = omega arith in
      let u = rw (z, j) at t in
      pos-below (entry_at holidays i) (entry_at holidays (i + 1)) (rw ((entry-is_day i (omega arith)).unsigned, (entry-is_day (i + 1) l).unsigned) at u)

  pub entries-ascend : (i j : ℕ) → i < j → j < length holidays → entry_at holidays i < entry_at holidays j
  entries-ascend i zero h l = absurd (not-suc-le-zero h)
  entries-ascend i (suc j) h l =
      let s = rw (add-one j) at (entry-step j (omega arith)) in
      ⊎_elim (λ k. omega (arith, entries-ascend i j k (omega arith))) (λ k. let q : entry_at holidays i ≡ entry_at holidays j = ap (entry_at holidays) (omega arith) in omega arith) (lt_or_le i j)

  -- a day is listed where the entry that parts the list is that day, and not otherwise
  pub listed_here : (d r : ℕ) → r < length holidays → entry_at holidays r ≡ d → is_listed holidays d ≡ true
  unfolding is_listed
  listed_here d r l e = any_at (length holidays) (λ i. is_entry (word holidays i) d) r l (rw (entry-is_day r l).unsigned (eq-eqb (entry_at holidays r) d e))

  pub not_listed : (d r : ℕ) → FirstFrom holidays d r → (r < length holidays → entry_at holidays r ≡ d → ⊥) → is_listed holidays d ≡ false
  unfolding is_listed
  not_listed d r f h = any_none (length holidays) (λ i. is_entry (word holidays i) d) (λ i l. rw (entry-is_day i l).unsigned (ne_eqb (entry_at holidays i) d (other i l)))
    where
      other : (i : ℕ) → i < length holidays → entry_at holidays i ≡ d → ⊥
      other i l e =
          ⊎_elim (λ k. omega (arith, f.below i k))
          (λ k. ⊎_elim (λ m. omega (arith, entries-ascend r i m l, f.above r (omega arith) (omega arith))) (λ m. let q : i ≡ r = omega arith in h (rw q at l) (rw q at e)) (lt_or_le r i))
          (lt_or_le i r)

  pub listed-is : (d r : ℕ) → FirstFrom holidays d r → r < length holidays → eqb (entry_at holidays r) d ≡ is_listed holidays d
  listed-is d r f l =
      ⊎_elim (λ e. e ∙ sym (listed_here d r l (eqb-true (entry_at holidays r) d e)))
      (λ e. e ∙ sym (not_listed d r f (λ k. eqb-false (entry_at holidays r) d e)))
      (either (eqb (entry_at holidays r) d))

  pub none_listed : (d r : ℕ) → FirstFrom holidays d r → length holidays ≤ r → is_listed holidays d ≡ false
  none_listed d r f h = not_listed d r f (λ k. absurd (omega arith))

  -- a day further on: past the entry that is the day, or at the same index
  pub next_up : (d r : ℕ) → FirstFrom holidays d r → r < length holidays → entry_at holidays r ≡ d → FirstFrom holidays (d + 1) (r + 1)
  next_up d r f l e = record {
    within = omega arith;
    below = λ k q. ⊎_elim (λ n. omega (arith, f.below k n)) (λ n. let j : entry_at holidays k ≡ entry_at holidays r = ap (entry_at holidays) (omega arith) in omega arith) (lt_or_le k r);
    above = λ k q m. omega (arith, entries-ascend r k (omega arith) m);
  }

  pub next_same : (d r : ℕ) → FirstFrom holidays d r → (r < length holidays → entry_at holidays r ≡ d → ⊥) → FirstFrom holidays (d + 1) r
  next_same d r f h = record {
    within = f.within;
    below = λ k q. omega (arith, f.below k q);
    above = λ k q m. ⊎_elim (λ n. omega (arith, entries-ascend r k n m, f.above r (omega arith) (omega arith)))
        (λ n. let j : entry_at holidays k ≡ entry_at holidays r = ap (entry_at holidays) (omega arith) in omega (arith, f.above r (omega arith) (omega arith), h (omega arith))) (lt_or_le r k);
  }

  -- one day further on, by the test whether the day is listed
  pub next_day : (d r : ℕ) → FirstFrom holidays d r → FirstFrom holidays (d + 1) (r + from_bool (is_listed holidays d))
  next_day d r f = ⊎_elim here none (lt_or_le r (length holidays))
    where
      here : r < length holidays → FirstFrom holidays (d + 1) (r + from_bool (is_listed holidays d))
      here l =
          ⊎_elim (λ e. let y = sym (listed-is d r f l) ∙ e in rw y (next_up d r f l (eqb-true (entry_at holidays r) d e)))
          (λ e. let n = sym (listed-is d r f l) ∙ e in rw (n, add-zero) (next_same d r f (λ k. eqb-false (entry_at holidays r) d e)))
          (either (eqb (entry_at holidays r) d))

      none : length holidays ≤ r → FirstFrom holidays (d + 1) (r + from_bool (is_listed holidays d))
      none h = rw (none_listed d r f h, add-zero) (next_same d r f (λ k. absurd (omega arith)))

  -- entries that ascend are parted by the test whether they lie before a day
  pub parted : (d : ℕ) → IsPartitionedBy (λ z. ltb (positive z) d) holidays
  parted d = IsPartitionedBy-ltb positive holidays d (IsNonDecreasingBy-from_default positive holidays (pos 0) (λ i j h l. ⊎_elim (λ k. omega (arith, entries-ascend i j k l)) (λ k. let e : entry_at holidays i ≡ entry_at holidays j = ap (entry_at holidays) (omega arith) in omega arith) (lt_or_le i j)))

  pub first_from : (d r : ℕ) → r ≤ length holidays → IsPartitionPoint (λ z. ltb (positive z) d ≡ true) (λ z. ltb (positive z) d ≡ false) holidays r → FirstFrom holidays d r
  first_from d r h p = record {
    within = h;
    below = λ k l. ltb-true (entry_at holidays k) d (p.0 k (pos 0) (omega arith) l);
    above = λ k l m. ltb-false (entry_at holidays k) d (p.1 k (pos 0) l m);
  }
