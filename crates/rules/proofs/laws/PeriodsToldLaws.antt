-- What a pass over a profile's periods says of the limits. Assumes nothing.
use Rattle.std.specs.Prelude.{◌≡◌, refl, ◌&&◌, List, ℕ, ◌+◌, ◌*◌, ◌≤◌, ◌<◌, min, max, leb, ℤ, pos, get_or, drop, []}
use Rattle.std.proofs.Common.{arith, ap, ◌∙◌, le-leb, le→leb, leb→le, get_or-take, get_or-drop}
use Rattle.std.specs.Simd.{first_chunks}
use Rattle.integer.specs.Words.{word}
use Rattle.integer.specs.Below.{fold}
use Rattle.integer.proofs.laws.BelowLaws.{fold-suc, fold-test}
use Rattle.rulebook.specs.Units.{most_quantity}
use Rattle.rulebook.specs.Profile.{most_contracted, balancing_periods, period_kwh, least_kwh, most_kwh, keeps_limits}
use Rattle.rulebook.proofs.laws.ProfileLaws.{total-by_periods}
use Rattle.rulebook.proofs.laws.TestLaws.{and_left, and_right, and_both, tests_same, all_and}
use Rattle.integer.proofs.laws.ChunkLaws.{chunk-at}
use Rattle.rules.specs.PeriodsTold.{span_of, extended, span_keeps}

-- ---- Spans

pub span_zero : (kwh : ℕ → ℕ) → record { lowest = 2 * most_quantity; highest = 0; total = 0 } ≡ span_of 0 kwh
unfolding span_of fold
span_zero kwh = refl

pub span_suc : (n : ℕ) (kwh : ℕ → ℕ) → span_of (n + 1) kwh ≡ extended (span_of n kwh) (kwh n)
unfolding span_of
span_suc n kwh = rw (fold-suc min (2 * most_quantity) n kwh, fold-suc max 0 n kwh, fold-suc ◌+◌ 0 n kwh)

-- ---- The limits

least-both : (m x y : ℕ) → leb m (min x y) ≡ (leb m x && leb m y)
least-both m x y =
    tests_same (leb m (min x y)) (leb m x && leb m y)
    (λ t. let h = leb→le m (min x y) t in and_both (leb m x) (leb m y) (le→leb m x (omega arith)) (le→leb m y (omega arith)))
    (λ t. let h = leb→le m x (and_left (leb m x) (leb m y) t) in let k = leb→le m y (and_right (leb m x) (leb m y) t) in le→leb m (min x y) (omega arith))

most-both : (m x y : ℕ) → leb (max x y) m ≡ (leb x m && leb y m)
most-both m x y =
    tests_same (leb (max x y) m) (leb x m && leb y m)
    (λ t. let h = leb→le (max x y) m t in and_both (leb x m) (leb y m) (le→leb x m (omega arith)) (le→leb y m (omega arith)))
    (λ t. let h = leb→le x m (and_left (leb x m) (leb y m) t) in let k = leb→le y m (and_right (leb x m) (leb y m) t) in le→leb (max x y) m (omega arith))

-- the span of all periods keeps the limits exactly if each period does, and the total
pub span_keeps_lem : (t d : ℕ) (q : ℕ → ℕ) → d ≤ most_contracted → span_keeps t d (span_of balancing_periods (period_kwh q)) ≡ keeps_limits t d q
unfolding span_of keeps_limits
span_keeps_lem t d q h =
    let l = least_kwh d in
    let m = most_kwh d in
    rw (
      fold-test min (2 * most_quantity) (leb l) (le-leb l (2 * most_quantity) (omega arith)) (least-both l) balancing_periods (period_kwh q),
      fold-test max 0 (λ x. leb x m) (le-leb 0 m (omega arith)) (most-both m) balancing_periods (period_kwh q),
      ← all_and balancing_periods (λ b. leb l (period_kwh q b)) (λ b. leb (period_kwh q b) m),
      ← total-by_periods q,
    )

-- ---- Pairs of words

-- those of period b
pub period-words : (xs : List ℤ) (b : ℕ) (pair : List ℤ) → b < balancing_periods → pair ≡ get_or (first_chunks 2 balancing_periods xs) b []
    → (word pair 0 ≡ word xs (2 * b)) × (word pair 1 ≡ word xs (2 * b + 1))
period-words xs b pair h e = (at 0 (omega arith) ∙ ap (word xs) even, at 1 (omega arith) ∙ ap (word xs) odd)
  where
    at : (j : ℕ) → j < 2 → word pair j ≡ word xs (b * 2 + j)
    at j l = rw (e, chunk-at 2 balancing_periods b xs [] h) (get_or-take 2 (drop (b * 2) xs) j (pos 0) l ∙ get_or-drop (b * 2) xs j (pos 0))

    even : b * 2 + 0 ≡ 2 * b
    even = omega arith

    odd : b * 2 + 1 ≡ 2 * b + 1
    odd = omega arith
