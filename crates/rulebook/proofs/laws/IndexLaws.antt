-- A row's words stand one after another, and so do its figures: what code that walks them by index needs. Assumes nothing.
use Rattle.std.specs.Prelude.{◌≡◌, refl, Bool, ℕ, zero, suc, ◌+◌, ◌*◌, ◌<◌, T, eqb}
use Rattle.std.proofs.Common.{subst, arith, eqb→eq}
use Rattle.std.proofs.Math.Nat.{mod-lt}
use Rattle.integer.specs.Below.{fold, all}
use Rattle.rulebook.specs.declared.Section.{Section}
use Rattle.rulebook.specs.declared.Section.TheVariants.{Vesting, Meter, Residual, Ncc}
use Rattle.rulebook.specs.declared.Terms.{Terms}
use Rattle.rulebook.specs.Sections.{TVQ, TVP, MEP, IEQ}
use Rattle.rulebook.specs.Layout.{width, table_place, place, figure_index, ring, interval_word, row_word}
use Rattle.rulebook.specs.WindowWalk.{window_slot, window_place}
use Rattle.rulebook.proofs.laws.TestLaws.{all_at, all_yes, tests_same}
use Rattle.rulebook.proofs.laws.RingLaws.{turn_inside, turned, places-apart}

-- ---- Rows

unfoldable in_run : Section → ℕ → Bool
in_run s j = eqb (table_place s j) (table_place s 0 + j)

all_in_run : (s : Section) → T (all (width s) (in_run s))
unfolding fold in_run
all_in_run Vesting = tt
all_in_run Meter = tt
all_in_run Residual = tt
all_in_run Ncc = tt

table-run : (s : Section) (j : ℕ) → j < width s → table_place s j ≡ table_place s 0 + j
unfolding in_run
table-run s j h = eqb→eq (table_place s j) (table_place s 0 + j) (all_at (width s) (in_run s) (all_in_run s) j h)

-- word j of a row stands j words after its word 0
pub place-run : (s : Section) (a j : ℕ) → j < width s → place s a j ≡ place s a 0 + j
place-run Vesting a j h = omega (arith, table-run Vesting j h)
place-run Meter a j h = omega (arith, table-run Meter j h)
place-run Residual a j h = omega (arith, table-run Residual j h)
place-run Ncc a j h = table-run Ncc j h

pub row-run : (o : Terms) (s : Section) (a d i j : ℕ) → j < width s → row_word o s a d i j ≡ row_word o s a d i 0 + j
unfolding row_word interval_word
row-run o s a d i j h = omega (arith, place-run s a j h)

-- ---- Pairs

pub tender-words : (t : ℕ) → t < 3 → (figure_index (TVQ t) ≡ 3 + 2 * t) × (figure_index (TVP t) ≡ 4 + 2 * t)
tender-words zero h = (refl, refl)
tender-words (suc zero) h = (refl, refl)
tender-words (suc (suc zero)) h = (refl, refl)
tender-words (suc (suc (suc t))) h = absurd (omega arith)

pub facility-words : (f : ℕ) → f < 4 → (figure_index (MEP f) ≡ 1 + 2 * f) × (figure_index (IEQ f) ≡ 2 + 2 * f)
facility-words zero h = (refl, refl)
facility-words (suc zero) h = (refl, refl)
facility-words (suc (suc zero)) h = (refl, refl)
facility-words (suc (suc (suc zero))) h = (refl, refl)
facility-words (suc (suc (suc (suc f)))) h = absurd (omega arith)

-- ---- Slots

-- a test of every place of the window is one of every slot
pub all_slots : (o : Terms) → zero < ring o → (k : ℕ) (p : ℕ → ℕ → Bool) → all (ring o) (λ u. p u (window_slot o k u)) ≡ all (ring o) (λ v. p (window_place o k v) v)
all_slots o some k p = tests_same (all (ring o) (λ u. p u (window_slot o k u))) (all (ring o) (λ v. p (window_place o k v) v)) there back
  where
    there : T (all (ring o) (λ u. p u (window_slot o k u))) → T (all (ring o) (λ v. p (window_place o k v) v))
    there t = all_yes (ring o) (λ v. p (window_place o k v) v) (λ v h.
        subst (λ (x : ℕ). T (p (window_place o k v) x)) (turned o some k v h) (all_at (ring o) (λ u. p u (window_slot o k u)) t (window_place o k v) (turn_inside o some k v)))

    back : T (all (ring o) (λ v. p (window_place o k v) v)) → T (all (ring o) (λ u. p u (window_slot o k u)))
    back t = all_yes (ring o) (λ u. p u (window_slot o k u)) (λ u h.
        let i = slot-inside u in
        let e = places-apart o some k (window_place o k (window_slot o k u)) u (turn_inside o some k (window_slot o k u)) h (turned o some k (window_slot o k u) i) in
        subst (λ (x : ℕ). T (p x (window_slot o k u))) e (all_at (ring o) (λ v. p (window_place o k v) v) t (window_slot o k u) i))
      where
        slot-inside : (u : ℕ) → window_slot o k u < ring o
        slot-inside u = unfold window_slot in mod-lt _ some
