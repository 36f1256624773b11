-- The figures of an interval by their number: figure k of the layout is the value that stands at place k, of its own kind. Assumes nothing.
use Rattle.std.specs.Prelude.{◌≡◌, Bool, true, false, cond, List, ◌∷◌, ℕ, zero, suc, ◌+◌, ◌*◌, ◌/◌, ◌%◌, ◌≤◌, ◌<◌, eqb, pos}
use Rattle.std.proofs.Math.Path.{refl}
use Rattle.std.proofs.Common.{sym, ap, ◌∙◌, ⊎_elim, arith, eqb-true, le-ltb}
use Rattle.std.proofs.lemmas.Bool.{eqb-false}
use Rattle.integer.specs.Below.{tabulate}
use Rattle.integer.proofs.laws.BelowLaws.{either}
use Rattle.rulebook.specs.declared.Section.{Section}
use Rattle.rulebook.specs.declared.Section.TheVariants.{Vesting, Meter, Residual, Ncc}
use Rattle.rulebook.specs.declared.Kind.{Kind}
use Rattle.rulebook.specs.declared.Kind.TheVariants.{Quantity, Injection, Load, Price}
use Rattle.rulebook.specs.Sections.{per_interval, kind_of, same_section}
use Rattle.rulebook.specs.File.{Row, Figure, BVQ, BVP, TVQ, TVP, MEP, IEQ, UEGQ, MQ, RVP1, RVP2, NccLoad, figure_section, figure_place, number_of, figure_of, row_at, count_at, values_pos, value_at}
use Rattle.rulebook.proofs.laws.FileLaws.{number_at}
use Rattle.rulebook.specs.NamedRows.{named}
use Rattle.rulebook.specs.Encoding.{pairs, figures}
use Rattle.rulebook.specs.Proper.{LackingZero}
use Rattle.rulebook.proofs.laws.ListLaws.{tabulate-cong}

-- ---- Figure k of an interval

-- q 0, p 0, q 1, p 1, ..
abbrev alternate : (ℕ → Figure) → (ℕ → Figure) → ℕ → Figure
alternate q p k = cond (eqb (k % 2) 0) (q (k / 2)) (p (k / 2))

-- base and tender quantities and prices
abbrev vesting_quantity : ℕ → Figure
vesting_quantity zero = BVQ
vesting_quantity (suc t) = TVQ t

abbrev vesting_price : ℕ → Figure
vesting_price zero = BVP
vesting_price (suc t) = TVP t

residual_figure : ℕ → Figure
residual_figure zero = UEGQ
residual_figure (suc zero) = MQ
residual_figure (suc (suc zero)) = RVP1
residual_figure (suc (suc (suc k))) = RVP2

pub figure_no : Section → ℕ → Figure
figure_no Vesting k = alternate vesting_quantity vesting_price k
figure_no Meter k = alternate MEP IEQ k
figure_no Residual k = residual_figure k
figure_no Ncc k = NccLoad

pairs-table : (q p : ℕ → Figure) (n : ℕ) → pairs q p n ≡ tabulate (2 * n) (alternate q p)
unfolding pairs tabulate
pairs-table q p zero = refl
pairs-table q p (suc n) =
    let z : 2 * suc n ≡ suc (suc (2 * n)) = omega arith in
    rw (z, pairs-table (λ t. q (suc t)) (λ t. p (suc t)) n)
    (ap (λ l. q 0 ∷ p 0 ∷ l) (tabulate-cong (2 * n) _ _
    (λ k l.
    let x : suc (suc k) % 2 ≡ k % 2 = omega arith in
    let y : suc (suc k) / 2 ≡ suc (k / 2) = omega arith in
    rw (x, y))))

-- the layout is the table of its figures
pub figure-table : (sec : Section) (n : ℕ) → figures sec n ≡ tabulate (per_interval sec n) (figure_no sec)
unfolding figures figure_no pairs residual_figure
figure-table Vesting n = let z : 2 + 2 * n ≡ 2 * suc n = omega arith in rw z (pairs-table vesting_quantity vesting_price (suc n))
figure-table Meter n = pairs-table MEP IEQ n
figure-table Residual n = unfold tabulate in refl
figure-table Ncc n = unfold tabulate in refl

-- ---- What figure k is

-- what a figure is, hence its range
abbrev pub kind_of_figure : Figure → Kind
kind_of_figure BVQ = Quantity
kind_of_figure BVP = Price
kind_of_figure (TVQ t) = Quantity
kind_of_figure (TVP t) = Price
kind_of_figure (MEP f) = Price
kind_of_figure (IEQ f) = Injection
kind_of_figure UEGQ = Quantity
kind_of_figure MQ = Quantity
kind_of_figure RVP1 = Price
kind_of_figure RVP2 = Price
kind_of_figure NccLoad = Load

-- g is figure k of its section's intervals
pub record IsFigure (sec : Section) (k : ℕ) (g : Figure) : Type 0 where
  pub section : same_section sec (figure_section g) ≡ true
  pub place : figure_place g ≡ k
  pub kind : kind_of sec k ≡ kind_of_figure g

-- quantities and prices by turns
module _ (sec : Section) (a b : Kind) (is : (k : ℕ) → kind_of sec k ≡ cond (eqb (k % 2) 0) a b) (q p : ℕ → Figure)
    (even : (t : ℕ) → (same_section sec (figure_section (q t)) ≡ true) × (figure_place (q t) ≡ 2 * t) × (kind_of_figure (q t) ≡ a))
    (odd : (t : ℕ) → (same_section sec (figure_section (p t)) ≡ true) × (figure_place (p t) ≡ 1 + 2 * t) × (kind_of_figure (p t) ≡ b)) where
  by_turns : (k : ℕ) → IsFigure sec k (alternate q p k)
  by_turns k = ⊎_elim first second (either (eqb (k % 2) 0))
    where
      first : eqb (k % 2) 0 ≡ true → IsFigure sec k (alternate q p k)
      first e =
          let z : k % 2 ≡ 0 = eqb-true (k % 2) 0 e in
          let f = even (k / 2) in
          rw e (record { section = f.0; place = f.1 ∙ omega arith; kind = is k ∙ rw e (sym f.2) })

      second : eqb (k % 2) 0 ≡ false → IsFigure sec k (alternate q p k)
      second e =
          let z : k % 2 ≡ 1 = odd-mod k (eqb-false (k % 2) 0 e) in
          let f = odd (k / 2) in
          rw e (record { section = f.0; place = f.1 ∙ omega arith; kind = is k ∙ rw e (sym f.2) })
        where
          odd-mod : (k : ℕ) → (k % 2 ≡ 0 → ⊥) → k % 2 ≡ 1
          odd-mod k h = omega arith

pub is_figure : (sec : Section) (n k : ℕ) → k < per_interval sec n → IsFigure sec k (figure_no sec k)
unfolding figure_no residual_figure
is_figure Vesting n k l = by_turns Vesting Quantity Price (λ k. refl) vesting_quantity vesting_price quantity price k
  where
    quantity : (t : ℕ) → (same_section Vesting (figure_section (vesting_quantity t)) ≡ true) × (figure_place (vesting_quantity t) ≡ 2 * t) × (kind_of_figure (vesting_quantity t) ≡ Quantity)
    quantity zero = (refl, refl, refl)
    quantity (suc t) = (refl, omega arith, refl)

    price : (t : ℕ) → (same_section Vesting (figure_section (vesting_price t)) ≡ true) × (figure_place (vesting_price t) ≡ 1 + 2 * t) × (kind_of_figure (vesting_price t) ≡ Price)
    price zero = (refl, refl, refl)
    price (suc t) = (refl, omega arith, refl)
is_figure Meter n k l = by_turns Meter Price Injection (λ k. refl) MEP IEQ (λ t. (refl, refl, refl)) (λ t. (refl, refl, refl)) k
is_figure Residual n zero l = record { section = refl; place = refl; kind = refl }
is_figure Residual n (suc zero) l = record { section = refl; place = refl; kind = refl }
is_figure Residual n (suc (suc zero)) l = record { section = refl; place = refl; kind = refl }
is_figure Residual n (suc (suc (suc k))) l = let z : k ≡ 0 = omega arith in rw z (record { section = refl; place = refl; kind = refl })
is_figure Ncc n k l = let z : k ≡ 0 = omega arith in rw z (record { section = refl; place = refl; kind = refl })

-- ---- What it reads

-- a row's figure k of interval h is the value that stands there
pub figure-at : (sec : Section) (s : List ℕ) (at h k : ℕ) → h < 48 → k < per_interval sec (count_at sec s at)
    → figure_of (row_at sec s at) h (figure_no sec k) ≡ value_at s (values_pos sec at + 4 * (h * per_interval sec (count_at sec s at) + k))
unfolding figure_of
figure-at sec s at h k hh hk =
    let f = is_figure sec (count_at sec s at) k hk in
    rw (f.section, f.place) (number_at sec s at h k hh hk)

-- ---- What a row lacks

past-count : (r : Row) (i : ℕ) (g : Figure) → per_interval r.section r.count ≤ figure_place g → figure_of r i g ≡ pos 0
unfolding figure_of number_of
past-count r i g h = rw (le-ltb (figure_place g) (per_interval r.section r.count) h) (by (same_section r.section (figure_section g)))
  where
    by : (b : Bool) → cond b (pos 0) (pos 0) ≡ pos 0
    by true = refl
    by false = refl

pub lacking-zero : (r : Row) (i : ℕ) → LackingZero (named r) i
unfolding figure_of
lacking-zero r i = record {
  tender = λ e t h. (past-count r i (TVQ t) (rw e (omega arith)), past-count r i (TVP t) (rw e (omega arith)));
  facility = λ e f h. (past-count r i (MEP f) (rw e (omega arith)), past-count r i (IEQ f) (rw e (omega arith)));
  other = λ g e. rw e;
}
