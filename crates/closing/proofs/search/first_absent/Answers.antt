-- `first_absent` meets its contract: each turn of either walk that finds nothing is one more of `first`; a turn that finds leaves all walks.
use Rattle.std.specs.Prelude.{◌≡◌, Bool, true, false, List, ℕ, ◌+◌, ◌*◌, ◌≤◌, ◌<◌, ℤ, length, Option, Some, None, is_some, unwrap_or}
use Rattle.std.proofs.Common.{refl, sym, subst, ap, ◌∙◌, SFits, w64, to_z, of_z, arith, rules}
use Rattle.std.proofs.lemmas.Int.{to_z-of_z}
use Rattle.integer.specs.Below.{fold, first}
use Rattle.integer.specs.Words.{word}
use Rattle.integer.proofs.laws.BelowLaws.{first_more, first_stops}
use Rattle.integer.proofs.laws.WordsLaws.{row_fits_lem}
use Rattle.rulebook.specs.Units.{intervals}
use Rattle.rulebook.specs.Layout.{interval_words, account_words, interval_length}
use Rattle.rulebook.specs.WellFormed.{is_zero}
use Rattle.rulebook.specs.Close.{account_searched, residuals_searched}
use Rattle.rulebook.proofs.laws.SearchLaws.{absent-here, absent-not}
use Rattle.closing.specs.Search.{flag_absent, absent_in, first_absent}
use Rattle.closing.proofs.laws.SearchLaws.{or_first, or_second, passed, passed-due, stops-account, stops-residuals}
use Rattle.closing.proofs.search.first_absent.Goals as goal
use Rattle.closing.proofs.search.first_absent.Goals.{In-Some, in-Some+else-is_zero-3+else-loop-a-2-test, in_default}

-- an interval's length, as the code has it, is `interval_length n`
module _ (w : List ℤ) (n today then i : ℕ) where
  accounts-at : (m : ℕ) {size : ℕ} {x : Option ℕ} → size ≡ interval_length n → first m (account_searched (flag_absent w size today then i)) ≡ x
      → first m (account_searched (flag_absent w (interval_length n) today then i)) ≡ x
  accounts-at m {size} {x} e = subst (λ (z : ℕ). first m (account_searched (flag_absent w z today then i)) ≡ x) e

  account-at : (a : ℕ) {size : ℕ} {x : Option ℕ} → size ≡ interval_length n → account_searched (flag_absent w size today then i) a ≡ x → account_searched (flag_absent w (interval_length n) today then i) a ≡ x
  account-at a {size} {x} e = subst (λ (z : ℕ). account_searched (flag_absent w z today then i) a ≡ x) e

  residuals-at : {size : ℕ} {x : Option ℕ} → size ≡ interval_length n → residuals_searched n (flag_absent w size today then i) ≡ x → residuals_searched n (flag_absent w (interval_length n) today then i) ≡ x
  residuals-at {size} {x} e = subst (λ (z : ℕ). residuals_searched n (flag_absent w z today then i) ≡ x) e

-- what a word's test told
told : (w : List ℤ) (at : ℕ) {t b : Bool} → SFits w64 (word w at) → t ≡ is_zero (to_z w64 (of_z w64 (word w at))) → t ≡ b → is_zero (word w at) ≡ b
told w at f e b = ap is_zero (sym (to_z-of_z w64 (word w at) f)) ∙ sym e ∙ b

pub loop-i-init : goal.loop-i-init
unfolding fold
loop-i-init c = record { given = refl; none = refl }

pub loop-a-init : goal.loop-a-init
unfolding fold
loop-a-init c = record { given = c.loop-i.invariant.given; none = refl }

pub loop-a-preserved : goal.loop-a-preserved
loop-a-preserved c =
    let l = c.loop-a in
    let w = c.args.book.now in
    let f : SFits w64 (word w (c.args.today + c.loop-i.i * c.interval_length-size.result + (interval_words + l.a * account_words) + 0)) = search rules in
    let g : SFits w64 (word w (c.args.today + c.loop-i.i * c.interval_length-size.result + (interval_words + l.a * account_words) + 9)) = search rules in
    record {
      given = l.invariant.given;
      none = first_more l.a _ l.invariant.none (or_second (absent-not w _ (told w _ f c.is_zero.ensures c.if-is_zero.false)) (absent-not w _ (told w _ g c.is_zero-in-loop-a.ensures c.if-is_zero-2.false)));
    }

-- the interval of a turn lies within then's slot
settled-fits : (c : In-Some) → c.in-Some.start + c.loop-i.i * c.interval_length-size.result + c.interval_length-size.result ≤ length c.args.book.now
settled-fits c =
    let k = c.interval_length-size in
    let l : c.loop-i.i < intervals = omega arith in
    omega (arith, row_fits_lem c.loop-i.i intervals k.result l, k.ensures, c.requires.settled c.in-Some.start (sym c.loop-a.invariant.given ∙ c.in-Some.is))

pub overflow_add-at-in-Some : goal.overflow_add-at-in-Some
overflow_add-at-in-Some c = omega (arith, settled-fits (goal.at.overflow_add-at-in-Some c).In-Some)

pub overflow_add-at-in-Some-2 : goal.overflow_add-at-in-Some-2
overflow_add-at-in-Some-2 c = omega (arith, settled-fits (goal.at.overflow_add-at-in-Some-2 c).In-Some, c.interval_length-size.ensures)

pub offset_bounds-book-at-in-Some : goal.offset_bounds-book-at-in-Some
offset_bounds-book-at-in-Some c = omega (arith, settled-fits (goal.at.offset_bounds-book-at-in-Some c).In-Some, c.interval_length-size.ensures)

pub bounds-book-at-in-Some : goal.bounds-book-at-in-Some
bounds-book-at-in-Some c = omega (arith, settled-fits (goal.at.bounds-book-at-in-Some c).In-Some, c.interval_length-size.ensures)

pub overflow_add-result-then-is_zero-3 : goal.overflow_add-result-then-is_zero-3
overflow_add-result-then-is_zero-3 c = omega (arith, settled-fits (goal.at.overflow_add-result-then-is_zero-3 c).In-Some, c.interval_length-size.ensures)

pub loop-a-2-init : goal.loop-a-2-init
unfolding fold
loop-a-2-init c = refl

pub bounds-book-flag : goal.bounds-book-flag
bounds-book-flag c =
    omega (arith, settled-fits (goal.at.bounds-book-flag c).In-Some, row_fits_lem c.loop-a-2.a c.args.n account_words c.loop-a-2-test.true, c.interval_length-size.ensures)

pub loop-a-2-preserved : goal.loop-a-2-preserved
loop-a-2-preserved c =
    let l = c.loop-a-2 in
    let w = c.args.book.now in
    let f : SFits w64 (word w (c.in-Some.start + c.loop-i.i * c.interval_length-size.result + (22 + l.a * account_words))) = search rules in
    first_more l.a _ l.invariant (absent-not w _ (told w _ f c.is_zero-in-loop-a-2.ensures c.if-is_zero-4.false))

pub loop-i-preserved : goal.loop-i-preserved
loop-i-preserved c =
    let l = c.loop-a in
    let k = c.interval_length-size in
    let g = c.args in
    let b = g.book.now in
    let e : l.a ≡ g.n = omega arith in
    elim c.match-then.branch [
      | in-Some+else-is_zero-3+else-loop-a-2-test w ↦
          let start = w.in-Some.start in
          let is : g.then ≡ Some start = sym l.invariant.given ∙ w.in-Some.is in
          let q : w.loop-a-2.a ≡ g.n = omega (arith, w.loop-a-2-test.false, w.loop-a-2.auto.a-end) in
          let f : SFits w64 (word b (start + c.loop-i.i * k.result + 1)) = search rules in
          record {
            given = w.then-is ∙ sym is;
            none =
                rw is
                (passed-due b g.n g.today start true c.loop-i.i (rw is at c.loop-i.invariant.none) (accounts-at b g.n g.today start c.loop-i.i g.n k.ensures (rw (is, e) at l.invariant.none)) refl
                (residuals-at b g.n g.today start c.loop-i.i k.ensures (or_second (absent-not b _ (told b _ f w.is_zero-in-Some.ensures w.if-is_zero-3.false)) (rw q at w.loop-a-2.invariant))));
          }
      | in_default w ↦
          let is : g.then ≡ None = sym l.invariant.given ∙ w.in_default.is in
          record {
            given = w.then-is ∙ l.invariant.given;
            none =
                rw is
                (passed b g.n g.today 0 false c.loop-i.i (rw is at c.loop-i.invariant.none) (accounts-at b g.n g.today 0 c.loop-i.i g.n k.ensures (rw (is, e) at l.invariant.none)) refl);
          }
    ]

pub returns-then-is_zero : goal.returns-then-is_zero
unfolding first_absent
returns-then-is_zero c =
    let l = c.loop-a in
    let k = c.interval_length-size in
    let g = c.args in
    let then = unwrap_or g.then 0 in
    let w = g.book.now in
    let f : SFits w64 (word w (g.today + c.loop-i.i * k.result + (interval_words + l.a * account_words) + 0)) = search rules in
    let v = told w _ f c.is_zero.ensures c.if-is_zero.true in
    sym (stops-account w g.n g.today then (is_some g.then) c.loop-i.i c.loop-i.invariant.none l.a (omega arith) c.loop-a-test.true
    (accounts-at w g.n g.today then c.loop-i.i l.a k.ensures l.invariant.none) (account-at w g.n g.today then c.loop-i.i l.a k.ensures (or_first _ (absent-here w _ v))))

pub returns-then-is_zero-2 : goal.returns-then-is_zero-2
unfolding first_absent
returns-then-is_zero-2 c =
    let l = c.loop-a in
    let k = c.interval_length-size in
    let g = c.args in
    let then = unwrap_or g.then 0 in
    let w = g.book.now in
    let f : SFits w64 (word w (g.today + c.loop-i.i * k.result + (interval_words + l.a * account_words) + 0)) = search rules in
    let h : SFits w64 (word w (g.today + c.loop-i.i * k.result + (interval_words + l.a * account_words) + 9)) = search rules in
    let v = told w _ f c.is_zero.ensures c.if-is_zero.false in
    let m = told w _ h c.is_zero-in-loop-a.ensures c.if-is_zero-2.true in
    sym (stops-account w g.n g.today then (is_some g.then) c.loop-i.i c.loop-i.invariant.none l.a (omega arith) c.loop-a-test.true
    (accounts-at w g.n g.today then c.loop-i.i l.a k.ensures l.invariant.none) (account-at w g.n g.today then c.loop-i.i l.a k.ensures (or_second (absent-not w _ v) (absent-here w _ m))))

-- where a residual is due: what the walks told so far
module _ (c : In-Some) where
  is : c.args.then ≡ Some c.in-Some.start
  is = sym c.loop-a.invariant.given ∙ c.in-Some.is

  before : first c.loop-i.i (absent_in c.args.book.now c.args.n c.args.today c.in-Some.start true) ≡ None
  before = rw is at c.loop-i.invariant.none

  accounts : first c.args.n (account_searched (flag_absent c.args.book.now (interval_length c.args.n) c.args.today c.in-Some.start c.loop-i.i)) ≡ None
  accounts =
      let e : c.loop-a.a ≡ c.args.n = omega arith in
      accounts-at c.args.book.now c.args.n c.args.today c.in-Some.start c.loop-i.i c.args.n c.interval_length-size.ensures (rw (is, e) at c.loop-a.invariant.none)

pub returns-then-is_zero-3 : goal.returns-then-is_zero-3
unfolding first_absent
returns-then-is_zero-3 c =
    let p = (goal.at.returns-then-is_zero-3 c).In-Some in
    let k = c.interval_length-size in
    let g = c.args in
    let w = g.book.now in
    let f : SFits w64 (word w (c.in-Some.start + c.loop-i.i * k.result + 1)) = search rules in
    let v = told w _ f c.is_zero-in-Some.ensures c.if-is_zero-3.true in
    rw (is p) (sym (stops-residuals w g.n g.today c.in-Some.start true c.loop-i.i (before p) (omega arith) (accounts p) refl (residuals-at w g.n g.today c.in-Some.start c.loop-i.i k.ensures (or_first _ (absent-here w _ v)))))

pub returns-then-is_zero-4 : goal.returns-then-is_zero-4
unfolding first_absent
returns-then-is_zero-4 c =
    let p = (goal.at.returns-then-is_zero-4 c).In-Some in
    let l = c.loop-a-2 in
    let k = c.interval_length-size in
    let g = c.args in
    let w = g.book.now in
    let f : SFits w64 (word w (c.in-Some.start + c.loop-i.i * k.result + 1)) = search rules in
    let h : SFits w64 (word w (c.in-Some.start + c.loop-i.i * k.result + (22 + l.a * account_words))) = search rules in
    let v = told w _ f c.is_zero-in-Some.ensures c.if-is_zero-3.false in
    let r = absent-here w _ (told w _ h c.is_zero-in-loop-a-2.ensures c.if-is_zero-4.true) in
    rw (is p) (sym (stops-residuals w g.n g.today c.in-Some.start true c.loop-i.i (before p) (omega arith) (accounts p) refl
    (residuals-at w g.n g.today c.in-Some.start c.loop-i.i k.ensures (or_second (absent-not w _ v) (first_stops g.n _ l.a _ c.loop-a-2-test.true l.invariant r)))))

pub returns-after-loop-i : goal.returns-after-loop-i
unfolding first_absent
returns-after-loop-i c = let e : c.loop-i.i ≡ intervals = omega arith in sym (rw e at c.loop-i.invariant.none)
