-- What the code writes, in steps. Assumes nothing.
use Rattle.std.specs.Prelude.{◌≡◌, List, ℕ, ◌+◌, ◌*◌, ◌≤◌, ◌<◌, ℤ, pos, neg_ℤ, nat_abs, ◌+ℤ◌, length, set, take}
use Rattle.std.proofs.Math.Path.{refl}
use Rattle.std.proofs.Common.{sym, ap, add-one, arith, length-take-le, get_or-take}
use Rattle.integer.specs.Below.{sum_ℤ}
use Rattle.integer.proofs.laws.BelowLaws.{abs-sum_ℤ, sum_ℤ-cong}
use Rattle.integer.specs.Words.{word}
use Rattle.rulebook.specs.Layout.{balance_word, header_words}
use Rattle.rulebook.specs.WellFormed.{day_bound}
use Rattle.rulebook.specs.DayAmount.{minus_sum}
use Rattle.rulebook.specs.Close.{balances_grown_by}
use Rattle.rulebook.proofs.laws.CloseLaws.{grown-out, grown-cong}
use Rattle.closing.specs.Written.{Small, BalancesRoom}

-- ---- Sums

pub amounts-le : (n m : ℕ) (st : List ℤ) → Small n st → m ≤ n → nat_abs (sum_ℤ m (word st)) ≤ m * day_bound
amounts-le n m st s h = abs-sum_ℤ m day_bound (word st) (λ a l. s.each a (omega arith))

-- ---- Balances

module _ (w : List ℤ) (f : ℕ → ℤ) where
  pub grown-none : w ≡ balances_grown_by w f 0
  unfolding balances_grown_by
  grown-none = refl

  -- the words from the next balance on, and those of the header, are kept
  pub grown-next : (n m : ℕ) → balance_word n ≤ m → word (balances_grown_by w f n) m ≡ word w m
  grown-next n m h = grown-out w f n m (λ a l e. omega arith)

  pub grown-header : (n m : ℕ) → m < header_words → word (balances_grown_by w f n) m ≡ word w m
  grown-header n m h = grown-out w f n m (λ a l e. omega arith)

  -- one more
  pub grown-step : (n : ℕ) {v : List ℤ} {x : ℤ} → v ≡ balances_grown_by w f n → x ≡ f n → set v (balance_word n) (word v (balance_word n) +ℤ x) ≡ balances_grown_by w f (n + 1)
  unfolding balances_grown_by
  grown-step n e g = rw (e, g, grown-next n (balance_word n) (omega arith)) (sym (ap (balances_grown_by w f) (add-one n)))

-- ---- The statement's first n words, lent

module _ (n : ℕ) (st : List ℤ) (h : n ≤ length st) where
  pub long-lent : length (take n st) ≡ n
  long-lent = length-take-le n st h

  same : (a : ℕ) → a < n → word (take n st) a ≡ word st a
  same a l = get_or-take n st a (pos 0) l

  pub small-lent : Small n st → Small (length (take n st)) (take n st)
  small-lent s = record {
    room = omega arith;
    each = λ a l. let k : a < n = omega (arith, long-lent) in rw (same a k) (s.each a k);
  }

  pub minus-lent : minus_sum (length (take n st)) (word (take n st)) ≡ minus_sum n (word st)
  minus-lent = rw long-lent (ap neg_ℤ (sum_ℤ-cong n (word (take n st)) (word st) same))

  module _ (w : List ℤ) where
    pub room-lent : BalancesRoom n w st → BalancesRoom (length (take n st)) w (take n st)
    room-lent r = record {
      book = omega (arith, long-lent, r.book);
      statement = omega arith;
      each = λ a l. let k : a < n = omega (arith, long-lent) in rw (same a k) (r.each a k);
    }

    pub grown-lent : balances_grown_by w (word (take n st)) (length (take n st)) ≡ balances_grown_by w (word st) n
    grown-lent = rw long-lent (grown-cong w (word (take n st)) (word st) n same)
