-- A book passes the test exactly if it is well formed in document 01's figures. Assumes nothing.
use Rattle.std.specs.Prelude.{◌≡◌, List, ℕ, ◌+◌, ◌-◌, ◌*◌, T, ℤ}
use Rattle.std.proofs.Math.Path.{subst, sym, ap}
use Rattle.std.proofs.Common.{◌∙◌, arith, mul_comm, mul_assoc}
use Rattle.std.proofs.Math.IntN.{pos}
use Rattle.integer.specs.Words.{word}
use Rattle.rulebook.specs.declared.Terms.{Terms}
use Rattle.rulebook.specs.Layout.{header_padding, base, ring, interval_size, size}
use Rattle.rulebook.specs.BookData.{terms_of, next_day}
use Rattle.rulebook.specs.WellFormed.{difference_bound, days_fit, contents_fit, fits, well_formed}
use Rattle.rulebook.specs.FormedBook.{FormedBook}
use Rattle.rulebook.proofs.laws.TestLaws.{and_left, and_right}
use Rattle.rulebook.proofs.laws.WindowLaws.{days-fit_say, say_days_fit}
use Rattle.rulebook.proofs.laws.HeaderLaws.{HeaderSays, book-passes}
use Rattle.rulebook.proofs.laws.DayFormedLaws.{days-say, say_days}
use Rattle.rulebook.proofs.laws.FormedLaws.{formed-holds, opened_of, next_of, balance-at, mssl-at, differences-at, all_fits}

-- the bound of word 8: 500 × N × k, and N sums of k days of 500
bound-same : (n k : ℕ) → n * (k * difference_bound) ≡ 500 * n * k
bound-same n k = ap (λ (x : ℕ). n * x) (mul_comm k 500) ∙ sym (mul_assoc n 500 k) ∙ ap (λ (x : ℕ). x * k) (mul_comm n 500)

-- ---- What the test says

module _ (w : List ℤ) (t : T (well_formed w)) where
  days-of : T (days_fit (terms_of w) w (next_day w))
  unfolding fits contents_fit
  days-of = let x = all_fits w t in search (and_left, and_right) depth 6

  pub formed-book : FormedBook (terms_of w) (next_day w) w
  unfolding size base ring interval_size
  formed-book =
      let h = formed-holds w t in
      record {
        long = h.long;
        mark = h.mark;
        accounts = h.accounts;
        lag = h.lag;
        horizon = h.horizon;
        first = h.first;
        next = (next_of w t).0;
        mssl = mssl-at w t;
        change = h.change;
        differences = omega (arith, differences-at w t, bound-same (terms_of w).accounts (next_day w - (terms_of w).first));
        header_zeros = λ n a b. subst (λ (m : ℕ). word w m ≡ pos 0) (omega arith) (h.header_zeros (n - 9) (omega arith));
        balances = balance-at w t;
        balance_zeros = λ a j ha x y. subst (λ (m : ℕ). word w m ≡ pos 0) (omega arith) (h.balance_zeros a (j - 1) ha (omega arith));
        terms = opened_of w t;
        begun = (next_of w t).1;
        ended = (next_of w t).2;
        days = days-say (terms_of w) w (next_day w) (days-fit_say (terms_of w) w (next_day w) days-of);
      }

-- ---- What passes it

module _ (o : Terms) (C : ℕ) (w : List ℤ) (h : FormedBook o C w) where
  header-formed : HeaderSays o C w
  header-formed = record {
    mark = h.mark;
    accounts = h.accounts;
    lag = h.lag;
    horizon = h.horizon;
    first = h.first;
    next = h.next;
    change = h.change;
    zeros = λ n l. h.header_zeros (header_padding n) (omega arith) (omega arith);
    terms = h.terms;
    begun = h.begun;
    ended = h.ended;
  }

  pub book-formed : T (well_formed w)
  unfolding size base ring interval_size
  book-formed = book-passes o C w header-formed h.long h.mssl (omega (arith, h.differences, bound-same o.accounts (C - o.first))) h.balances
      (λ a j ha hj. subst (λ (m : ℕ). word w m ≡ pos 0) (omega arith) (h.balance_zeros a (1 + j) ha (omega arith) (omega arith)))
      (say_days_fit o w C (say_days o w C h.days))
