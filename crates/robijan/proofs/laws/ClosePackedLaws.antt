-- The amounts of an accepted close are at most 32 times the bound of a day, 153,600,000,000,000: of at most 15 digits. Assumes nothing.
use Rattle.std.specs.Prelude.{◌≡◌, List, ℕ, ◌+◌, ◌*◌, ◌≤◌, ◌<◌, ℤ, pos, nat_abs, length}
use Rattle.std.proofs.Common.{ap, ⊎_elim, mul-le-mul_right, arith, get_or-take, length-take-le}
use Rattle.integer.proofs.laws.BelowLaws.{lt_or_le, abs-sum_ℤ}
use Rattle.integer.proofs.laws.IntegerLaws.{abs_neg}
use Rattle.integer.specs.Words.{word}
use Rattle.rulebook.specs.BookData.{terms_of}
use Rattle.rulebook.specs.WellFormed.{day_bound}
use Rattle.rulebook.specs.Close.{closed}
use Rattle.rulebook.specs.Numbers.{accepted, of_close}
use Rattle.rulebook.proofs.laws.FormedLaws.{opened_of}
use Rattle.rulebook.proofs.laws.BookSizeLaws.{close-amount}
use Rattle.rulebook.proofs.laws.LeavesLaws.{accepted-settled, closed-leaves}
use Rattle.packed.specs.Packed.{pack_call}
use Rattle.packed.specs.PackedTable.{Statement}
use Rattle.packed.proofs.laws.PackTableLaws.{pack-done}
use Rattle.packed.proofs.laws.ThereAndBackLaws.{written_read}
use Rattle.robijan.specs.ClosePacked.{amounts_of, ClosePacked}

module _ (w st : List ℤ) (e : (of_close (closed w st).answer).number ≡ accepted) where
  abbrev n : ℕ
  n = (terms_of w).accounts

  abbrev written : List ℤ
  written = (closed w st).statement

  few : (1 ≤ n) × (n ≤ 32)
  few = let o = opened_of w (accepted-settled w st e).formed in (o.accounts_from, o.accounts_to)

  account-size : (a : ℕ) → a < n → nat_abs (word written a) ≤ day_bound
  account-size a l = let s = accepted-settled w st e in rw ((closed-leaves w st e).amounts a l) (close-amount w s.formed s.left a l)

  mssl-size : nat_abs (word written n) ≤ n * day_bound
  mssl-size = rw ((closed-leaves w st e).mssl_amount, abs_neg) (abs-sum_ℤ n day_bound (word written) account-size)

  word_size : (i : ℕ) → i < n + 1 → nat_abs (word written i) ≤ 999999999999999
  word_size i l =
      ⊎_elim (λ (h : i < n). omega (arith, account-size i h))
      (λ (h : n ≤ i).
      let q : i ≡ n = omega arith in
      rw q (omega (arith, mssl-size, mul-le-mul_right day_bound few.1)))
      (lt_or_le i n)

  long : length (amounts_of w st) ≡ n + 1
  long = length-take-le (n + 1) written (omega (arith, (closed-leaves w st e).beyond.long, (accepted-settled w st e).room))

  statement-of : Statement (amounts_of w st)
  statement-of = record {
    from = omega (arith, long, few.0);
    to = omega (arith, long, few.1);
    digits = λ i l. let h : i < n + 1 = omega (arith, long) in rw (get_or-take (n + 1) written i (pos 0) h) (word_size i h);
  }

  pub close-packed : ClosePacked w st
  close-packed = record {
    packed = λ bytes r. ap (λ p. p.number) (pack-done (amounts_of w st) bytes statement-of (omega (arith, long)));
    back = λ bytes output r q.
        let d : (pack_call (amounts_of w st) bytes).number ≡ 0 = ap (λ p. p.number) (pack-done (amounts_of w st) bytes statement-of (omega (arith, long))) in
        rw long at (written_read (amounts_of w st) bytes output d (omega (arith, long)));
  }
