-- A newly opened book holds no rows. Assumes nothing.
use Rattle.std.specs.Prelude.{◌≡◌, refl, List, ℕ, zero, suc, ◌≤◌, ◌<◌, ℤ, ◌+ℤ◌, length}
use Rattle.std.proofs.Common.{sym, ◌∙◌, zero-add, add-zero}
use Rattle.std.proofs.Math.Path.{ap, subst}
use Rattle.std.proofs.Math.Nat.{mod-lt}
use native.Mathlib.Omega.{arith}
use Rattle.std.proofs.Math.IntN.{pos}
use Rattle.std.proofs.Math.ListN.{get_or-eq_default}
use Rattle.integer.specs.Below.{fold, sum_ℤ}
use Rattle.integer.specs.Words.{word}
use Rattle.rulebook.specs.declared.Section.{Section}
use Rattle.rulebook.specs.declared.Terms.{Terms}
use Rattle.rulebook.specs.Layout.{stored, ring, base, size, slot, interval_word, row_word, mark_word, accounts_word, lag_word, horizon_word, first_day_word, next_day_word, mssl_word, change_day_word, differences_word, balance_word, balance_padding, header_padding}
use Rattle.rulebook.specs.WindowWalk.{window_slot}
use Rattle.rulebook.specs.Opening.{header, new_book}
use Rattle.rulebook.specs.Ledger.{HoldsLedger}
use Rattle.rulebook.proofs.laws.LayoutLaws.{interval-inside}
use Rattle.rulebook.proofs.laws.WordLaws.{stored-in, length-stored, row_word-inside}
use Rattle.rulebook.proofs.laws.LedgerLaws.{padding-fits}
use Rattle.rulebook.proofs.laws.CloseLaws.{base-fits}

pub sum_zero : (n : ℕ) → sum_ℤ n (λ a. pos 0) ≡ pos 0
unfolding fold
sum_zero zero = refl
sum_zero (suc n) = ap (λ (x : ℤ). x +ℤ pos 0) (sum_zero n)

module _ (o : Terms) (lent : List ℤ) (p : zero < ring o) (l : size o ≤ length lent) where
  pub new_word : (n : ℕ) → n < size o → word (new_book o lent) n ≡ word (header o) n
  unfolding new_book
  new_word n h = subst (λ (m : ℕ). word (stored lent 0 (size o) (word (header o))) m ≡ word (header o) n) (zero-add n)
      (stored-in lent 0 (size o) (word (header o)) n (omega arith) h)

  new_zero : (n : ℕ) → n < size o → 9 ≤ n → word (new_book o lent) n ≡ pos 0
  new_zero n h k = new_word n h ∙ get_or-eq_default (header o) (pos 0) k

  late : (t i m : ℕ) → 9 ≤ interval_word o t i m
  unfolding interval_word base
  late t i m = omega arith

  pub book-new : HoldsLedger o (record { closed = 0; entries = λ s a d i j. pos 0; balance = λ a. pos 0; mssl = pos 0; differences = pos 0 }) (new_book o lent)
  unfolding base new_book
  book-new = record {
    long = omega (arith, l, length-stored lent 0 (size o) (word (header o)));
    mark = new_word mark_word (omega (arith, base-fits o));
    accounts = new_word accounts_word (omega (arith, base-fits o));
    lag = new_word lag_word (omega (arith, base-fits o));
    horizon = new_word horizon_word (omega (arith, base-fits o));
    first = new_word first_day_word (omega (arith, base-fits o));
    next = new_word next_day_word (omega (arith, base-fits o)) ∙ ap pos (sym (add-zero o.first));
    mssl = new_word mssl_word (omega (arith, base-fits o));
    change = new_word change_day_word (omega (arith, base-fits o));
    differences = new_word differences_word (omega (arith, base-fits o));
    header_zeros = λ n x. new_zero (header_padding n) (omega (arith, base-fits o)) (omega arith);
    balances = λ a x. new_zero (balance_word a) (omega (arith, base-fits o)) (omega arith);
    balance_zeros = λ a j x y. new_zero (balance_padding a j) (omega (arith, base-fits o)) (omega arith);
    held = λ s a d i j x ha hi hj. new_zero (row_word o s a d i j) (row_word-inside o s d p ha hi hj) (row-late s a d i j);
    early = λ u i m x hi hm. new_zero (interval_word o (window_slot o 0 u) i m) (interval-inside o (window-inside u) hi hm) (late (window_slot o 0 u) i m);
    padding = λ t i m ht hi hm. new_zero (interval_word o t i m) (interval-inside o ht hi (padding-fits o m hm)) (late t i m);
  }
    where
      row-late : (s : Section) (a d i j : ℕ) → 9 ≤ row_word o s a d i j
      row-late s a d i j = unfold row_word in late (slot o d) i _

      window-inside : (u : ℕ) → window_slot o 0 u < ring o
      window-inside u = unfold window_slot in mod-lt _ p
