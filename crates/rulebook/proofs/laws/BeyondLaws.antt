-- Words beyond the book's size, and beyond the statement's N + 1, are kept; what a statement holds. Assumes nothing.
use Rattle.std.specs.Prelude.{◌≡◌, refl, Bool, cond, ℕ, zero, suc, ◌+◌, ◌*◌, ◌≤◌, ◌<◌, length, set}
use Rattle.std.proofs.Math.Path.{sym, ap, subst}
use Rattle.std.proofs.Common.{◌∙◌, zero-add, mul_assoc, mul_comm, arith}
use Rattle.std.proofs.Math.Bool.{true, false}
use mathlib.Core.List.{List, [], ◌∷◌}
use Rattle.std.proofs.Math.Arith.{digits_lt}
use Rattle.std.proofs.Math.IntN.{ℤ, pos}
use Rattle.std.proofs.Math.ListN.{length-set}
use Rattle.std.proofs.Math.Seq.{get_or-set_same, get_or-set_other}
use Rattle.integer.specs.Below.{Each}
use Rattle.integer.specs.Words.{word}
use Rattle.rulebook.specs.declared.Terms.{Terms}
use Rattle.rulebook.specs.DayAmount.{settles_residual, residual_day}
use Rattle.rulebook.specs.Layout.{stored, base, ring, size, interval_size, slot_length, slot, slot_start, interval_word, next_day_word}
use Rattle.rulebook.specs.Opening.{header, new_book}
use Rattle.rulebook.specs.File.{Row}
use Rattle.rulebook.specs.Submit.{row_stored, rows_stored}
use Rattle.rulebook.specs.Close.{posted, posted_to_mssl, sums_grown, slot_blanked, day_closed, statement_written}
use Rattle.rulebook.specs.Companion.{KeptFrom}
use Rattle.rulebook.proofs.laws.LayoutLaws.{slot-inside}
use Rattle.rulebook.proofs.laws.WordLaws.{stored-in, stored-out, length-stored, row_out, length-row_stored, row_word-inside}
use Rattle.rulebook.proofs.laws.LedgerLaws.{Storable}
use Rattle.rulebook.proofs.laws.CloseLaws.{slot-form, length-sums, sums-out}

pub kept-all : (n : ℕ) (w : List ℤ) → KeptFrom n w w
kept-all n w = record { long = refl; words = λ m h. refl }

pub kept_then : (n : ℕ) (u v w : List ℤ) → KeptFrom n u v → KeptFrom n v w → KeptFrom n u w
kept_then n u v w h k = record { long = k.long ∙ h.long; words = λ m x. k.words m x ∙ h.words m x }

-- ---- The book

module _ (o : Terms) where
  pub new_beyond : (lent : List ℤ) → KeptFrom (size o) lent (new_book o lent)
  unfolding new_book
  new_beyond lent = record {
    long = length-stored lent 0 (size o) (word (header o));
    words = λ m h. stored-out lent 0 (size o) (word (header o)) m (λ j hj e. omega arith);
  }

  module _ (p : zero < ring o) where
    pub rows-beyond : (k : ℕ) (rs : List Row) (w : List ℤ) → Each (Storable o k) rs → KeptFrom (size o) w (rows_stored o rs w)
    unfolding rows_stored
    rows-beyond k [] w x = kept-all (size o) w
    rows-beyond k (r ∷ rs) w x = kept_then (size o) w (row_stored o r 48 w) (rows_stored o rs (row_stored o r 48 w))
        (record {
          long = length-row_stored o r 48 w;
          words = λ m h. row_out o r 48 w m (λ i j hi hj e. omega (arith, row_word-inside o r.section r.day p x.0.account hi hj));
        })
        (rows-beyond k rs (row_stored o r 48 w) x.1)

    -- r's slot lies within the size
    slot-below : (t j : ℕ) → t < ring o → j < 48 * interval_size o → interval_word o t 0 0 + j < size o
    unfolding size
    slot-below t j ht hj =
        let x : t * (48 * interval_size o) + j < ring o * (48 * interval_size o) = digits_lt ht hj in
        let e : ring o * (48 * interval_size o) ≡ 48 * ring o * interval_size o = sym (mul_assoc (ring o) 48 (interval_size o)) ∙ ap (λ (y : ℕ). y * interval_size o) (mul_comm (ring o) 48) in
        omega (arith, slot-form o t 0 0)

    pub blanked_beyond : (D : ℕ) (v : List ℤ) → KeptFrom (size o) v (slot_blanked o D v)
    unfolding slot_blanked slot_start interval_size
    blanked_beyond D v = go (settles_residual o D)
      where
        go : (b : Bool) → KeptFrom (size o) v (cond b (stored v (slot_start o (residual_day o D)) (slot_length o.accounts) (λ m. pos 0)) v)
        go true = record {
          long = length-stored v _ _ _;
          words = λ m h. stored-out v (slot_start o (residual_day o D)) (slot_length o.accounts) (λ m. pos 0) m
              (λ j hj e. omega (arith, slot-below (slot o (residual_day o D)) j (slot-inside o (residual_day o D) p) hj));
        }
        go false = kept-all (size o) v

    pub closed-beyond : (w : List ℤ) (D : ℕ) → KeptFrom (size o) w (day_closed o w D)
    unfolding day_closed size base
    closed-beyond w D =
        kept_then (size o) w (set (sums_grown o w D) next_day_word (pos (suc D))) _
        (record {
          long = length-set (sums_grown o w D) next_day_word (pos (suc D)) ∙ length-sums o w D;
          words = λ m h. get_or-set_other (sums_grown o w D) next_day_word m (pos (suc D)) (pos 0) (omega arith) ∙ sums-out o w D m (omega arith) (omega arith) (λ a x e. omega arith);
        })
        (blanked_beyond D (set (sums_grown o w D) next_day_word (pos (suc D))))

-- ---- The statement

module _ (o : Terms) (w : List ℤ) (D : ℕ) (st : List ℤ) where
  pub statement-beyond : KeptFrom (o.accounts + 1) st (statement_written o w D st)
  unfolding statement_written
  statement-beyond = record {
    long = length-set (stored st 0 o.accounts (posted o w D)) o.accounts (posted_to_mssl o w D) ∙ length-stored st 0 o.accounts (posted o w D);
    words = λ m h. get_or-set_other (stored st 0 o.accounts (posted o w D)) o.accounts m (posted_to_mssl o w D) (pos 0) (omega arith)
        ∙ stored-out st 0 o.accounts (posted o w D) m (λ j hj e. omega arith);
  }

  module _ (room : o.accounts + 1 ≤ length st) where
    pub statement-amount : (a : ℕ) → a < o.accounts → word (statement_written o w D st) a ≡ posted o w D a
    unfolding statement_written
    statement-amount a ha =
        get_or-set_other (stored st 0 o.accounts (posted o w D)) o.accounts a (posted_to_mssl o w D) (pos 0) (omega arith)
        ∙ subst (λ (m : ℕ). word (stored st 0 o.accounts (posted o w D)) m ≡ posted o w D a) (zero-add a) (stored-in st 0 o.accounts (posted o w D) a (omega arith) ha)

    pub statement-mssl : word (statement_written o w D st) o.accounts ≡ posted_to_mssl o w D
    unfolding statement_written
    statement-mssl = get_or-set_same (stored st 0 o.accounts (posted o w D)) o.accounts (posted_to_mssl o w D) (pos 0) (omega (arith, length-stored st 0 o.accounts (posted o w D)))
