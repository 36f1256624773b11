-- The amount posted from two slots is the rule book's. Assumes nothing.
use Rattle.std.specs.Prelude.{◌≡◌, refl, Bool, true, false, cond, List, ℕ, ◌≤◌, ◌<◌, T, ℤ, pos, Some, None, option_map}
use Rattle.std.proofs.Math.Path.{sym, ap}
use Rattle.std.proofs.Common.{◌∙◌}
use Rattle.integer.proofs.laws.BelowLaws.{sum_ℤ-cong}
use Rattle.rulebook.specs.declared.Terms.{Terms}
use Rattle.rulebook.specs.Units.{last_day, intervals}
use Rattle.rulebook.specs.DayAmount as rule
use Rattle.rulebook.specs.DayAmount.{spare_generation, residual_load, rvq, settles_residual, residual_day, edition_of, interval_amount, exact_amount}
use Rattle.rulebook.specs.Layout.{interval_of}
use Rattle.rulebook.specs.BookData.{book_data, terms_of, next_day}
use Rattle.rulebook.specs.WellFormed.{well_formed}
use Rattle.rulebook.specs.Bounds.{SizedDay}
use Rattle.rulebook.proofs.laws.SecondShareLaws.{edition-by}
use Rattle.rulebook.proofs.laws.AmountLaws.{SameFigures, vesting-same, residual-same}
use Rattle.rulebook.proofs.laws.BookSizeLaws.{close-sized}
use Rattle.amounts.specs.Cell.{cell_data}
use Rattle.amounts.proofs.laws.CellLaws.{sum_cong}
use Rattle.amounts.specs.Interval.{load_in, data_in}
use Rattle.amounts.specs.Total.{posted_of}
use Rattle.amounts.specs.Day.{cell_at, sum_in, share_in, cell_residual, residual_amount, slot_amount, total_to, slot_posted}
use Rattle.closing.specs.Slots.{slot_words, settled_day, then_of, settled_then}
use Rattle.closing.proofs.laws.SlotDataLaws.{load_same, cell-alike}

-- ---- One interval

module _ (o : Terms) (w : List ℤ) (a : ℕ) (ha : a < o.accounts) where
  module _ (d : ℕ) (sized : SizedDay o.accounts (book_data o w) d) (i : ℕ) (hi : i < intervals) where
    abbrev interval : List ℤ
    interval = interval_of o.accounts (slot_words o w d) i

    alike : (b : ℕ) → b < o.accounts → SameFigures ((book_data o w).account b d i) (data_in interval b)
    alike b hb = cell-alike o w d b i hb hi (sized b i hb hi).few

    -- an account's share of the slot is the rule book's, of R and S of the interval
    share-same : rvq (load_in interval) o.accounts (data_in interval) (edition_of o d) a ≡ share_in (then_of o w d) a i
    unfolding rvq spare_generation share_in sum_in
    share-same = edition-by (edition_of o d) (residual_load (load_in interval) o.accounts (data_in interval)) o.accounts (λ b. (data_in interval b).uegq) a

    -- the residual amount of the book's data is that of the slot's cell, of its share
    slot-residual : rule.residual_amount ((book_data o w).load d i) o.accounts (λ b. (book_data o w).account b d i) (edition_of o d) a ≡ residual_amount (Some (then_of o w d)) a i
    unfolding rule.residual_amount residual_amount
    slot-residual =
        residual-same ((book_data o w).load d i) o.accounts (λ b. (book_data o w).account b d i) (data_in interval) alike (edition_of o d) a ha
        ∙ ap (λ (l : ℕ). rule.residual_amount l o.accounts (data_in interval) (edition_of o d) a) (load_same o w d i hi)
        ∙ ap (cell_residual (cell_at o.accounts (slot_words o w d) a i)) share-same

  -- ---- The day

  module _ (D : ℕ) (now : SizedDay o.accounts (book_data o w) D) (then : T (settles_residual o D) → SizedDay o.accounts (book_data o w) (residual_day o D)) where
    amount-same : (i : ℕ) → i < intervals → slot_amount o.accounts (slot_words o w D) (settled_then o w D) a i ≡ interval_amount o (book_data o w) a D i
    unfolding slot_amount interval_amount settled_day residual_amount
    amount-same i hi = sum_cong (sym (vesting-same ((book_data o w).account a D i) (cell_data (cell_at o.accounts (slot_words o w D) a i)) alike)) (go (settles_residual o D) then)
      where
        alike : SameFigures ((book_data o w).account a D i) (cell_data (cell_at o.accounts (slot_words o w D) a i))
        alike = cell-alike o w D a i ha hi (now a i ha hi).few

        go : (b : Bool) → (T b → SizedDay o.accounts (book_data o w) (residual_day o D))
            → residual_amount (option_map (then_of o w) (cond b (Some (residual_day o D)) None)) a i
            ≡ cond b (rule.residual_amount ((book_data o w).load (residual_day o D) i) o.accounts (λ b. (book_data o w).account b (residual_day o D) i) (edition_of o (residual_day o D)) a) (pos 0)
        go true s = sym (slot-residual (residual_day o D) (s tt) i hi)
        go false s = refl

    slots-posted : slot_posted o.accounts (slot_words o w D) (settled_then o w D) a ≡ posted_of (record { thousandths = exact_amount o (book_data o w) a D })
    unfolding slot_posted total_to exact_amount
    slots-posted = ap (λ (z : ℤ). posted_of (record { thousandths = z })) (sum_ℤ-cong intervals _ _ amount-same)

module _ (w : List ℤ) (t : T (well_formed w)) (left : next_day w ≤ last_day) where
  pub slot-posted_same : (a : ℕ) → a < (terms_of w).accounts
      → slot_posted (terms_of w).accounts (slot_words (terms_of w) w (next_day w)) (settled_then (terms_of w) w (next_day w)) a
      ≡ posted_of (record { thousandths = exact_amount (terms_of w) (book_data (terms_of w) w) a (next_day w) })
  slot-posted_same a ha = slots-posted (terms_of w) w a ha (next_day w) (close-sized w t left).now (close-sized w t left).then
