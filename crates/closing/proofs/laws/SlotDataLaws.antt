-- A slot's cells and loads say what the book says by name. Assumes nothing.
use Rattle.std.specs.Prelude.{◌≡◌, List, ℕ, ◌+◌, ◌*◌, ◌≤◌, ◌<◌, ℤ}
use Rattle.std.proofs.Common.{ap, ◌∙◌, arith}
use Rattle.integer.specs.Words.{word}
use Rattle.rulebook.specs.declared.Section.TheVariants.{Vesting, Meter}
use Rattle.rulebook.specs.declared.Terms.{Terms}
use Rattle.rulebook.specs.Units.{positive, as_quantity, intervals}
use Rattle.rulebook.specs.Sections.{TVQ, TVP, MEP, IEQ}
use Rattle.rulebook.specs.Layout.{figure_index, row_word, flag_at, interval_of}
use Rattle.rulebook.specs.BookData.{book_data}
use Rattle.rulebook.proofs.laws.AmountLaws.{SameFigures}
use Rattle.rulebook.proofs.laws.IndexLaws.{tender-words, facility-words}
use Rattle.amounts.specs.Cell.{cell_data}
use Rattle.amounts.specs.Day.{cell_at}
use Rattle.closing.specs.Slots.{slot_words}
use Rattle.closing.proofs.laws.SlotsLaws.{load_word, vesting-word, meter-word, residual-word}

module _ (o : Terms) (w : List ℤ) (d : ℕ) where
  pub load_same : (i : ℕ) → i < intervals → (book_data o w).load d i ≡ as_quantity (word (interval_of o.accounts (slot_words o w d) i) 0)
  load_same i hi = ap as_quantity (load_word o w d i hi)

  module _ (a i : ℕ) (ha : a < o.accounts) (hi : i < intervals) where
    abbrev cell : List ℤ
    cell = cell_at o.accounts (slot_words o w d) a i

    -- word j of the vesting row, and of the meter row, by its index k in the cell
    pub vesting-at : (j k : ℕ) → j ≡ k → k < 9 → word w (row_word o Vesting a d i j) ≡ word cell k
    vesting-at j k e h = ap (λ (j : ℕ). word w (row_word o Vesting a d i j)) e ∙ vesting-word o w d a i ha hi k h ∙ ap (word cell) (omega arith)

    meter-at : (j k : ℕ) → j < 9 → flag_at Meter + j ≡ k → word w (row_word o Meter a d i j) ≡ word cell k
    meter-at j k h e = meter-word o w d a i ha hi j h ∙ ap (word cell) e

    pub cell-alike : ((book_data o w).account a d i).facilities ≤ 4 → SameFigures ((book_data o w).account a d i) (cell_data (cell_at o.accounts (slot_words o w d) a i))
    cell-alike few = record {
      bvq = ap as_quantity (vesting-word o w d a i ha hi 1 (omega arith));
      bvp = vesting-word o w d a i ha hi 2 (omega arith);
      tvq = λ t h. ap as_quantity (vesting-at (figure_index (TVQ t)) (3 + 2 * t) (tender-words t h).0 (omega arith));
      tvp = λ t h. vesting-at (figure_index (TVP t)) (4 + 2 * t) (tender-words t h).1 (omega arith);
      facilities = ap positive (meter-word o w d a i ha hi 0 (omega arith));
      few = few;
      mep = λ f h. meter-at (figure_index (MEP f)) (10 + 2 * f) (omega (arith, (facility-words f h).0)) (omega (arith, (facility-words f h).0));
      ieq = λ f h. meter-at (figure_index (IEQ f)) (11 + 2 * f) (omega (arith, (facility-words f h).1)) (omega (arith, (facility-words f h).1));
      uegq = ap as_quantity (residual-word o w d a i ha hi 1 (omega arith));
      mq = ap as_quantity (residual-word o w d a i ha hi 2 (omega arith));
      rvp1 = residual-word o w d a i ha hi 3 (omega arith);
      rvp2 = residual-word o w d a i ha hi 4 (omega arith);
    }
