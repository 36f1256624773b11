-- The promise of a close, answer by answer. Assumes nothing.
use Rattle.std.specs.Prelude.{◌≡◌, true, false, List, ℕ, ◌+◌, ◌≤◌, ◌<◌, ltb, ℤ, length, Some, None, Ok, Err}
use Rattle.std.proofs.Common.{sym, ◌∙◌}
use Rattle.std.proofs.Math.Path.{ap}
use borrow.Author.Tests.{lt-ltb, le-ltb}
use Rattle.rulebook.specs.declared.Terms.{Terms}
use Rattle.rulebook.specs.declared.CloseError.TheVariants.{BookIllFormed, Finished, NoRoom, DatumMissing}
use Rattle.rulebook.specs.Units.{last_day}
use Rattle.rulebook.specs.BookData.{next_day}
use Rattle.rulebook.specs.WellFormed.{well_formed}
use Rattle.rulebook.specs.Close.{Closing, first_missing, close_figures, day_closed, statement_written, settled, closed_by, closed}
use Rattle.rulebook.specs.Numbers.{of_close}
use Rattle.rulebook.specs.Promises.{ClosePromise}
use Rattle.book.specs.Judged.{Formed}

module _ (w st : List ℤ) where
  -- what is closed so is promised
  kept : {x : Closing} → closed w st ≡ x → ClosePromise w st x.answer x.words x.statement
  kept e = record {
    answered = ap (λ (c : Closing). of_close c.answer) (sym e);
    book_after = ap (λ (c : Closing). c.words) (sym e);
    statement_after = ap (λ (c : Closing). c.statement) (sym e);
  }

  pub ill_formed : well_formed w ≡ false → ClosePromise w st (Err BookIllFormed) w st
  unfolding closed
  ill_formed e = kept (rw e)

  -- a well-formed book of these terms and this next day
  abbrev closing : Terms → ℕ → Closing
  closing o D = closed_by o w D st true (ltb last_day D) (ltb (length st) (o.accounts + 1)) (first_missing o w D)

  module _ (o : Terms) (D : ℕ) (f : Formed w o D) where
    closing-is : closed w st ≡ closing o D
    unfolding closed
    closing-is = rw f.formed (ap (λ (x : Terms). closing x (next_day w)) f.terms ∙ ap (closing o) f.next)

    pub finished : last_day < D → ClosePromise w st (Err Finished) w st
    finished h = kept (closing-is ∙ rw (lt-ltb last_day D h))

    module _ (left : D ≤ last_day) where
      pub no_room : length st < o.accounts + 1 → ClosePromise w st (Err NoRoom) w st
      no_room h = kept (closing-is ∙ rw (le-ltb last_day D left, lt-ltb (length st) (o.accounts + 1) h))

      module _ (room : o.accounts + 1 ≤ length st) where
        pub missing : (n : ℕ) → first_missing o w D ≡ Some n → ClosePromise w st (Err (DatumMissing n)) w st
        unfolding settled
        missing n e = kept (closing-is ∙ rw (le-ltb last_day D left, le-ltb (length st) (o.accounts + 1) room, e))

        pub accepted : first_missing o w D ≡ None → ClosePromise w st (Ok (close_figures o w D)) (day_closed o w D) (statement_written o w D st)
        unfolding settled
        accepted e = kept (closing-is ∙ rw (le-ltb last_day D left, le-ltb (length st) (o.accounts + 1) room, e))
