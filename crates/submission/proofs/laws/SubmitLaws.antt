-- The table that is lent to the judge serves, an accepted file's rows may be stored, and what is answered and left then is the promise. Assumes nothing.
use Rattle.std.specs.Prelude.{◌≡◌, false, List, ℕ, ◌+◌, ◌≤◌, ℤ, Ok, Err}
use Rattle.std.proofs.Common.{sym, ◌∙◌, arith}
use Rattle.std.proofs.Math.Path.{ap}
use Rattle.rulebook.specs.declared.Section.{Section}
use Rattle.rulebook.specs.declared.Section.TheVariants.{Vesting, Meter, Residual, Ncc}
use Rattle.rulebook.specs.declared.Terms.{Terms}
use Rattle.rulebook.specs.declared.Refusal.{Refusal}
use Rattle.rulebook.specs.declared.SubmitError.TheVariants.{IllFormed, FileRefused}
use Rattle.rulebook.specs.Terms.{InTerms}
use Rattle.rulebook.specs.BookData.{terms_of, next_day}
use Rattle.rulebook.specs.WellFormed.{well_formed}
use Rattle.rulebook.specs.File.{row_pos, file_rows}
use Rattle.rulebook.specs.Judging.{open_from, limits_of, judged_section, judged}
use Rattle.rulebook.proofs.laws.JudgingLaws.{Fine, section-start, section-row, sections}
use Rattle.rulebook.proofs.laws.SoundLaws.{account-below}
use Rattle.rulebook.proofs.laws.PositionLaws.{row-end}
use Rattle.rulebook.specs.Submit.{rows_stored, submitted}
use Rattle.rulebook.specs.Promises.{SubmitPromise}
use Rattle.files.specs.Judgeable.{RoomForDays, Judgeable}
use Rattle.book.specs.Judged.{Formed}
use Rattle.submission.specs.Marks.{most_marks}
use Rattle.submission.specs.Stored.{RowFits, SectionFits, FileFits}

-- ---- The judge's table

-- the longest window has a mark for each account and open day, whatever the next day to close
pub marks_enough : (o : Terms) (C : ℕ) → InTerms o → Judgeable (limits_of o C) most_marks
marks_enough o C h = record { some = h.accounts_from; few = h.accounts_to; room = days }
  where
    days : (sec : Section) → RoomForDays (limits_of o C) most_marks sec
    days Vesting = omega (arith, h.lag_from, h.horizon_to)
    days Meter = omega (arith, h.lag_from, h.horizon_to)
    days Residual = omega (arith, h.lag_to, h.horizon_from, h.horizon_to)
    days Ncc = omega (arith, h.lag_to, h.horizon_from, h.horizon_to)

-- ---- An accepted file

module _ (o : Terms) (C : ℕ) (some : 1 ≤ o.accounts) (begun : o.first ≤ C) where
  -- no section's open days begin before the book's first
  open-late : (sec : Section) → o.first ≤ open_from (limits_of o C) sec
  open-late Vesting = begun
  open-late Meter = begun
  open-late Residual = omega arith
  open-late Ncc = omega arith

  row_fits_lem : (sec : Section) (s : List ℕ) (at : ℕ) → Fine (limits_of o C) sec s at → RowFits o sec s at
  row_fits_lem sec s at h = record {
    account = account-below o.accounts sec s at some h.named.account.to;
    day = omega (arith, open-late sec, h.named.day.from);
    count = h.count.to;
    whole = row-end (limits_of o C) sec s at h;
  }

  section-fits : (sec : Section) (s : List ℕ) (at : ℕ) → judged_section (limits_of o C) sec s at ≡ Ok tt → SectionFits o sec s at
  section-fits sec s at e = record {
    start = section-start (limits_of o C) sec s at e;
    rows = λ i h. row_fits_lem sec s (row_pos sec s (at + 2) i) (section-row (limits_of o C) sec s at e i h).1;
  }

  pub file-fits : (s : List ℕ) → judged (limits_of o C) s ≡ Ok tt → FileFits o s
  file-fits s e =
      let p = sections (limits_of o C) s e in
      record {
        vesting = section-fits Vesting s _ p.vesting;
        meter = section-fits Meter s _ p.meter;
        residual = section-fits Residual s _ p.residual;
        ncc = section-fits Ncc s _ p.ncc;
      }

-- ---- The promise, answer by answer

module _ (w : List ℤ) where
  module _ (s : List ℕ) where
    pub ill_formed : well_formed w ≡ false → SubmitPromise w s (Err IllFormed) w
    unfolding submitted
    ill_formed e = record { answered = rw e; book_after = rw e }

    module _ (o : Terms) (C : ℕ) (f : Formed w o C) where
      verdict : judged (limits_of (terms_of w) (next_day w)) s ≡ judged (limits_of o C) s
      verdict = ap (λ (x : Terms). judged (limits_of x (next_day w)) s) f.terms ∙ ap (λ (D : ℕ). judged (limits_of o D) s) f.next

      pub file-taken : judged (limits_of o C) s ≡ Ok tt → SubmitPromise w s (Ok tt) (rows_stored o (file_rows s) w)
      unfolding submitted
      file-taken e = record {
        answered = rw (f.formed, verdict ∙ e);
        book_after = ap (λ (x : Terms). rows_stored x (file_rows s) w) (sym f.terms) ∙ rw (f.formed, verdict ∙ e);
      }

      pub file-refused : (r : Refusal) → judged (limits_of o C) s ≡ Err r → SubmitPromise w s (Err (FileRefused r)) w
      unfolding submitted
      file-refused r e = record { answered = rw (f.formed, verdict ∙ e); book_after = rw (f.formed, verdict ∙ e) }
