-- Submissions and closes of any lent book: an accepted row replaces all it names, a refusal keeps every word, words beyond are kept. Assumes nothing.
use Rattle.std.specs.Prelude.{◌≡◌, ◌≢◌, Bool, true, false, cond, List, ℕ, ◌+◌, ◌-◌, ◌<◌, T, ltb, ℤ, length, Option, Some, None, Ok, Err}
use Rattle.std.proofs.Math.Path.{refl}
use Rattle.std.proofs.Common.{sym, ◌∙◌, subst, add-sub_of_le}
use Rattle.integer.specs.Below.{Each}
use Rattle.integer.specs.Words.{word}
use Rattle.rulebook.specs.Judging.{Verdict}
use Rattle.rulebook.specs.declared.Section.{Section}
use Rattle.rulebook.specs.declared.SubmitError.TheVariants.{IllFormed}
use Rattle.rulebook.specs.Units.{last_day}
use Rattle.rulebook.specs.Sections.{accounts_of}
use Rattle.rulebook.specs.Layout.{width, row_word, size, InWindow}
use Rattle.rulebook.specs.BookData.{entries_of, terms_of, next_day}
use Rattle.rulebook.specs.WellFormed.{well_formed}
use Rattle.rulebook.specs.File.{file_rows}
use Rattle.rulebook.specs.Judging.{limits_of, judged}
use Rattle.rulebook.specs.Submit.{rows_stored, taken, submitted, entry_or}
use Rattle.rulebook.specs.Close.{Closing, closed_by, closed, settled, first_missing}
use Rattle.rulebook.specs.Numbers.{accepted, of_submit, of_close}
use Rattle.rulebook.specs.History.{last_for}
use Rattle.rulebook.specs.Companion.{KeptFrom}
use Rattle.rulebook.specs.Leaves.{CloseKeeps}
use Rattle.rulebook.specs.Ledger.{ledger_of}
use Rattle.rulebook.proofs.laws.TestLaws.{T-path}
use Rattle.rulebook.proofs.laws.LedgerLaws.{Storable, rows-held}
use Rattle.rulebook.proofs.laws.SoundLaws.{Sound, file-sound}
use Rattle.rulebook.proofs.laws.FormLaws.{ring-pos}
use Rattle.rulebook.proofs.laws.FormedLaws.{formed-holds, opened_of, next_of}
use Rattle.rulebook.proofs.laws.StepLaws.{storable, overlaid-last}
use Rattle.rulebook.proofs.laws.BeyondLaws.{kept-all, rows-beyond, closed-beyond, statement-beyond}

-- ---- Submissions

module _ (w : List ℤ) (file : List ℕ) (t : T (well_formed w)) (e : judged (limits_of (terms_of w) (next_day w)) file ≡ (Ok tt)) where
  rows-sound : Each (Sound (limits_of (terms_of w) ((terms_of w).first + (next_day w - (terms_of w).first)))) (file_rows file)
  rows-sound = subst (λ (C : ℕ). Each (Sound (limits_of (terms_of w) C)) (file_rows file)) (sym (add-sub_of_le (next_of w t).1))
      (file-sound (limits_of (terms_of w) (next_day w)) (opened_of w t).accounts_from file e)

  pub rows-storable : Each (Storable (terms_of w) (next_day w - (terms_of w).first)) (file_rows file)
  rows-storable = storable (terms_of w) (next_day w - (terms_of w).first) (opened_of w t).horizon_from (file_rows file) rows-sound

  pub stored-words : (submitted w file).words ≡ rows_stored (terms_of w) (file_rows file) w
  unfolding submitted
  stored-words = rw (T-path (well_formed w) t, e) refl

  -- a day's words are the last row's for their section, account and day, or as they were
  pub submitted-rows : (s : Section) (a d i j : ℕ) → InWindow (terms_of w) (next_day w - (terms_of w).first) d → a < accounts_of s (terms_of w).accounts → i < 48 → j < width s
      → word (submitted w file).words (row_word (terms_of w) s a d i j) ≡ entry_or (last_for (file_rows file) s a d) (entries_of (terms_of w) w s a d) i j
  submitted-rows s a d i j hd ha hi hj = rw stored-words
      ((rows-held (terms_of w) (ring-pos (terms_of w) (opened_of w t)) (file_rows file) (ledger_of w) w rows-storable (formed-holds w t)).held s a d i j hd ha hi hj
      ∙ overlaid-last (file_rows file) (entries_of (terms_of w) w) s a d i j)

pub refused-submit : (w : List ℤ) (file : List ℕ) → (of_submit (submitted w file).answer).number ≢ accepted → (submitted w file).words ≡ w
unfolding submitted
refused-submit w file n = go (well_formed w) (judged (limits_of (terms_of w) (next_day w)) file) n
  where
    go : (b : Bool) (v : Verdict) → (of_submit (cond b (taken w file v) (record { answer = (Err IllFormed); words = w })).answer).number ≢ accepted
        → (cond b (taken w file v) (record { answer = (Err IllFormed); words = w })).words ≡ w
    go true (Ok tt) x = absurd (x refl)
    go true (Err r) x = refl
    go false v x = refl

pub submitted-beyond : (w : List ℤ) (file : List ℕ) → T (well_formed w) → KeptFrom (size (terms_of w)) w (submitted w file).words
unfolding submitted
submitted-beyond w file t = rw (T-path (well_formed w) t) (go (judged (limits_of (terms_of w) (next_day w)) file) refl)
  where
    go : (v : Verdict) → judged (limits_of (terms_of w) (next_day w)) file ≡ v → KeptFrom (size (terms_of w)) w (taken w file v).words
    go (Ok tt) e = rows-beyond (terms_of w) (ring-pos (terms_of w) (opened_of w t)) (next_day w - (terms_of w).first) (file_rows file) w (rows-storable w file t e)
    go (Err r) e = kept-all (size (terms_of w)) w

-- ---- Closes

pub refused-close : (w statement : List ℤ) → (of_close (closed w statement).answer).number ≢ accepted → ((closed w statement).words ≡ w) × ((closed w statement).statement ≡ statement)
unfolding closed settled
refused-close w statement n = go (well_formed w) (ltb last_day (next_day w)) (ltb (length statement) ((terms_of w).accounts + 1)) (first_missing (terms_of w) w (next_day w)) n
  where
    answers : Bool → Bool → Bool → Option ℕ → Closing
    answers = closed_by (terms_of w) w (next_day w) statement

    go : (a b c : Bool) (x : Option ℕ) → (of_close (answers a b c x).answer).number ≢ accepted → ((answers a b c x).words ≡ w) × ((answers a b c x).statement ≡ statement)
    go false b c x y = (refl, refl)
    go true true c x y = (refl, refl)
    go true false true x y = (refl, refl)
    go true false false (Some n) y = (refl, refl)
    go true false false None y = absurd (y refl)

pub closed-words_beyond : (w statement : List ℤ) → T (well_formed w) → CloseKeeps w statement
unfolding closed settled
closed-words_beyond w statement t = record {
  book = rw (T-path (well_formed w) t) (book-kept (ltb last_day (next_day w)) (ltb (length statement) ((terms_of w).accounts + 1)) (first_missing (terms_of w) w (next_day w)));
  written = rw (T-path (well_formed w) t) (statement-kept (ltb last_day (next_day w)) (ltb (length statement) ((terms_of w).accounts + 1)) (first_missing (terms_of w) w (next_day w)));
}
  where
    book-kept : (a b : Bool) (x : Option ℕ) → KeptFrom (size (terms_of w)) w (closed_by (terms_of w) w (next_day w) statement true a b x).words
    book-kept true b x = kept-all (size (terms_of w)) w
    book-kept false true x = kept-all (size (terms_of w)) w
    book-kept false false (Some n) = kept-all (size (terms_of w)) w
    book-kept false false None = closed-beyond (terms_of w) (ring-pos (terms_of w) (opened_of w t)) w (next_day w)

    statement-kept : (a b : Bool) (x : Option ℕ)
        → KeptFrom ((terms_of w).accounts + 1) statement (closed_by (terms_of w) w (next_day w) statement true a b x).statement
    statement-kept true b x = kept-all ((terms_of w).accounts + 1) statement
    statement-kept false true x = kept-all ((terms_of w).accounts + 1) statement
    statement-kept false false (Some n) = kept-all ((terms_of w).accounts + 1) statement
    statement-kept false false None = statement-beyond (terms_of w) w (next_day w) statement
