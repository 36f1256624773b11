-- A submission leaves any well-formed book well formed. Assumes nothing.
use Rattle.std.specs.Prelude.{◌≡◌, refl, not, List, ℕ, ◌+◌, ◌-◌, ◌≤◌, ℤ, pos, T, Option, Some, None, Ok, Err}
use Rattle.std.proofs.Common.{sym, ◌∙◌, subst, add-sub_of_le, arith}
use Rattle.integer.specs.Below.{Each}
use Rattle.rulebook.specs.declared.Section.{Section}
use Rattle.rulebook.specs.declared.Section.TheVariants.{Vesting, Meter}
use Rattle.rulebook.specs.declared.Terms.{Terms}
use Rattle.rulebook.specs.Judging.{Verdict}
use Rattle.rulebook.specs.Layout.{flag_index}
use Rattle.rulebook.specs.BookData.{terms_of, next_day}
use Rattle.rulebook.specs.WellFormed.{is_zero, row_fits, well_formed}
use Rattle.rulebook.specs.File.{Row, file_rows}
use Rattle.rulebook.specs.Judging.{limits_of, judged}
use Rattle.rulebook.specs.Submit.{entry, rows_stored, taken, submitted, entry_or}
use Rattle.rulebook.specs.History.{last_for}
use Rattle.rulebook.specs.Ledger.{Ledger, overlaid, submitted_to, ledger_of}
use Rattle.rulebook.proofs.laws.TestLaws.{T-path}
use Rattle.rulebook.proofs.laws.LedgerLaws.{IsFor, rows-held}
use Rattle.rulebook.proofs.laws.SoundLaws.{Sound, file-sound}
use Rattle.rulebook.proofs.laws.KeptLaws.{there-fits, flag-more, nonzero}
use Rattle.rulebook.proofs.laws.FitsLaws.{row_same}
use Rattle.rulebook.proofs.laws.FormLaws.{Fit, ring-pos, well_formed_lem}
use Rattle.rulebook.proofs.laws.FormedLaws.{formed-holds, formed-fit, opened_of, next_of}
use Rattle.rulebook.proofs.laws.StepLaws.{last_one, sound_day, storable, overlaid-last}

module _ (o : Terms) (b : Ledger) (q : Fit o b) (h : 1 ≤ o.horizon) (rs : List Row) (x : Each (Sound (limits_of o (o.first + b.closed))) rs) where
  -- what stands in a row after the file: an old row's words, or a sound row's
  by_row : (P : (ℕ → ℤ) → Type 0) (s : Section) (a d i : ℕ) → P (b.entries s a d i)
      → ((r : Row) → Sound (limits_of o (o.first + b.closed)) r → IsFor s a d r → P (entry r i)) → P (entry_or (last_for rs s a d) (b.entries s a d) i)
  by_row P s a d i old new = go (last_for rs s a d) refl
    where
      go : (y : Option Row) → last_for rs s a d ≡ y → P (entry_or y (b.entries s a d) i)
      go None e = old
      go (Some r) e = let z = last_one (Sound (limits_of o (o.first + b.closed))) rs s a d r x e in new r z.0 z.1

  there : (s : Section) (a d i : ℕ) → T (not (is_zero (b.entries s a d i (flag_index s)))) → T (not (is_zero (overlaid rs b.entries s a d i (flag_index s))))
  there s a d i old = rw (overlaid-last rs b.entries s a d i (flag_index s)) (by_row (λ f. T (not (is_zero (f (flag_index s))))) s a d i old
      (λ r y z. nonzero (flag-more s i r z.section y.ranged).1))

  pub file-fit : Fit o (submitted_to rs b)
  file-fit = record {
    rows = λ s a d i hd ha hi. rw (row_same s (overlaid rs b.entries s a d i) (entry_or (last_for rs s a d) (b.entries s a d) i) (λ j hj. overlaid-last rs b.entries s a d i j))
        (by_row (λ f. T (row_fits s f)) s a d i (q.rows s a d i hd ha hi) (λ r y z. subst (λ (c : Section). T (row_fits c (entry r i))) z.section (there-fits r y.ranged (entry r i) i hi (λ j hj. refl))));
    undated = λ s a d i j hd l ha hi hj. overlaid-last rs b.entries s a d i j ∙ by_row (λ f. f j ≡ pos 0) s a d i (q.undated s a d i j hd l ha hi hj)
        (λ r y z. absurd (omega (arith, (sound_day o b.closed h r y).dated, z.day)));
    vestings = λ a d i hd l ha hi. there Vesting a d i (q.vestings a d i hd l ha hi);
    meters = λ a d i hd l ha hi. there Meter a d i (q.meters a d i hd l ha hi);
    bounded = q.bounded;
    mssl = q.mssl;
    differences = q.differences;
    begun = q.begun;
  }

pub submitted-formed : (w : List ℤ) (file : List ℕ) → T (well_formed w) → T (well_formed (submitted w file).words)
unfolding submitted
submitted-formed w file t = rw (T-path (well_formed w) t) (go (judged (limits_of (terms_of w) (next_day w)) file) refl)
  where
    day : (terms_of w).first + (next_day w - (terms_of w).first) ≡ next_day w
    day = add-sub_of_le (next_of w t).1

    go : (v : Verdict) → judged (limits_of (terms_of w) (next_day w)) file ≡ v → T (well_formed (taken w file v).words)
    go (Ok tt) e =
        let q = opened_of w t in
        let x : Each (Sound (limits_of (terms_of w) ((terms_of w).first + (next_day w - (terms_of w).first)))) (file_rows file)
        = subst (λ (C : ℕ). Each (Sound (limits_of (terms_of w) C)) (file_rows file)) (sym day) (file-sound (limits_of (terms_of w) (next_day w)) q.accounts_from file e) in
        well_formed_lem (terms_of w) q (submitted_to (file_rows file) (ledger_of w)) (rows_stored (terms_of w) (file_rows file) w)
        (rows-held (terms_of w) (ring-pos (terms_of w) q) (file_rows file) (ledger_of w) w (storable (terms_of w) (next_day w - (terms_of w).first) q.horizon_from (file_rows file) x) (formed-holds w t))
        (file-fit (terms_of w) (ledger_of w) (formed-fit w t) q.horizon_from (file_rows file) x)
    go (Err r) e = t
