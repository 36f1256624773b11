-- An accepted close, and an accepted file, leave every word of any lent book as Leaves says. Assumes nothing.
use Rattle.std.specs.Prelude.{◌≡◌, refl, Bool, true, false, cond, List, [], ◌∷◌, map, ℕ, zero, suc, ◌+◌, ◌-◌, ◌*◌, ◌≤◌, ◌<◌, ℤ, ◌+ℤ◌, ◌-ℤ◌, ◌*ℤ◌, T, eqb, ltb, length, get_or, Option, Some, None, Ok, Err}
use Rattle.std.proofs.Math.Path.{sym, ap}
use Rattle.std.proofs.Common.{◌∙◌, subst, arith, le-leb, ltb-false, leb→le, le→leb, nltb→le}
use Rattle.std.proofs.lemmas.Bool.{lt-leb}
use Rattle.std.proofs.Math.IntN.{pos, neg_ℤ}
use Rattle.std.proofs.Math.Dec.{eqb_refl}
use Rattle.integer.specs.Below.{Each}
use Rattle.integer.proofs.laws.BelowLaws.{sum_ℤ-cong}
use Rattle.integer.specs.Words.{word}
use Rattle.rulebook.specs.declared.Section.{Section}
use Rattle.rulebook.specs.declared.Section.TheVariants.{Vesting, Meter, Residual, Ncc}
use Rattle.rulebook.specs.declared.Terms.{Terms}
use Rattle.rulebook.specs.declared.SubmitError.TheVariants.{IllFormed}
use Rattle.rulebook.specs.Judging.{Verdict}
use Rattle.rulebook.specs.Units.{last_day}
use Rattle.rulebook.specs.DayAmount.{settles_residual, mssl_amount, mssl_exact, rounding_difference}
use Rattle.rulebook.specs.Layout.{base, ring, interval_size, slot, interval_word, row_word, width, place, row_table, padding}
use Rattle.rulebook.specs.BookData.{book_data, terms_of, next_day}
use Rattle.rulebook.specs.WellFormed.{well_formed}
use Rattle.rulebook.specs.File.{Row, file_rows, figure_of}
use Rattle.rulebook.specs.Judging.{limits_of, judged}
use Rattle.rulebook.specs.Submit.{word_of, entry, row_stored, rows_stored, taken, submitted}
use Rattle.rulebook.specs.Close.{Closing, closed_by, closed, settled, first_missing, posted, posted_to_mssl, day_difference, day_closed, statement_written, residual_count, close_figures}
use Rattle.rulebook.specs.Numbers.{accepted, of_submit, of_close}
use Rattle.rulebook.specs.NamedRows.{NamedRow, named, named_rows}
use Rattle.rulebook.specs.Proper.{same_key, Once}
use Rattle.rulebook.specs.History.{latest, is_for, last_for}
use Rattle.rulebook.specs.Leaves.{day_index, CloseLeaves, words_of, word_count, place_of, row_index, Replaced, NotNamed, SubmitLeaves}
use Rattle.rulebook.proofs.laws.TestLaws.{T-path, and_both}
use Rattle.rulebook.proofs.laws.SectionsLaws.{section-self}
use Rattle.rulebook.proofs.laws.IndexLaws.{place-run}
use Rattle.rulebook.proofs.laws.WordLaws.{row_out}
use Rattle.rulebook.proofs.laws.LedgerLaws.{is_for_lem, for_itself, Storable}
use Rattle.rulebook.proofs.laws.ListLaws.{each_map, each_both}
use Rattle.rulebook.proofs.laws.AcceptedLaws.{rows-once}
use Rattle.rulebook.proofs.laws.FormLaws.{ring-pos}
use Rattle.rulebook.proofs.laws.FormedLaws.{formed-holds, opened_of, next_of}
use Rattle.rulebook.proofs.laws.CloseLaws.{base-fits, counted, counted_next, counted-mssl, counted-difference, counted-balance, counted-out, closed-elsewhere, closed-front, closed_in}
use Rattle.rulebook.proofs.laws.BeyondLaws.{closed-beyond, statement-beyond, statement-amount, statement-mssl}
use Rattle.rulebook.proofs.laws.LentLaws.{rows-storable, stored-words, submitted-rows, submitted-beyond}
use Rattle.rulebook.proofs.laws.StateLaws.{never-accepted}

-- ---- A close

-- a close that returned 0 was of a well-formed book with a day left, had room, and found no datum missing
pub record Settled (w st : List ℤ) : Type 0 where
  pub formed : T (well_formed w)
  pub left : next_day w ≤ last_day
  pub room : (terms_of w).accounts + 1 ≤ length st
  pub settles : closed w st ≡ settled (terms_of w) w (next_day w) st None

pub accepted-settled : (w st : List ℤ) → (of_close (closed w st).answer).number ≡ accepted → Settled w st
unfolding closed settled
accepted-settled w st n = go (well_formed w) (ltb last_day (next_day w)) (ltb (length st) ((terms_of w).accounts + 1)) (first_missing (terms_of w) w (next_day w)) refl refl refl refl n
  where
    answers : Bool → Bool → Bool → Option ℕ → Closing
    answers = closed_by (terms_of w) w (next_day w) st

    go : (a b c : Bool) (x : Option ℕ) → well_formed w ≡ a → ltb last_day (next_day w) ≡ b → ltb (length st) ((terms_of w).accounts + 1) ≡ c → first_missing (terms_of w) w (next_day w) ≡ x
        → (of_close (answers a b c x).answer).number ≡ accepted → Settled w st
    go false b c x e f g h y = absurd (omega arith)
    go true true c x e f g h y = absurd (omega arith)
    go true false true x e f g h y = absurd (omega arith)
    go true false false (Some n) e f g h y = absurd (omega arith)
    go true false false None e f g h y = record {
      formed = subst T (sym e) tt;
      left = ltb-false last_day (next_day w) f;
      room = nltb→le (length st) ((terms_of w).accounts + 1) (rw g tt);
      settles = rw (e, f, g, h) refl;
    }

module _ (w st : List ℤ) (t : T (well_formed w)) (room : (terms_of w).accounts + 1 ≤ length st) where
  abbrev o : Terms
  o = terms_of w

  abbrev D : ℕ
  D = next_day w

  longer : base o ≤ length w
  longer = omega (arith, base-fits o, (formed-holds w t).long)

  amount : (a : ℕ) → a < o.accounts → word (statement_written o w D st) a ≡ posted o w D a
  amount = statement-amount o w D st room

  front : (n : ℕ) → n < 64 + 8 * o.accounts → word (day_closed o w D) n ≡ word (counted o w D) n
  unfolding base
  front n h = closed-front o w D n h

  close-leaves : CloseLeaves o D w st (of_close (Ok (close_figures o w D))) (day_closed o w D) (statement_written o w D st)
  unfolding posted posted_to_mssl day_difference rounding_difference mssl_amount residual_count settles_residual interval_word base interval_size slot ring
  close-leaves = record {
    number = refl;
    position = refl;
    day = refl;
    residuals = λ h. rw (le-leb (o.first + o.lag) D h) refl;
    no_residuals = λ h. rw (lt-leb (o.first + o.lag) D h) refl;
    difference = ap (λ (x : ℤ). pos 1000 *ℤ x -ℤ mssl_exact o (book_data o w) D) (sym (statement-mssl o w D st room));
    amounts = amount;
    mssl_amount = statement-mssl o w D st room ∙ ap neg_ℤ (sum_ℤ-cong o.accounts (posted o w D) (word (statement_written o w D st)) (λ a h. sym (amount a h)));
    beyond = statement-beyond o w D st;
    next_day = front 5 (omega arith) ∙ counted_next o w D longer ∙ rw (next_of w t).0 (ap pos (omega arith));
    mssl = front 6 (omega arith) ∙ counted-mssl o w D longer ∙ ap (λ (x : ℤ). word w 6 +ℤ x) (sym (statement-mssl o w D st room));
    differences = front 8 (omega arith) ∙ counted-difference o w D longer;
    balances = λ a h. front (64 + 8 * a) (omega arith) ∙ counted-balance o w D longer a h ∙ ap (λ (x : ℤ). word w (64 + 8 * a) +ℤ x) (sym (amount a h));
    blank = λ h i m hi hm. closed_in o w D i m hi hm (formed-holds w t).long (ring-pos o (opened_of w t)) (le→leb (o.first + o.lag) D h);
    others = λ n f g d h k. closed-elsewhere o w D n (λ x. k (leb→le (o.first + o.lag) D x)) ∙ counted-out o w D n f g d h;
    long = (closed-beyond o (ring-pos o (opened_of w t)) w D).long;
  }

pub closed-leaves : (w st : List ℤ) → (of_close (closed w st).answer).number ≡ accepted
    → CloseLeaves (terms_of w) (next_day w) w st (of_close (closed w st).answer) (closed w st).words (closed w st).statement
unfolding settled
closed-leaves w st n =
    let s = accepted-settled w st n in
    subst (λ (r : Closing). CloseLeaves (terms_of w) (next_day w) w st (of_close r.answer) r.words r.statement) (sym s.settles) (close-leaves w st s.formed s.room)

-- ---- A file

-- a submission that returned 0 was to a well-formed book, and the judge accepted its file
accepted-taken : (w : List ℤ) (file : List ℕ) → (of_submit (submitted w file).answer).number ≡ accepted → T (well_formed w) × (judged (limits_of (terms_of w) (next_day w)) file ≡ (Ok tt))
unfolding submitted
accepted-taken w file n = go (well_formed w) (judged (limits_of (terms_of w) (next_day w)) file) refl refl n
  where
    go : (b : Bool) (v : Verdict) → well_formed w ≡ b → judged (limits_of (terms_of w) (next_day w)) file ≡ v
        → (of_submit (cond b (taken w file v) (record { answer = (Err IllFormed); words = w })).answer).number ≡ accepted
        → T (well_formed w) × (judged (limits_of (terms_of w) (next_day w)) file ≡ (Ok tt))
    go true (Ok tt) e f y = (subst T (sym e) tt, f)
    go true (Err r) e f y = absurd (subst T (never-accepted r.why) (subst (λ (m : ℕ). T (eqb m accepted)) (sym y) tt))
    go false v e f y = absurd (omega arith)

-- where no key comes twice, each row is the last for its key
none_for : (r : Row) (rs : List Row) → Each (λ q. same_key (named r) q ≡ false) (map named rs) → last_for rs r.section r.account r.day ≡ None
unfolding last_for latest
none_for r [] e = refl
none_for r (q ∷ rs) e = rw (none_for r rs e.1) (go (is_for r.section r.account r.day q) refl)
  where
    go : (b : Bool) → is_for r.section r.account r.day q ≡ b → cond b (Some q) None ≡ None
    go true f =
        let k = is_for_lem r.section r.account r.day q (subst T (sym f) tt) in
        absurd (subst T e.0 (rw (k.section, k.account, k.day) (search (and_both, section-self, eqb_refl))))
    go false f = refl

each_last : (rs : List Row) → Once (map named rs) → Each (λ r. last_for rs r.section r.account r.day ≡ Some r) rs
unfolding last_for latest Once
each_last [] o = tt
each_last (r ∷ rs) o = (
  rw (none_for r rs o.0, T-path (is_for r.section r.account r.day r) (for_itself r (record { section = refl; account = refl; day = refl }))) refl,
  each_map (λ q. last_for rs q.section q.account q.day ≡ Some q) (λ q. last_for (r ∷ rs) q.section q.account q.day ≡ Some q) rs (λ q e. rw e refl) (each_last rs o.1),
)

each_named : (P : NamedRow → Type 0) (rs : List Row) → Each (λ r. P (named r)) rs → Each P (map named rs)
each_named P [] e = tt
each_named P (r ∷ rs) e = (e.0, each_named P rs e.1)

named-each : (P : NamedRow → Type 0) (rs : List Row) → Each P (map named rs) → Each (λ r. P (named r)) rs
named-each P [] e = tt
named-each P (r ∷ rs) e = (e.0, named-each P rs e.1)

-- a row's words by name are those of the table
words_are : (r : Row) (i : ℕ) (s : Section) → r.section ≡ s → map (word_of r i) (row_table s) ≡ words_of s r.count (figure_of r i)
words_are r i Vesting e = rw e refl
words_are r i Meter e = rw e refl
words_are r i Residual e = rw e refl
words_are r i Ncc e = rw e refl

get_d_map : {A B : Type 0} (f : A → B) (xs : List A) (j : ℕ) (d : A) → get_or (map f xs) j (f d) ≡ f (get_or xs j d)
get_d_map f [] j d = refl
get_d_map f (x ∷ xs) zero d = refl
get_d_map f (x ∷ xs) (suc j) d = get_d_map f xs j d

entry-word : (r : Row) (i j : ℕ) → entry r i j ≡ word (words_of r.section r.count (figure_of r i)) j
unfolding entry
entry-word r i j = sym (get_d_map (word_of r i) (row_table r.section) j padding) ∙ ap (λ (l : List ℤ). word l j) (words_are r i r.section refl)

widths : (s : Section) → word_count s ≡ width s
widths Vesting = refl
widths Meter = refl
widths Residual = refl
widths Ncc = refl

place_is : (s : Section) (a j : ℕ) → j < width s → place s a j ≡ place_of s a + j
place_is Vesting a j h = omega (arith, place-run Vesting a j h)
place_is Meter a j h = omega (arith, place-run Meter a j h)
place_is Residual a j h = omega (arith, place-run Residual a j h)
place_is Ncc a j h = omega (arith, place-run Ncc a j h)

row-index : (o : Terms) (r : Row) (i j : ℕ) → j < width r.section → row_word o r.section r.account r.day i j ≡ row_index o (named r) i j
unfolding row_word interval_word base interval_size slot ring
row-index o r i j h = ap (day_index o r.day i) (place_is r.section r.account j h)

rows_out : (o : Terms) (rs : List Row) (w : List ℤ) (n : ℕ) → Each (λ r. NotNamed o n (named r)) rs → word (rows_stored o rs w) n ≡ word w n
unfolding rows_stored
rows_out o [] w n f = refl
rows_out o (r ∷ rs) w n f = rows_out o rs (row_stored o r 48 w) n f.1
    ∙ row_out o r 48 w n (λ i j hi hj e. f.0 i j hi (rw (widths r.section) hj) (e ∙ row-index o r i j hj))

module _ (w : List ℤ) (file : List ℕ) (t : T (well_formed w)) (e : judged (limits_of (terms_of w) (next_day w)) file ≡ (Ok tt)) where
  row-replaced : (r : Row) → Storable (terms_of w) (next_day w - (terms_of w).first) r → last_for (file_rows file) r.section r.account r.day ≡ Some r
      → Replaced (terms_of w) (submitted w file).words (named r)
  row-replaced r x y i j hi hj =
      let l : j < width r.section = rw (← widths r.section) hj in
      rw (← row-index (terms_of w) r i j l, ← entry-word r i j)
      (submitted-rows w file t e r.section r.account r.day i j x.day x.account hi l ∙ rw y refl)

  submit-leaves : SubmitLeaves (terms_of w) (named_rows file) w (submitted w file).words
  unfolding named_rows
  submit-leaves = record {
    replaced = each_named (Replaced (terms_of w) (submitted w file).words) (file_rows file)
        (each_both (Storable (terms_of w) (next_day w - (terms_of w).first)) (λ r. last_for (file_rows file) r.section r.account r.day ≡ Some r)
        (λ r. Replaced (terms_of w) (submitted w file).words (named r)) (file_rows file) row-replaced
        (rows-storable w file t e) (each_last (file_rows file) (rows-once (terms_of w) (opened_of w t) (next_day w) file e)));
    others = λ n f. rw (stored-words w file t e) (rows_out (terms_of w) (file_rows file) w n (named-each (NotNamed (terms_of w) n) (file_rows file) f));
    long = (submitted-beyond w file t).long;
  }

pub submitted-leaves : (w : List ℤ) (file : List ℕ) → (of_submit (submitted w file).answer).number ≡ accepted → SubmitLeaves (terms_of w) (named_rows file) w (submitted w file).words
submitted-leaves w file n = let x = accepted-taken w file n in submit-leaves w file x.0 x.1
