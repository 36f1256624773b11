-- An accepted opening leaves a book in the state of the empty history. Assumes nothing.
use Rattle.std.specs.Prelude.{◌≡◌, Bool, true, false, cond, not, List, [], ℕ, ◌*◌, ◌≤◌, ℤ, T, ltb, length, Ok, Err}
use Rattle.std.proofs.Math.Path.{refl, sym}
use Rattle.std.proofs.Common.{ap, ◌∙◌, subst, arith, ltb→lt, nltb→le}
use Rattle.std.proofs.Math.Nat.{mul-zero, zero-sub}
use Rattle.std.proofs.Math.IntN.{neg_ℤ}
use Rattle.rulebook.specs.declared.Terms.{Terms}
use Rattle.rulebook.specs.declared.OpenError.TheVariants.{BadTerms, TooShort}
use Rattle.rulebook.specs.Terms.{terms_fit, InTerms}
use Rattle.rulebook.specs.Layout.{size}
use Rattle.rulebook.specs.WellFormed.{well_formed}
use Rattle.rulebook.specs.Opening.{new_book, opened, Opening}
use Rattle.rulebook.specs.Numbers.{Answer, accepted, of_open}
use Rattle.rulebook.specs.History.{closes, in_force, formula_balance, formula_differences, residual_counts, returned_differences}
use Rattle.rulebook.specs.Companion.{OpenTells, OpeningHolds}
use Rattle.rulebook.specs.Ledger.{State}
use Rattle.rulebook.proofs.laws.LedgerLaws.{held_same}
use Rattle.rulebook.proofs.laws.HeaderLaws.{opened-terms, terms-fit}
use Rattle.rulebook.proofs.laws.FormLaws.{ring-pos}
use Rattle.rulebook.proofs.laws.OpeningLaws.{book-new, sum_zero, new_word}
use Rattle.rulebook.proofs.laws.StepLaws.{some_none}
use Rattle.rulebook.proofs.laws.BeyondLaws.{kept-all, new_beyond}
use Rattle.rulebook.proofs.laws.StateLaws.{formed}

module _ (o : Terms) (t : InTerms o) (lent : List ℤ) (l : size o ≤ length lent) where
  pub new_state : State o [] (new_book o lent)
  unfolding closes in_force formula_balance formula_differences residual_counts returned_differences
  new_state = record {
    holds = held_same refl (λ s a d i j. refl) (λ a ha. refl) (sym (ap neg_ℤ (sum_zero o.accounts))) refl (book-new o lent (ring-pos o t) l);
    kept = record {
      section = λ s a d r e. some_none (sym e);
      ranged = λ s a d r e. some_none (sym e);
      ahead = λ s a d r e. some_none (sym e);
      dated = λ s a d r e. some_none (sym e);
      vestings = λ a d ha hd hk. absurd (omega arith);
      meters = λ a d ha hd hk. absurd (omega arith);
      bounded = λ a ha. omega arith;
      begun = omega arith;
    };
    counted = sym (ap (λ (x : ℕ). 48 * o.accounts * x) (zero-sub o.lag) ∙ mul-zero (48 * o.accounts));
    returned = refl;
    reported = tt;
  }

-- it is well formed
pub new_formed : (o : Terms) → InTerms o → (lent : List ℤ) → size o ≤ length lent → T (well_formed (new_book o lent))
new_formed o t lent l = subst T (sym (formed o t [] (new_book o lent) (new_state o t lent l))) tt

-- an accepted opening: its terms are in range, the lent words have the size, and the book is new
pub accepted-opening : (o : Terms) (lent : List ℤ) → (of_open (opened o lent).answer).number ≡ accepted → T (terms_fit o) × (size o ≤ length lent) × ((opened o lent).words ≡ new_book o lent)
unfolding opened
accepted-opening o lent e = go (terms_fit o) (ltb (length lent) (size o)) refl refl e
  where
    inner : Bool → Bool → Opening
    inner a b = cond (not a) (record { answer = (Err BadTerms); words = lent }) (cond b (record { answer = (Err TooShort); words = lent }) (record { answer = (Ok tt); words = new_book o lent }))

    go : (a b : Bool) → terms_fit o ≡ a → ltb (length lent) (size o) ≡ b → (of_open (inner a b).answer).number ≡ accepted
        → T (terms_fit o) × (size o ≤ length lent) × ((inner a b).words ≡ new_book o lent)
    go false b x y z = absurd (omega arith)
    go true true x y z = absurd (omega arith)
    go true false x y z = (subst T (sym x) tt, nltb→le (length lent) (size o) (subst (λ (b : Bool). T (not b)) (sym y) tt), refl)

-- ---- Every opening

different : {X : Type 0} {a b : Answer} {m n : ℕ} → a ≡ b → a.number ≡ m → b.number ≡ n → (m ≡ n → ⊥) → X
different e x y f = absurd (f (sym x ∙ ap (λ (z : Answer). z.number) e ∙ y))

pub opening-told : OpeningHolds
unfolding opened
opening-told o lent start answer p = rw (p.answered, p.book_after) (go (terms_fit o) (ltb (length lent) (size o)) refl refl)
  where
    inner : Bool → Bool → Opening
    inner a b = cond (not a) (record { answer = (Err BadTerms); words = lent }) (cond b (record { answer = (Err TooShort); words = lent }) (record { answer = (Ok tt); words = new_book o lent }))

    not_terms : terms_fit o ≡ false → InTerms o → ⊥
    not_terms x t = subst T x (terms-fit o t)

    in_terms : terms_fit o ≡ true → InTerms o
    in_terms x = opened-terms o (subst T (sym x) tt)

    go : (a b : Bool) → terms_fit o ≡ a → ltb (length lent) (size o) ≡ b → OpenTells o lent (of_open (inner a b).answer) (inner a b).words
    go false b x y = record {
      taken = (λ e. different e refl refl (λ n. omega arith), λ t. absurd (not_terms x t.0));
      outside = (λ e. not_terms x, λ t. refl);
      short = (λ e. different e refl refl (λ n. omega arith), λ t. absurd (not_terms x t.0));
      words = λ e. absurd (omega arith);
      beyond = kept-all (size o) lent;
      refused = λ e. refl;
    }
    go true true x y =
        let l = ltb→lt (length lent) (size o) (subst T (sym y) tt) in
        record {
          taken = (λ e. different e refl refl (λ n. omega arith), λ t. absurd (omega (arith, t.1)));
          outside = (λ e. different e refl refl (λ n. omega arith), λ t. absurd (t (in_terms x)));
          short = (λ e. (in_terms x, l), λ t. refl);
          words = λ e. absurd (omega arith);
          beyond = kept-all (size o) lent;
          refused = λ e. refl;
        }
    go true false x y =
        let l = nltb→le (length lent) (size o) (subst (λ (b : Bool). T (not b)) (sym y) tt) in
        record {
          taken = (λ e. (in_terms x, l), λ t. refl);
          outside = (λ e. different e refl refl (λ n. omega arith), λ t. absurd (t (in_terms x)));
          short = (λ e. different e refl refl (λ n. omega arith), λ t. absurd (omega (arith, t.1)));
          words = λ e m h. new_word o lent (ring-pos o (in_terms x)) l m h;
          beyond = new_beyond o lent;
          refused = λ e. absurd (e refl);
        }
