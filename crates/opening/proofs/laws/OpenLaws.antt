-- What an opening promises, answer by answer. Assumes nothing.
use Rattle.std.specs.Prelude.{◌≡◌, refl, Bool, true, false, cond, Option, Some, None, ok_or, List, ℕ, zero, suc, ◌+◌, ◌-◌, ◌≤◌, ◌<◌, T, ℤ, pos, length, take, drop, ◌++◌, Ok, Err}
use Rattle.std.proofs.Common.{sym, ap, length-take, ◌∙◌, subst, add-zero, add-suc, zero-add, arith}
use borrow.Author.Tests.{lt-ltb, le-ltb}
use Rattle.std.proofs.Math.ListN.{get_or-eq_default}
use Rattle.integer.specs.Below.{tabulate}
use Rattle.integer.specs.Words.{word, on_part}
use Rattle.rulebook.specs.declared.Terms.{Terms}
use Rattle.rulebook.specs.declared.OpenError.{OpenError}
use Rattle.rulebook.specs.declared.OpenError.TheVariants.{BadTerms, TooShort}
use Rattle.rulebook.specs.Terms.{terms_fit, InTerms}
use Rattle.rulebook.specs.Layout.{size, stored}
use Rattle.rulebook.specs.Opening.{header, new_book, opened}
use Rattle.rulebook.specs.Promises.{OpenPromise}
use Rattle.rulebook.proofs.laws.WordLaws.{length-stored}
use Rattle.rulebook.proofs.laws.StoreLaws.{stored-part}
use Rattle.rulebook.proofs.laws.HeaderLaws.{opened-terms}
use Rattle.opening.proofs.laws.HeaderLaws.{header-inside}

-- m words, and n more after them
pub stored_more : (w : List ℤ) (m n : ℕ) (f g : ℕ → ℤ) → ((j : ℕ) → g j ≡ f (m + j)) → stored (stored w 0 m f) m n g ≡ stored w 0 (m + n) f
unfolding stored
stored_more w m zero f g e = rw add-zero
stored_more w m (suc n) f g e = rw (add-suc, stored_more w m n f g e, zero-add, e n)

-- the header's nine words, copied over the first nine
pub header-copied : (o : Terms) (w : List ℤ) → 9 ≤ length w → header o ++ drop 9 w ≡ stored w 0 9 (word (header o))
unfolding tabulate
header-copied o w l =
    let n : length (take 9 w) ≡ 9 = simp length-take (omega arith) in
    ap (λ (k : ℕ). tabulate k (word (header o)) ++ drop 9 w) (sym n) ∙ sym (stored-part w 0 9 (word (header o)) (omega arith))

-- the header's nine words, then the part from there to the size cleared
pub header-then_zeros : (o : Terms) (w : List ℤ) → size o ≤ length w → on_part 9 (size o) (λ p. tabulate (length p) (λ k. pos 0)) (stored w 0 9 (word (header o))) ≡ new_book o w
unfolding new_book
header-then_zeros o w l =
    let v = stored w 0 9 (word (header o)) in
    let e : 9 + (size o - 9) ≡ size o = omega (arith, header-inside o) in
    let m = length-stored w 0 9 (word (header o)) in
    let p = stored-part v 9 (size o - 9) (λ k. pos 0) (omega arith) in
    sym (rw e at p)
    ∙ stored_more w 9 (size o - 9) (word (header o)) (λ k. pos 0) (λ j. sym (get_or-eq_default (header o) (pos 0) {n = 9 + j} (omega arith)))
    ∙ ap (λ (n : ℕ). stored w 0 n (word (header o))) e

-- what the test of an opening's terms found, by what it gave for the terms or for their refusal
pub tested_ok : (o : Terms) {r : Option Terms} {a : Terms} → r ≡ cond (terms_fit o) (Some o) None → Ok a ≡ ok_or r BadTerms → (terms_fit o ≡ true) × (a ≡ o)
tested_ok o {r} {a} e f = go (terms_fit o) refl e
  where
    go : (b : Bool) → terms_fit o ≡ b → r ≡ cond b (Some o) None → (terms_fit o ≡ true) × (a ≡ o)
    go true t e = (t, (let g : Ok a ≡ ok_or (Some o) BadTerms = rw e at f in cc))
    go false t e = let g : Ok a ≡ ok_or None BadTerms = rw e at f in cc

pub tested_err : (o : Terms) {r : Option Terms} {x : OpenError} → r ≡ cond (terms_fit o) (Some o) None → Err x ≡ ok_or r BadTerms → (terms_fit o ≡ false) × (x ≡ BadTerms)
tested_err o {r} {x} e f = go (terms_fit o) refl e
  where
    go : (b : Bool) → terms_fit o ≡ b → r ≡ cond b (Some o) None → (terms_fit o ≡ false) × (x ≡ BadTerms)
    go true t e = let g : Err x ≡ ok_or (Some o) BadTerms = rw e at f in cc
    go false t e = (t, (let g : Err x ≡ ok_or None BadTerms = rw e at f in cc))

module _ (o : Terms) (w : List ℤ) where
  pub terms-in : terms_fit o ≡ true → InTerms o
  terms-in e = opened-terms o (subst T (sym e) tt)

  pub terms-refused : terms_fit o ≡ false → OpenPromise o w (Err BadTerms) w
  unfolding opened
  terms-refused e = record { answered = rw e; book_after = rw e }

  pub size-refused : terms_fit o ≡ true → length w < size o → OpenPromise o w (Err TooShort) w
  unfolding opened
  size-refused e l = record { answered = rw (e, lt-ltb (length w) (size o) l); book_after = rw (e, lt-ltb (length w) (size o) l) }

  pub book-opened : terms_fit o ≡ true → size o ≤ length w → OpenPromise o w (Ok tt) (new_book o w)
  unfolding opened
  book-opened e l = record { answered = rw (e, le-ltb (length w) (size o) l); book_after = rw (e, le-ltb (length w) (size o) l) }
