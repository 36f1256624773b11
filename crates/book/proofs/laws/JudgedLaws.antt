-- What the judge's answer says of a lent book. Assumes nothing.
use Rattle.std.proofs.Math.Path.{◌≡◌, refl, subst}
use Rattle.std.proofs.Common.{sym, ap, arith}
use Rattle.std.specs.Prelude.{Bool, List, ℕ, ℤ, Option, Some, None}
use Rattle.std.proofs.Math.Bool.{true, false, cond}
use Rattle.std.proofs.Math.Dec.{T}
use Rattle.rulebook.specs.declared.Terms.{Terms}
use Rattle.rulebook.specs.Terms.{InTerms}
use Rattle.rulebook.specs.BookData.{terms_of, next_day}
use Rattle.rulebook.specs.WellFormed.{well_formed}
use Rattle.rulebook.proofs.laws.FormedLaws.{formed-holds, opened_of, next_of}
use Rattle.book.specs.declared.judge.FormedBook.{FormedBook}
use Rattle.book.specs.Judged.{judged_book, Formed}

module _ (w : List ℤ) where
  pub book-formed : (o : Terms) (C : ℕ) → judged_book w ≡ Some (record { terms = o; next = C }) → Formed w o C
  unfolding judged_book
  book-formed o C e = go (well_formed w) refl e
    where
      go : (b : Bool) → well_formed w ≡ b → cond {A = Option FormedBook} b (Some (record { terms = terms_of w; next = next_day w })) None ≡ Some (record { terms = o; next = C }) → Formed w o C
      go true f e =
          let t : T (well_formed w) = subst T (sym f) tt in
          let r : ◌≡◌ {A = FormedBook} (record { terms = terms_of w; next = next_day w }) (record { terms = o; next = C }) = cc in
          let x : terms_of w ≡ o = ap (λ (f : FormedBook). f.terms) r in
          let y : next_day w ≡ C = ap (λ (f : FormedBook). f.next) r in
          record {
            formed = f;
            terms = x;
            next = y;
            in_terms = subst InTerms x (opened_of w t);
            begun = rw (← x, ← y) (next_of w t).1;
            ended = rw (← y) (next_of w t).2;
            room = rw (← x) (formed-holds w t).long;
          }
      go false f e = absurd (let z : ◌≡◌ {A = ℕ} 0 1 = cc in omega arith)

  pub book-ill : judged_book w ≡ None → well_formed w ≡ false
  unfolding judged_book
  book-ill e = go (well_formed w) refl e
    where
      go : (b : Bool) → well_formed w ≡ b → cond {A = Option FormedBook} b (Some (record { terms = terms_of w; next = next_day w })) None ≡ None → well_formed w ≡ false
      go true f e = absurd (let z : ◌≡◌ {A = ℕ} 0 1 = cc in omega arith)
      go false f e = f
