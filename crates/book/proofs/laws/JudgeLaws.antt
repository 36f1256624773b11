-- The judge's tests, one after another, are `well_formed`. Assumes nothing.
use Rattle.std.specs.Prelude.{◌≡◌, refl, Bool, true, false, ◌&&◌, ◌⊎◌, leb, List, ◌≤◌, ◌<◌, ℤ, length, None}
use Rattle.std.proofs.Common.{sym, ⊎_elim, inl, inr}
use Rattle.std.proofs.lemmas.Bool.{leb-false}
use Rattle.std.proofs.Math.Bool.{and-false}
use native.Mathlib.Omega.{arith}
use borrow.Author.Tests.{le-leb, lt-leb}
use Rattle.rulebook.specs.Layout.{header_words, size}
use Rattle.rulebook.specs.BookData.{terms_of, next_day}
use Rattle.rulebook.specs.WellFormed.{header_fits, contents_fit, fits, well_formed}
use Rattle.opening.proofs.laws.HeaderLaws.{header-inside}
use Rattle.book.specs.Judged.{judged_book}

both : (a b : Bool) → true ≡ (a && b) → b ≡ true
both true b e = sym e
both false b e = cc

one-fails : (a b : Bool) → false ≡ (a && b) → (a ≡ false) ⊎ (b ≡ false)
one-fails true b e = inr (sym e)
one-fails false b e = inl refl

module _ (w : List ℤ) where
  -- left at the header, or at the size
  header-left : header_fits w ≡ false → None ≡ judged_book w
  unfolding judged_book well_formed fits
  header-left e = rw e

  pub size-left : length w < size (terms_of w) → None ≡ judged_book w
  unfolding judged_book well_formed fits
  size-left h = rw (lt-leb (size (terms_of w)) (length w) h, and-false (header_fits w))

  -- no header is there, or it does not fit
  pub none-left : false ≡ (leb header_words (length w) && header_fits w) → None ≡ judged_book w
  none-left e = ⊎_elim (λ h. size-left (omega (arith, leb-false header_words (length w) h, header-inside (terms_of w)))) header-left (one-fails (leb header_words (length w)) (header_fits w) e)

  -- left to the balances and the days
  pub contents_left : true ≡ (leb header_words (length w) && header_fits w) → size (terms_of w) ≤ length w → contents_fit (terms_of w) w (next_day w) ≡ well_formed w
  unfolding well_formed fits
  contents_left e l = rw (both (leb header_words (length w)) (header_fits w) e, le-leb (size (terms_of w)) (length w) l)
