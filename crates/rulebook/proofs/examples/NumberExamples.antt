-- Document 01, "Numbers returned": the table in figures. Its examples of files are in crate `computed`. Assumes nothing.
use Rattle.std.specs.Prelude.{◌≡◌, refl, ℕ, ℤ, pos, Ok, Err}
use Rattle.rulebook.specs.declared.Why.TheVariants.{NotWhole, OutOfRange, DayNotOpen, Repeated, Excess}
use Rattle.rulebook.specs.declared.OpenError.TheVariants.{BadTerms, TooShort}
use Rattle.rulebook.specs.declared.SubmitError.TheVariants.{IllFormed, FileRefused}
use Rattle.rulebook.specs.declared.CloseError.TheVariants.{BookIllFormed, Finished, NoRoom, DatumMissing}
use Rattle.rulebook.specs.Numbers.{of_open, of_submit, of_close, numbered}

pub record Returned : Type 0 where
  -- what is not an accepted close has a number, and a position at most
  pub numbers : (n p : ℕ) → numbered n p ≡ record { number = n; position = p; day = 0; count = 0; difference = pos 0 }
  pub opened : of_open (Ok tt) ≡ numbered 0 0
  pub bad_terms : of_open (Err BadTerms) ≡ numbered 1 0
  pub too_short : of_open (Err TooShort) ≡ numbered 2 0
  pub ill_formed : (of_submit (Err IllFormed) ≡ numbered 3 0) × (of_close (Err BookIllFormed) ≡ numbered 3 0)
  pub taken : of_submit (Ok tt) ≡ numbered 0 0
  pub not_whole : (at : ℕ) → of_submit (Err (FileRefused (record { why = NotWhole; at = at }))) ≡ numbered 4 at
  pub out_of_range : (at : ℕ) → of_submit (Err (FileRefused (record { why = OutOfRange; at = at }))) ≡ numbered 5 at
  pub day_not_open : (at : ℕ) → of_submit (Err (FileRefused (record { why = DayNotOpen; at = at }))) ≡ numbered 6 at
  pub repeated : (at : ℕ) → of_submit (Err (FileRefused (record { why = Repeated; at = at }))) ≡ numbered 7 at
  pub excess : (at : ℕ) → of_submit (Err (FileRefused (record { why = Excess; at = at }))) ≡ numbered 8 at
  pub finished : of_close (Err Finished) ≡ numbered 9 0
  pub no_room : of_close (Err NoRoom) ≡ numbered 10 0
  pub missing : (at : ℕ) → of_close (Err (DatumMissing at)) ≡ numbered 11 at
  pub closed : (d c : ℕ) (e : ℤ) → of_close (Ok (record { day = d; count = c; difference = e })) ≡ record { number = 0; position = 0; day = d; count = c; difference = e }

pub returned : Returned
returned = record {
  numbers = λ n p. refl;
  opened = refl;
  bad_terms = refl;
  too_short = refl;
  ill_formed = (refl, refl);
  taken = refl;
  not_whole = λ at. refl;
  out_of_range = λ at. refl;
  day_not_open = λ at. refl;
  repeated = λ at. refl;
  excess = λ at. refl;
  finished = refl;
  no_room = refl;
  missing = λ at. refl;
  closed = λ d c e. refl;
}
