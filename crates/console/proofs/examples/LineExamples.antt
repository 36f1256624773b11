-- Lines of document 01 and others, computed from the definitions. Assumes nothing.
use Rattle.std.specs.Prelude.{◌≡◌, refl, List, [], ◌∷◌, ℕ, ℤ, pos, negsuc, Ok, Err}
use Rattle.integer.specs.Integer.{minus}
use Rattle.rulebook.specs.declared.OpenError.TheVariants.{BadTerms, TooShort}
use Rattle.rulebook.specs.declared.SubmitError.TheVariants.{IllFormed, FileRefused}
use Rattle.rulebook.specs.declared.Why.TheVariants.{NotWhole, Repeated}
use Rattle.rulebook.specs.declared.CloseError.TheVariants.{Finished, DatumMissing}
use Rattle.rulebook.specs.Numbers.{of_open, of_submit, of_close}
use Rattle.console.specs.Decimal.{digits_within, decimal, signed_decimal}
use Rattle.console.specs.Lines.{spaced, line_of, answer_line, open_line, submit_line, closed_line, close_line, bad_line}

-- `open `, `submit `, `close `, `bad `, and more
abbrev open' : List ℕ → List ℕ
open' rest = 111 ∷ 112 ∷ 101 ∷ 110 ∷ 32 ∷ rest

abbrev submit' : List ℕ → List ℕ
submit' rest = 115 ∷ 117 ∷ 98 ∷ 109 ∷ 105 ∷ 116 ∷ 32 ∷ rest

abbrev close' : List ℕ → List ℕ
close' rest = 99 ∷ 108 ∷ 111 ∷ 115 ∷ 101 ∷ 32 ∷ rest

abbrev bad' : List ℕ → List ℕ
bad' rest = 98 ∷ 97 ∷ 100 ∷ 32 ∷ rest

pub record LinesTold : Type 0 where
  -- number and position: `open 0 0`, `open 1 0`, `open 2 0`
  pub opened : open_line (of_open (Ok tt)) ≡ open' (48 ∷ 32 ∷ 48 ∷ 10 ∷ [])
  pub bad_terms : open_line (of_open (Err BadTerms)) ≡ open' (49 ∷ 32 ∷ 48 ∷ 10 ∷ [])
  pub too_short : open_line (of_open (Err TooShort)) ≡ open' (50 ∷ 32 ∷ 48 ∷ 10 ∷ [])
  -- `submit 0 0`, `submit 3 0`, `submit 4 6`, `submit 7 391`
  pub taken : submit_line (of_submit (Ok tt)) ≡ submit' (48 ∷ 32 ∷ 48 ∷ 10 ∷ [])
  pub ill_formed : submit_line (of_submit (Err IllFormed)) ≡ submit' (51 ∷ 32 ∷ 48 ∷ 10 ∷ [])
  pub not_whole : submit_line (of_submit (Err (FileRefused (record { why = NotWhole; at = 6 })))) ≡ submit' (52 ∷ 32 ∷ 54 ∷ 10 ∷ [])
  pub repeated : submit_line (of_submit (Err (FileRefused (record { why = Repeated; at = 391 })))) ≡ submit' (55 ∷ 32 ∷ 51 ∷ 57 ∷ 49 ∷ 10 ∷ [])
  -- `close 11 76`, `close 9 0`, whatever the amounts
  pub missing : close_line (of_close (Err (DatumMissing 76))) [] ≡ close' (49 ∷ 49 ∷ 32 ∷ 55 ∷ 54 ∷ 10 ∷ [])
  pub finished : close_line (of_close (Err Finished)) (pos 5 ∷ []) ≡ close' (57 ∷ 32 ∷ 48 ∷ 10 ∷ [])
  -- `close 0 9498 48 -2000 2000`: 0, day, count, amounts, and no rounding difference
  pub closed : close_line (of_close (Ok (record { day = 9498; count = 48; difference = pos 499 }))) (negsuc 1999 ∷ pos 2000 ∷ [])
      ≡ close' (48 ∷ 32 ∷ 57 ∷ 52 ∷ 57 ∷ 56 ∷ 32 ∷ 52 ∷ 56 ∷ 32 ∷ 45 ∷ 50 ∷ 48 ∷ 48 ∷ 48 ∷ 32 ∷ 50 ∷ 48 ∷ 48 ∷ 48 ∷ 10 ∷ [])
  -- `close 0 9497 0 0 -7 7`: two accounts, and the MSSL
  pub closed_first : close_line (of_close (Ok (record { day = 9497; count = 0; difference = minus 500 }))) (pos 0 ∷ minus 7 ∷ pos 7 ∷ [])
      ≡ close' (48 ∷ 32 ∷ 57 ∷ 52 ∷ 57 ∷ 55 ∷ 32 ∷ 48 ∷ 32 ∷ 48 ∷ 32 ∷ 45 ∷ 55 ∷ 32 ∷ 55 ∷ 10 ∷ [])
  -- whatever the rounding difference, the line is the same
  pub unprinted : (day count : ℕ) (e e' : ℤ) (amounts : List ℤ)
      → close_line (of_close (Ok (record { day = day; count = count; difference = e }))) amounts ≡ close_line (of_close (Ok (record { day = day; count = count; difference = e' }))) amounts
  -- `bad 5`, `bad 16389`
  pub bad : bad_line 5 ≡ bad' (53 ∷ 10 ∷ [])
  pub bad_late : bad_line 16389 ≡ bad' (49 ∷ 54 ∷ 51 ∷ 56 ∷ 57 ∷ 10 ∷ [])
  -- the lowest signed number of 64 bits: `-9223372036854775808`
  pub lowest : signed_decimal (negsuc 9223372036854775807)
      ≡ 45 ∷ 57 ∷ 50 ∷ 50 ∷ 51 ∷ 51 ∷ 55 ∷ 50 ∷ 48 ∷ 51 ∷ 54 ∷ 56 ∷ 53 ∷ 52 ∷ 55 ∷ 55 ∷ 53 ∷ 56 ∷ 48 ∷ 56 ∷ []

pub lines_told : LinesTold
unfolding digits_within decimal signed_decimal spaced line_of answer_line open_line submit_line closed_line close_line bad_line
lines_told = record {
  opened = refl;
  bad_terms = refl;
  too_short = refl;
  taken = refl;
  ill_formed = refl;
  not_whole = refl;
  repeated = refl;
  missing = refl;
  finished = refl;
  closed = refl;
  closed_first = refl;
  unprinted = λ day count e e' amounts. refl;
  bad = refl;
  bad_late = refl;
  lowest = refl;
}
