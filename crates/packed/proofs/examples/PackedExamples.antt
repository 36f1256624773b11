-- Document 02, P4, in figures: fields, statements written and read, each refusal. Computed. Assumes nothing.
use Rattle.std.specs.Prelude.{◌≡◌, refl, ℕ, ◌+◌, ◌*◌, ℤ, pos, negsuc, Ok, Err}
use mathlib.Core.List.{List, [], ◌∷◌, ◌++◌, flat_map}
use Rattle.integer.specs.Integer.{minus}
use Rattle.integer.specs.Below.{fold, or_else, turns, tabulate}
use Rattle.packed.specs.declared.PackError.{PackError}
use Rattle.packed.specs.declared.UnpackError.{UnpackError}
use Rattle.packed.specs.Packed.{statement_fits, digit_of, half_byte, field_byte, field, fields_of, half_at, magnitude_at, amount_at, wrong_digit, wrong_sign, negative_zero, wrong_in, cut_field, first_wrong, pack_number, pack_call, unpack_returned, unpack_call}

-- a byte, by its two hex digits
abbrev hex : ℕ → ℕ → ℕ
hex u l = 16 * u + l

-- a field that ends so, after six bytes of zeros
abbrev small : ℕ → ℕ → List ℕ
small b c = 0 ∷ 0 ∷ 0 ∷ 0 ∷ 0 ∷ 0 ∷ b ∷ c ∷ []

-- plus and minus 1
abbrev one : List ℕ
one = small 0 (hex 1 12)

abbrev minus_one : List ℕ
minus_one = small 0 (hex 1 13)

abbrev nines : ℕ → List ℕ
nines sign = hex 9 9 ∷ hex 9 9 ∷ hex 9 9 ∷ hex 9 9 ∷ hex 9 9 ∷ hex 9 9 ∷ hex 9 9 ∷ hex 9 sign ∷ []

-- ---- Fields

pub record FieldFigures : Type 0 where
  pub zero : field (pos 0) ≡ small 0 (hex 0 12)
  pub plus_one : field (pos 1) ≡ one
  pub less_one : field (negsuc 0) ≡ minus_one
  pub ten : field (pos 10) ≡ small (hex 0 1) (hex 0 12)
  pub less_ten : field (minus 10) ≡ small (hex 0 1) (hex 0 13)
  pub hundred : field (pos 100) ≡ small (hex 1 0) (hex 0 12)
  -- all digits in order
  pub ordered : field (pos 123456789012345) ≡ hex 1 2 ∷ hex 3 4 ∷ hex 5 6 ∷ hex 7 8 ∷ hex 9 0 ∷ hex 1 2 ∷ hex 3 4 ∷ hex 5 12 ∷ []
  pub ordered_below : field (minus 987654321098765) ≡ hex 9 8 ∷ hex 7 6 ∷ hex 5 4 ∷ hex 3 2 ∷ hex 1 0 ∷ hex 9 8 ∷ hex 7 6 ∷ hex 5 13 ∷ []
  -- places ten apart hold other digits
  pub mixed : field (minus 314159265358979) ≡ hex 3 1 ∷ hex 4 1 ∷ hex 5 9 ∷ hex 2 6 ∷ hex 5 3 ∷ hex 5 8 ∷ hex 9 7 ∷ hex 9 13 ∷ []
  pub leading : field (pos 100000000000000) ≡ hex 1 0 ∷ 0 ∷ 0 ∷ 0 ∷ 0 ∷ 0 ∷ 0 ∷ hex 0 12 ∷ []
  pub most : field (pos 999999999999999) ≡ nines 12
  pub least : field (minus 999999999999999) ≡ nines 13
  -- four amounts, in their order
  pub four : fields_of (pos 1 ∷ minus 10 ∷ pos 100 ∷ negsuc 0 ∷ []) ≡ one ++ (small (hex 0 1) (hex 0 13) ++ (small (hex 1 0) (hex 0 12) ++ minus_one))

pub field-figures : FieldFigures
unfolding field field_byte half_byte digit_of tabulate flat_map
field-figures = record {
  zero = refl;
  plus_one = refl;
  less_one = refl;
  ten = refl;
  less_ten = refl;
  hundred = refl;
  ordered = refl;
  ordered_below = refl;
  mixed = refl;
  leading = refl;
  most = refl;
  least = refl;
  four = refl;
}

-- ---- Written

-- n amounts of 1
abbrev ones : ℕ → List ℤ
ones n = tabulate n (λ i. pos 1)

abbrev bytes : ℕ → List ℕ
bytes n = tabulate n (λ i. 7)

abbrev Refuses : List ℤ → List ℕ → ℕ → Type 0
Refuses amounts output number = pack_call amounts output ≡ record { number = number; output = output }

pub record WrittenFigures : Type 0 where
  -- what each answer returns
  pub written : pack_number (Ok tt) ≡ 0
  pub outside : pack_number (Err PackError.OutsideRange) ≡ 1
  pub too_short : pack_number (Err PackError.OutputTooShort) ≡ 10
  -- two amounts, and a byte beyond
  pub two : pack_call (pos 1 ∷ negsuc 0 ∷ []) (bytes 17) ≡ record { number = 0; output = one ++ (minus_one ++ (7 ∷ [])) }
  pub thirty_three : pack_call (ones 33) (bytes 264) ≡ record { number = 0; output = flat_map (λ z. one) (ones 33) }
  -- 1: numbers of amounts, an amount of 16 digits first and last, the lowest word
  pub none : Refuses [] (bytes 16) 1
  pub single : Refuses (ones 1) (bytes 16) 1
  pub thirty_four : Refuses (ones 34) (bytes 272) 1
  pub first_long : Refuses (pos 1000000000000000 ∷ pos 0 ∷ []) (bytes 16) 1
  pub last_long : Refuses (pos 0 ∷ minus 1000000000000000 ∷ []) (bytes 16) 1
  pub lowest : Refuses (minus 9223372036854775808 ∷ pos 0 ∷ []) (bytes 16) 1
  -- 10, after 1
  pub byte_short : Refuses (ones 2) (bytes 15) 10
  pub no_bytes : Refuses (ones 33) [] 10
  pub long_and_short : Refuses (pos 1000000000000000 ∷ pos 0 ∷ []) [] 1

pub written-figures : WrittenFigures
unfolding pack_call statement_fits fold field field_byte half_byte digit_of tabulate flat_map
written-figures = record {
  written = refl;
  outside = refl;
  too_short = refl;
  two = refl;
  thirty_three = refl;
  none = refl;
  single = refl;
  thirty_four = refl;
  first_long = refl;
  last_long = refl;
  lowest = refl;
  byte_short = refl;
  no_bytes = refl;
  long_and_short = refl;
}

-- ---- Read

abbrev words : ℕ → List ℤ
words n = tabulate n (λ i. pos 7)

-- read, with two words of output, refused with number n at p
abbrev Stops : List ℕ → ℕ → ℕ → Type 0
Stops s n p = unpack_call s (words 2) ≡ record { returned = record { number = n; position = p; count = 0 }; output = words 2 }

-- 33 fields or fewer, refused with number 16 at p
abbrev StopsLate : List ℕ → ℕ → Type 0
StopsLate s p = unpack_call s (words 33) ≡ record { returned = record { number = 16; position = p; count = 0 }; output = words 33 }

pub record ReadFigures : Type 0 where
  -- what each answer returns
  pub told : unpack_returned (Ok 3) ≡ record { number = 0; position = 0; count = 3 }
  pub outside : unpack_returned (Err UnpackError.OutsideRange) ≡ record { number = 1; position = 0; count = 0 }
  pub too_short : unpack_returned (Err UnpackError.OutputTooShort) ≡ record { number = 10; position = 0; count = 0 }
  pub wrong : unpack_returned (Err (UnpackError.WrongAt 9)) ≡ record { number = 16; position = 9; count = 0 }
  -- two fields, and a word beyond
  pub two : unpack_call (minus_one ++ nines 12) (words 3) ≡ record { returned = record { number = 0; position = 0; count = 2 }; output = negsuc 0 ∷ pos 999999999999999 ∷ pos 7 ∷ [] }
  pub least : unpack_call (nines 13 ++ small 0 12) (words 2) ≡ record { returned = record { number = 0; position = 0; count = 2 }; output = minus 999999999999999 ∷ pos 0 ∷ [] }
  pub ordered : unpack_call (one ++ (hex 1 2 ∷ hex 3 4 ∷ hex 5 6 ∷ hex 7 8 ∷ hex 9 0 ∷ hex 1 2 ∷ hex 3 4 ∷ hex 5 12 ∷ [])) (words 2)
      ≡ record { returned = record { number = 0; position = 0; count = 2 }; output = pos 1 ∷ pos 123456789012345 ∷ [] }
  pub four : unpack_call (one ++ (small (hex 0 1) (hex 0 13) ++ (small (hex 1 0) (hex 0 12) ++ minus_one))) (words 5)
      ≡ record { returned = record { number = 0; position = 0; count = 4 }; output = pos 1 ∷ minus 10 ∷ pos 100 ∷ negsuc 0 ∷ pos 7 ∷ [] }
  -- 1: 0, 7 and 15 bytes are fewer than two whole fields, 272 are 34
  pub empty : Stops [] 1 0
  pub seven : Stops (tabulate 7 (λ i. 0)) 1 0
  pub fifteen : Stops (one ++ tabulate 7 (λ i. 0)) 1 0
  pub thirty_four : Stops (flat_map (λ z. one) (ones 34)) 1 0
  -- 10 before 16: three fields, the first wrong, and room for two
  pub no_room : Stops (nines 15 ++ (one ++ one)) 10 0
  -- 16: a digit in the upper half, in the lower half, the last digit; both halves, two bytes
  pub upper : Stops (one ++ (0 ∷ 0 ∷ hex 10 0 ∷ 0 ∷ 0 ∷ 0 ∷ 0 ∷ hex 0 12 ∷ [])) 16 10
  pub lower : Stops ((0 ∷ 0 ∷ 0 ∷ hex 9 10 ∷ 0 ∷ 0 ∷ 0 ∷ hex 0 12 ∷ []) ++ one) 16 3
  pub last_digit : Stops (small 0 (hex 10 12) ++ one) 16 7
  pub halves : Stops ((hex 15 15 ∷ hex 15 15 ∷ 0 ∷ 0 ∷ 0 ∷ 0 ∷ 0 ∷ 0 ∷ []) ++ one) 16 0
  pub later : Stops (one ++ (0 ∷ 0 ∷ 0 ∷ 0 ∷ 0 ∷ hex 0 11 ∷ hex 12 0 ∷ 0 ∷ [])) 16 13
  -- signs other than C and D, and a digit in its place
  pub sign_f : Stops (small 0 (hex 1 15) ++ one) 16 7
  pub sign_a : Stops (one ++ small 0 (hex 1 10)) 16 15
  pub sign_b : Stops (small 0 (hex 1 11) ++ one) 16 7
  pub sign_e : Stops (small 0 (hex 1 14) ++ one) 16 7
  pub sign9 : Stops (small 0 (hex 1 9) ++ one) 16 7
  -- zero with D; not where a digit is another, the first or the last
  pub negative_zero : Stops (one ++ small 0 (hex 0 13)) 16 15
  pub not_zero_first : unpack_call ((hex 1 0 ∷ 0 ∷ 0 ∷ 0 ∷ 0 ∷ 0 ∷ 0 ∷ hex 0 13 ∷ []) ++ one) (words 2)
      ≡ record { returned = record { number = 0; position = 0; count = 2 }; output = minus 100000000000000 ∷ pos 1 ∷ [] }
  -- the first of two wrong fields
  pub earlier : Stops (small 0 (hex 0 13) ++ nines 15) 16 7
  -- in the third field, and in the 33rd: a digit, a sign, a negative zero
  pub third : StopsLate (one ++ (one ++ (0 ∷ 0 ∷ hex 0 10 ∷ 0 ∷ 0 ∷ 0 ∷ 0 ∷ hex 0 12 ∷ []))) 18
  pub last_field : StopsLate (flat_map (λ z. one) (ones 32) ++ (0 ∷ hex 10 0 ∷ 0 ∷ 0 ∷ 0 ∷ 0 ∷ 0 ∷ hex 0 12 ∷ [])) 257
  pub last_field_sign : StopsLate (flat_map (λ z. one) (ones 32) ++ small 0 (hex 1 15)) 263
  pub last_field_zero : StopsLate (flat_map (λ z. one) (ones 32) ++ small 0 (hex 0 13)) 263
  -- a cut field, whatever it holds, at its first byte; a wrong one before it comes first, and 10 too
  pub cut : Stops (one ++ (one ++ (hex 15 15 ∷ []))) 16 16
  pub cut_by_one : Stops (one ++ (one ++ tabulate 7 (λ i. 0))) 16 16
  pub wrong_then_cut : Stops (one ++ (small 0 (hex 0 15) ++ (0 ∷ []))) 16 15
  pub cut_late : StopsLate (flat_map (λ z. one) (ones 33) ++ (0 ∷ [])) 264
  pub cut_no_room : Stops (one ++ (one ++ (one ++ (0 ∷ [])))) 10 0

pub read-figures : ReadFigures
unfolding unpack_call first_wrong cut_field wrong_in wrong_digit wrong_sign negative_zero half_at magnitude_at amount_at fold or_else turns tabulate flat_map
read-figures = record {
  told = refl;
  outside = refl;
  too_short = refl;
  wrong = refl;
  two = refl;
  least = refl;
  ordered = refl;
  four = refl;
  empty = refl;
  seven = refl;
  fifteen = refl;
  thirty_four = refl;
  no_room = refl;
  upper = refl;
  lower = refl;
  last_digit = refl;
  halves = refl;
  later = refl;
  sign_f = refl;
  sign_a = refl;
  sign_b = refl;
  sign_e = refl;
  sign9 = refl;
  negative_zero = refl;
  not_zero_first = refl;
  earlier = refl;
  third = refl;
  last_field = refl;
  last_field_sign = refl;
  last_field_zero = refl;
  cut = refl;
  cut_by_one = refl;
  wrong_then_cut = refl;
  cut_late = refl;
  cut_no_room = refl;
}
