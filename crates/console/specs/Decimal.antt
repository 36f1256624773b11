-- Numbers as text in ASCII: base ten, no leading zeros, a minus before a negative one. Assumes nothing.
use Rattle.std.specs.Prelude.{cond, List, [], ◌∷◌, ◌++◌, ℕ, zero, suc, ◌+◌, ◌/◌, ◌%◌, ltb, ℤ, pos, negsuc}

-- the character of a digit below 10: `0` is 48
abbrev pub digit : ℕ → ℕ
digit d = 48 + d

-- the digits of n, the most significant first, at most k of them
unfoldable pub digits_within : ℕ → ℕ → List ℕ
digits_within zero n = []
digits_within (suc k) n =
    let longer = digits_within k (n / 10) ++ (digit (n % 10) ∷ []) in
    cond (ltb n 10) (digit n ∷ []) longer

-- n has at most n + 1 digits
unfoldable pub decimal : ℕ → List ℕ
decimal n = digits_within (suc n) n

abbrev pub minus_sign : ℕ
minus_sign = 45

unfoldable pub signed_decimal : ℤ → List ℕ
signed_decimal (pos n) = decimal n
signed_decimal (negsuc n) = minus_sign ∷ decimal (suc n)
