-- What a value in its range satisfies. Assumes nothing.
use Rattle.std.specs.Prelude.{◌≡◌, true, ℕ, ◌≤◌, ℤ, pos, nat_abs, ◌≤ℤ◌}
use Rattle.std.specs.Int.Signed.{le_z}
use Rattle.integer.specs.Integer.{positive, negative, minus}
use Rattle.integer.proofs.laws.IntegerLaws.{int, parts, le_parts, parts-le, le_test, le_true, neg_parts}
use Rattle.integer.proofs.laws.BelowLaws.{and-true}
use Rattle.rulebook.specs.declared.Kind.TheVariants.{Quantity, Injection, Load, Price}
use Rattle.rulebook.specs.Units.{between, in_range, most_quantity, most_load, most_price}

pub between-true : (low high z : ℤ) → between low high z ≡ true → (low ≤ℤ z) × (z ≤ℤ high)
between-true low high z e =
    let t = and-true (le_z low z) (le_z z high) e in
    (parts-le (le_test low z t.0), parts-le (le_test z high t.1))

pub true-between : (low high z : ℤ) → low ≤ℤ z → z ≤ℤ high → between low high z ≡ true
true-between low high z l h = rw (le_true low z (le_parts l), le_true z high (le_parts h))

-- from 0 to n
pub record UpTo (n : ℕ) (z : ℤ) : Type 0 where
  pub not_negative : negative z ≡ 0
  pub most : positive z ≤ n

up_to : (n : ℕ) (z : ℤ) → between (pos 0) (pos n) z ≡ true → UpTo n z
up_to n z e = let b = between-true (pos 0) (pos n) z e in let p = parts z in record { not_negative = omega (int, b.0, b.1); most = omega (int, b.0, b.1) }

pub quantity-range : (z : ℤ) → in_range Quantity z ≡ true → UpTo most_quantity z
quantity-range = up_to most_quantity

pub load-range : (z : ℤ) → in_range Load z ≡ true → UpTo most_load z
load-range = up_to most_load

-- from -n to n
within : (n : ℕ) (z : ℤ) → between (minus n) (pos n) z ≡ true → nat_abs z ≤ n
within n z e = let b = between-true (minus n) (pos n) z e in omega (int, b.0, b.1, parts z, neg_parts (pos n))

pub price-range : (z : ℤ) → in_range Price z ≡ true → nat_abs z ≤ most_price
price-range = within most_price

pub injection-range : (z : ℤ) → in_range Injection z ≡ true → nat_abs z ≤ most_quantity
injection-range = within most_quantity
