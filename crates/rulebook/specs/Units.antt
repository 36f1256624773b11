-- Document 01, "Units and ranges": days, intervals, the range of each kind of value, and "nearest". Assumes nothing.
use Rattle.std.specs.Prelude.{Bool, ◌&&◌, ℕ, ◌-◌, ℤ, pos}
use Rattle.std.specs.Int.Signed.{le_z}
use Rattle.integer.specs.Integer.{minus, positive}
use Rattle.rulebook.specs.declared.Kind.{Kind}
use Rattle.rulebook.specs.declared.Kind.TheVariants.{Quantity, Injection, Load, Price}
-- the nearest whole number to z / d, a tie going away from zero; `IsNearest` is the property that determines it
unfoldable pub use Rattle.integer.specs.Nearest.{nearest}
-- max(z, 0)
pub use Rattle.integer.specs.Integer.{positive}

-- a word read as a quantity; none that was accepted is below zero
abbrev pub as_quantity : ℤ → ℕ
as_quantity z = positive z

-- max(a − b, 0)
abbrev pub less_or_zero : ℕ → ℕ → ℕ
less_or_zero a b = a - b

-- ---- Days and intervals

-- 31 December 2099, in days since 1 January 2000
abbrev pub last_day : ℕ
last_day = 36524

abbrev pub intervals : ℕ
intervals = 48

-- ---- Ranges, both ends included

-- kWh of an interval
abbrev pub most_quantity : ℕ
most_quantity = 10000000

-- kWh of all non-contestable consumers in an interval
abbrev pub most_load : ℕ
most_load = 1000000000

-- cents per MWh, either way
abbrev pub most_price : ℕ
most_price = 1000000

abbrev pub between : ℤ → ℤ → ℤ → Bool
between low high z = le_z low z && le_z z high

abbrev pub in_range : Kind → ℤ → Bool
in_range Quantity z = between (pos 0) (pos most_quantity) z
in_range Injection z = between (minus most_quantity) (pos most_quantity) z
in_range Load z = between (pos 0) (pos most_load) z
in_range Price z = between (minus most_price) (pos most_price) z

-- kWh times cents per MWh is thousandths of a cent
abbrev pub thousandths_per_cent : ℕ
thousandths_per_cent = 1000
