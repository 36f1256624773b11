-- What a row read off a file says of each interval: straight from document 01's layouts. Assumes nothing.
use Rattle.std.specs.Prelude.{◌≡◌, List, ℕ, ◌+◌, ◌*◌, ◌<◌, pos, get_or}
use Rattle.std.proofs.Common.{add_assoc, arith, lt-ltb}
use Rattle.std.proofs.Math.Arith.{digits_lt}
use Rattle.integer.proofs.laws.BelowLaws.{get_d_tabulate}
use Rattle.rulebook.specs.declared.Section.{Section}
use Rattle.rulebook.specs.Sections.{per_interval}
use Rattle.rulebook.specs.File.{num, number_of, row_at, count_at, values_pos, values_in, value_at}

-- a field of four bytes
pub num-four : (s : List ℕ) (at : ℕ) → num 4 s at ≡ get_or s at 0 + 256 * get_or s (at + 1) 0 + 65536 * get_or s (at + 2) 0 + 16777216 * get_or s (at + 3) 0
unfolding num
num-four s at = simp add_assoc (omega arith)

-- number k of interval i is the value at the row's i * perInterval + k
pub number_at : (sec : Section) (s : List ℕ) (at i k : ℕ) → i < 48 → k < per_interval sec (count_at sec s at)
    → number_of (row_at sec s at) i k ≡ value_at s (values_pos sec at + 4 * (i * per_interval sec (count_at sec s at) + k))
unfolding number_of
number_at sec s at i k hi hk =
    rw (lt-ltb k (per_interval sec (count_at sec s at)) hk)
    (get_d_tabulate (values_in sec s at) (λ j. value_at s (values_pos sec at + 4 * j)) (i * per_interval sec (count_at sec s at) + k) (pos 0) (digits_lt hi hk))
