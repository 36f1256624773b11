-- The search for an absent flag, by the words' indices. Assumes nothing.
use Rattle.std.specs.Prelude.{Bool, List, ℕ, ◌+◌, ◌*◌, ℤ, Option, is_some, unwrap_or}
use Rattle.integer.specs.Below.{first}
use Rattle.rulebook.specs.declared.Section.{Section}
use Rattle.rulebook.specs.declared.Section.TheVariants.{Vesting, Meter, Residual, Ncc}
use Rattle.rulebook.specs.Units.{intervals}
use Rattle.rulebook.specs.Layout.{interval_words, account_words, interval_length, flag_at}
use Rattle.rulebook.specs.Close.{absent_at, searched}

-- where the flag of a section's row of account a stands, in interval i of `size` words of the slots at `today` and `then`
abbrev pub flag_in : ℕ → ℕ → ℕ → ℕ → Section → ℕ → ℕ
flag_in size today then i Vesting a = today + i * size + (interval_words + a * account_words) + flag_at Vesting
flag_in size today then i Meter a = today + i * size + (interval_words + a * account_words) + flag_at Meter
flag_in size today then i Residual a = then + i * size + (interval_words + flag_at Residual + a * account_words)
flag_in size today then i Ncc a = then + i * size + flag_at Ncc

-- its index, if it is zero
abbrev pub flag_absent : List ℤ → ℕ → ℕ → ℕ → ℕ → Section → ℕ → Option ℕ
flag_absent w size today then i s a = absent_at w (flag_in size today then i s a)

-- in interval i, of n accounts
unfoldable pub absent_in : List ℤ → ℕ → ℕ → ℕ → Bool → ℕ → Option ℕ
absent_in w n today then due i = searched n due (flag_absent w (interval_length n) today then i)

-- in all; no slot at `then`, where no residual is due
unfoldable pub first_absent : List ℤ → ℕ → ℕ → Option ℕ → Option ℕ
first_absent w n today then = first intervals (absent_in w n today (unwrap_or then 0) (is_some then))
