-- What files are judged by: limits, and a table of marks with room for the open days. Assumes nothing.
use Rattle.std.specs.Prelude.{ℕ, suc, ◌*◌, ◌-◌, ◌≤◌}
use Rattle.rulebook.specs.declared.Section.{Section}
use Rattle.rulebook.specs.declared.Limits.{Limits}
use Rattle.rulebook.specs.Shares.{most_accounts}
use Rattle.rulebook.specs.Judging.{open_from}

-- how many days are open to a section's rows
abbrev pub open_days : Limits → Section → ℕ
open_days l sec = suc l.last - open_from l sec

-- n marks are one at least for each account and open day
abbrev pub RoomForDays : Limits → ℕ → Section → Type 0
RoomForDays l n sec = most_accounts * open_days l sec ≤ n

-- from 1 to 32 accounts, and n marks are enough
pub record Judgeable (l : Limits) (n : ℕ) : Type 0 where
  pub some : 1 ≤ l.accounts
  pub few : l.accounts ≤ most_accounts
  pub room : (sec : Section) → RoomForDays l n sec
