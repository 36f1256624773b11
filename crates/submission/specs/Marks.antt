-- How large a table of marks serves every book. Assumes nothing.
use Rattle.std.specs.Prelude.{ℕ, ◌+◌, ◌*◌}
use Rattle.rulebook.specs.Shares.{most_accounts}
use Rattle.rulebook.specs.Terms.{most_lag, most_horizon}

-- 32 accounts, and the days from L back to H ahead
abbrev pub most_marks : ℕ
most_marks = most_accounts * (most_lag + most_horizon)
