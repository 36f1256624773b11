-- Which accounts and days a section gave so far, kept as marks: one for each account and open day. Assumes nothing.
use Rattle.std.specs.Prelude.{◌≡◌, Bool, List, ℕ, ◌+◌, ◌*◌, ◌-◌, ◌≤◌, ◌<◌, eqb, length, get_or, set, Ok, Err}
use Rattle.integer.specs.Below.{tabulate}
use Rattle.rulebook.specs.declared.Section.{Section}
use Rattle.rulebook.specs.declared.Limits.{Limits}
use Rattle.rulebook.specs.Shares.{most_accounts}
use Rattle.rulebook.specs.File.{account_at, day_at, row_pos}
use Rattle.rulebook.specs.Judging.{Verdict, open_from, up_to, given, judged_row}
use Rattle.files.specs.Judgeable.{Judgeable}

-- the place of the mark of account a and day d, where the open days begin at `low`
abbrev pub mark_place : ℕ → ℕ → ℕ → ℕ
mark_place low a d = most_accounts * (d - low) + a

-- that of the row at `at`
abbrev pub mark_of : Limits → Section → List ℕ → ℕ → ℕ
mark_of l sec s at = mark_place (open_from l sec) (account_at sec s at) (day_at sec s at)

abbrev pub marked : List ℕ → ℕ → Bool
marked marks k = eqb (get_or marks k 0) 1

-- n marks, none of them set
unfoldable pub unmarked : ℕ → List ℕ
unmarked n = tabulate n (λ _. 0)

-- the marks after a row: its own is set where its account and day were accepted
abbrev pub marks_after : Verdict → ℕ → List ℕ → List ℕ
marks_after (Ok _) k marks = set marks k 1
marks_after (Err r) k marks = marks

-- the marks say, of each account and open day, whether a row before row i of the section has them
unfoldable pub Marked : Limits → Section → List ℕ → ℕ → ℕ → List ℕ → Type 0
Marked l sec s first i marks =
    (a d : ℕ) → a < most_accounts → open_from l sec ≤ d → d ≤ l.last → marked marks (mark_place (open_from l sec) a d) ≡ given sec s first i a d

-- what holds before row i of a section is judged, which stands at `at`
pub record Before (l : Limits) (sec : Section) (s : List ℕ) (first i at : ℕ) (marks : List ℕ) : Type 0 where
  pub place : at ≡ row_pos sec s first i
  pub inside : at ≤ length s
  pub room : Judgeable l (length marks)
  pub accepted : up_to i (judged_row l sec s first) ≡ Ok tt
  pub noted : Marked l sec s first i marks
