use Rattle.std.specs.Prelude.{◌≡◌, ◌+◌, ◌*◌, is_some, unwrap_or, None}
use Rattle.integer.specs.Below.{first}
use Rattle.rulebook.specs.declared.Section.TheVariants.{Residual}
use Rattle.rulebook.specs.Layout.{interval_words, account_words, flag_at}
use Rattle.rulebook.specs.Close.{absent_at, account_searched}
use Rattle.closing.specs.Search.{flag_absent, absent_in}
use Rattle.closing.proofs.search.first_absent.Given as goal

abbrev pub invariant-loop-i : goal.invariant-loop-i
invariant-loop-i l = record {
  given : l.then ≡ l.fn.then;
  none : first l.i (absent_in l.book l.n l.today (unwrap_or l.fn.then 0) (is_some l.fn.then)) ≡ None;
}

abbrev pub invariant-loop-a : goal.invariant-loop-a
invariant-loop-a l = record {
  given : l.then ≡ l.fn.then;
  none : first l.a (account_searched (flag_absent l.book l.size l.today (unwrap_or l.fn.then 0) l.i)) ≡ None;
}

abbrev pub invariant-loop-a-2 : goal.invariant-loop-a-2
invariant-loop-a-2 l = first l.a (λ a. absent_at l.book (l.at + (interval_words + flag_at Residual + a * account_words))) ≡ None
