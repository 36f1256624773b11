-- `robijan_judge` meets its contract: the judge says well formed or not, and each has its number.
use Rattle.std.proofs.Common.{sym, ◌∙◌}
use Rattle.book.proofs.laws.JudgedLaws.{book-formed, book-ill}
use Rattle.robijan.specs.Returned.{judge_number}
use Rattle.robijan.proofs.book_calls.robijan_judge.Goals as goal

pub returns-in-Some : goal.returns-in-Some
unfolding judge_number
returns-in-Some c = rw (book-formed c.args.book.now _ _ (sym c.judge.ensures ∙ c.in-Some.is)).formed

pub returns-in-None : goal.returns-in-None
unfolding judge_number
returns-in-None c = rw (book-ill c.args.book.now (sym c.judge.ensures ∙ c.in-None.is))
