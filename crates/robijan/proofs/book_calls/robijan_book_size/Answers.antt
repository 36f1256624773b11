-- `robijan_book_size` meets its contract: terms are judged as an opening judges them.
use Rattle.std.proofs.Common.{sym, ◌∙◌}
use Rattle.robijan.specs.Returned.{size_returned}
use Rattle.robijan.proofs.laws.ReturnedLaws.{accepted-some, accepted-none}
use Rattle.robijan.proofs.book_calls.robijan_book_size.Goals as goal

pub returns-in-Some : goal.returns-in-Some
unfolding size_returned
returns-in-Some c =
    let a = accepted-some c.args.terms c.in-Some.terms (sym c.new.ensures ∙ c.in-Some.is) in
    rw (a.0, c.book_size.ensures, a.1)

pub returns-in-None : goal.returns-in-None
unfolding size_returned
returns-in-None c = rw (accepted-none c.args.terms (sym c.new.ensures ∙ c.in-None.is))
