-- `residual_count` meets its contract: it goes by whether a day is settled.
use Rattle.std.proofs.Common.{sym, ◌∙◌}
use Rattle.rulebook.specs.Close.{residual_count}
use Rattle.closing.proofs.laws.SlotsLaws.{settles, settles_none}
use Rattle.closing.proofs.close.residual_count.Goals as goal

pub returns-in-Some : goal.returns-in-Some
unfolding residual_count
returns-in-Some c =
    let f = c.args.formed.now in
    rw (c.get.ensures.same, (settles f.terms f.next (sym c.settled_day.ensures.day ∙ c.in-Some.is)).due)

pub returns-in-None : goal.returns-in-None
unfolding residual_count
returns-in-None c =
    let f = c.args.formed.now in
    rw (settles_none f.terms f.next (sym c.settled_day.ensures.day ∙ c.in-None.is))
