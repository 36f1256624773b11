-- `perform` meets its contract: each item is one of the definition's.
use Rattle.std.proofs.Common.{sym, ◌∙◌, ◌<◌, length, arith, rules}
use Rattle.integer.proofs.laws.WordsLaws.{lent}
use Rattle.console.proofs.laws.InputLaws.{submit-fits, bad-near}
use Rattle.interpreter.proofs.laws.InterpreterLaws.{performs_close, performs_submit, performs_bad, performs_end}
use Rattle.interpreter.proofs.perform.Goals as goal

pub overflow_add-stop : goal.overflow_add-stop
overflow_add-stop o c = let l : length c.args.s.now < 9223372036854775808 = search rules in omega (arith, submit-fits c.args.s.now c.in-Submit.n (sym c.in-Submit.ensures), l)

pub slice_bounds-submit_file-end : goal.slice_bounds-submit_file-end
slice_bounds-submit_file-end o c = submit-fits c.args.s.now c.in-Submit.n (sym c.in-Submit.ensures)

pub submit_file-requires : goal.submit_file-requires
submit_file-requires o c = (search rules, c.requires.2)

pub overflow_add-turn : goal.overflow_add-turn
overflow_add-turn o c = omega (arith, bad-near c.args.s.now c.in-Bad.k (sym c.in-Bad.ensures))

pub returns-in-Close : goal.returns-in-Close
returns-in-Close o c =
    let g = c.args in
    rw c.wanted.ensures.0 (performs_close g.book.now g.s.now g.turn.accounts g.turn.position c.requires.0 (sym c.item_of.ensures ∙ c.in-Close.is) c.close_next.ensures.0 c.close_next.ensures.1)

pub returns-in-Submit : goal.returns-in-Submit
returns-in-Submit o c =
    let g = c.args in
    rw c.wanted.ensures.0 (performs_submit g.book.now g.s.now g.turn.accounts g.turn.position c.requires.0 c.in-Submit.n (sym c.in-Submit.ensures) (rw (lent g.s.now 3 c.in-Submit.n) at c.submit_file.ensures.0) (rw (lent g.s.now 3 c.in-Submit.n) at c.submit_file.ensures.1))

pub returns-in-Bad : goal.returns-in-Bad
returns-in-Bad o c =
    let g = c.args in
    rw (← c.wanted.ensures.0) at (performs_bad g.book.now g.s.now g.turn.accounts g.turn.position c.requires.0 c.in-Bad.k (sym c.in-Bad.ensures) c.bad_line.ensures)

pub returns-in-End : goal.returns-in-End
returns-in-End o c =
    let g = c.args in
    rw c.clear.ensures (rw (← c.wanted.ensures.0) at (performs_end g.book.now g.s.now g.turn.accounts g.turn.position c.requires.0 (sym c.item_of.ensures ∙ c.in-End.is)))
