-- `run` meets its contract: it stands at a turn that it reached, and leaves the loop where nothing more is to be read.
use Rattle.std.proofs.Common.{refl, sym, ◌∙◌, inl, inr, arith, rules}
use Rattle.interpreter.specs.Interpreter.{beginning, turn}
use Rattle.interpreter.specs.Running.{SomeItem}
use Rattle.interpreter.proofs.laws.RunningLaws.{handed-few, handed-err, handed-at, stands-begun, stands-next}
use Rattle.settle.proofs.run.Goals as goal

pub loop-next-init : goal.loop-next-init
loop-next-init c =
    let b = c.begin-next.ensures in
    record { bytes = refl; few = handed-few (beginning c.args.book.now c.args.opening.now) _ b.goes_on b.few; stands = stands-begun SomeItem (rw c.requires.0 at b) }

pub returns-in_default : goal.returns-in_default
returns-in_default c =
    let h = c.loop-next.invariant.stands in
    record { left = h.left; whole = λ w. inl (handed-err h.left.last _ (sym c.in_default.is ∙ h.goes_on)).0 }

pub returns-then-turn-ge-LIMIT : goal.returns-then-turn-ge-LIMIT
returns-then-turn-ge-LIMIT c =
    let h = c.loop-next.invariant.stands in
    let p = handed-at h.left.last c.in-Ok.turn (sym c.in-Ok.is ∙ h.goes_on) in
    record { left = h.left; whole = λ w. inr (omega (arith, c.if-turn-ge-LIMIT.true, p)) }

pub loop-next-preserved : goal.loop-next-preserved
loop-next-preserved c =
    let d = c.step-next.ensures.done in
    record {
      bytes = search rules;
      few = handed-few (turn c.in-Ok.turn.accounts c.in-Ok.turn.position c.loop-next.book c.step-next.ensures.read) _ d.goes_on d.few;
      stands = stands-next SomeItem (rw c.in-Ok.is at c.loop-next.invariant.stands) c.step-next.ensures;
    }
