-- `run` meets its contract: it stands at a turn that the input reaches. It ends: where it goes on, each turn's position is further on in the input than the last one's.
use Rattle.std.proofs.Common.{refl, drop, length-drop, arith}
use Rattle.interpreter.specs.Interpreter.{beginning, turn}
use Rattle.interpreter.specs.Running.{RestOf}
use Rattle.interpreter.proofs.laws.RunningLaws.{handed-few, handed-within, stands-begun, stands-next}
use Rattle.replay_settle.proofs.run.Goals as goal

pub loop-next-init : goal.loop-next-init
loop-next-init c =
    let b = c.begin-next.ensures in
    let t = beginning c.args.book.now c.args.s.now in
    record {
      few = handed-few t _ b.goes_on b.few;
      within = handed-within t _ b.goes_on (λ m. omega (arith, b.within m));
      stands = stands-begun (RestOf c.args.s.now) (rw c.requires.0 at b);
    }

pub loop-next-preserved : goal.loop-next-preserved
loop-next-preserved c =
    let d = c.item-next.ensures in
    let q = c.in-Ok.turn in
    let s = c.args.s.now in
    let h = rw c.in-Ok.is at c.loop-next.invariant.within in
    let t = turn q.accounts q.position c.loop-next.book (drop q.position s) in
    record {
      few = handed-few t _ d.goes_on d.few;
      within = handed-within t _ d.goes_on (λ m. omega (arith, d.within m, length-drop q.position s, h));
      stands = stands-next (RestOf s) (rw c.in-Ok.is at c.loop-next.invariant.stands) (record { read = drop q.position s; item = refl; done = d });
    }
