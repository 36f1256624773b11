-- `read_on` meets its contract: what was at hand is kept, and as many bytes come after it as it wants, or fewer.
use mathlib.Core.Path.{sym}
use Prim.Native.Nat.{◌-◌, ◌≤◌}
use native.Mathlib.Omega.{arith}
use lib.Seq.{length-take-le}
use borrow.Rule.Slice.PartMut.{mid_len, take_put, same_len_mid}
use Rattle.console.proofs.laws.ReadingLaws.{within_on}
use borrow.Author.Rules.{rules}
use Rattle.settle.proofs.read_on.Goals as goal
use Rattle.settle.proofs.read_on.Goals.{After-read_full}

pub slice_bounds-wanted-end-2 : goal.slice_bounds-wanted-end-2
slice_bounds-wanted-end-2 c = sym (length-take-le _ _ (search rules))

-- no more come than were asked for
come : (c : After-read_full) → c.read_full.result ≤ c.wanted-end.result - c.args.got
come c = omega (arith, c.read_full.ensures.0, c.read_full.auto.buf, mid_len c.args.got c.wanted-end.result c.args.bytes.now (omega (arith, c.wanted-end.ensures.1, c.requires.0)))

pub returns : goal.returns
returns c =
    let b = c.args.bytes.now in
    let k = come (goal.at.returns c).After-read_full in
    let l = same_len_mid c.args.got (c.wanted-end.result - c.args.got) b c.read_full.new.buf c.read_full.auto.buf in
    let e = c.wanted-end.ensures in (
      omega (arith, k, e, c.requires.1.1),
      within_on b _ c.args.got _ (omega arith) (omega (arith, k, l, e, c.requires)) (take_put c.args.got (c.wanted-end.result - c.args.got) b c.read_full.new.buf (omega (arith, c.requires))) (omega (arith, k, e, c.requires.1.1)),
    )
