-- `is_field` meets its contract: the tests of the code are those of the field by its bytes (`right_as_asked`).
use Rattle.std.proofs.Common.{◌≡◌, sym, ◌∙◌, ◌+◌, get_or}
use mathlib.Core.Bool.{◌&&◌}
use Rattle.packed.specs.Pairs.{pairs, pairs_right, is_last}
use Rattle.packed.proofs.laws.PairLaws.{right_as_asked}
use Rattle.packed.proofs.unpack.is_field.Goals as goal
use Rattle.packed.proofs.unpack.is_field.Goals.{Joined-pairs_right, then-pairs_right, else-pairs_right}

-- its digits and its last byte
asked : (c : Joined-pairs_right) → c.if-pairs_right.value ≡ (pairs_right c.args.field.now 0 && is_last (get_or c.args.field.now (0 + pairs) 0))
asked c =
    elim c.if-pairs_right.branch [
      | then-pairs_right w ↦ rw (w.value-is, w.is_last.ensures, sym c.pairs_right.ensures ∙ w.if-pairs_right.true)
      | else-pairs_right w ↦ rw (sym c.pairs_right.ensures ∙ w.if-pairs_right.false) (w.value-is ∙ w.if-pairs_right.false)
    ]

pub returns-then-is_last : goal.returns-then-is_last
returns-then-is_last c =
    let s = c.args.field.now in
    let e = sym (asked (goal.at.returns-then-is_last c).Joined-pairs_right) ∙ c.if-is_last.true in
    rw c.is_negative_zero.ensures (rw e at (right_as_asked s 0))

pub returns-else-is_last : goal.returns-else-is_last
returns-else-is_last c =
    let s = c.args.field.now in
    let e = sym (asked (goal.at.returns-else-is_last c).Joined-pairs_right) ∙ c.if-is_last.false in
    rw c.if-is_last.false (rw e at (right_as_asked s 0))
