-- `ncc_fits` meets its contract: by `ncc-is` the row fits exactly if its flag and its load do.
use Rattle.std.proofs.Common.{◌≡◌, ◌&&◌, sym, ◌∙◌, pos, arith, true, false}
use Rattle.std.specs.Int.Signed.{lt_z}
use Rattle.integer.proofs.Bits.{got}
use Rattle.integer.specs.Below.{fold}
use Rattle.integer.specs.Words.{word}
use Rattle.rulebook.specs.Units.{between}
use Rattle.rulebook.specs.WellFormed.{is_zero, padding_zero, ncc_fits}
use Rattle.book.proofs.laws.RowLaws.{ncc-is}
use Rattle.book.proofs.interval.ncc_fits.Goals as goal
use Rattle.book.proofs.interval.ncc_fits.Goals.{After-is_zero-2, After-is_between}

-- both padding words were read, and the flag
padding-read : (c : After-is_zero-2) → (c.is_zero.result && c.is_zero-2.result) ≡ (is_zero (word c.args.own.now 2) && is_zero (word c.args.own.now 3))
padding-read c = rw (c.is_zero.ensures, c.is_zero-2.ensures, got (word c.args.own.now 2) (omega arith), got (word c.args.own.now 3) (omega arith))

flag-read : (c : After-is_between) → c.is_between.result ≡ between (pos 0) (pos 1) (word c.args.own.now 1)
flag-read c = rw (c.is_between.ensures, got (word c.args.own.now 1) (omega arith))

pub returns-then-not-is_zero : goal.returns-then-not-is_zero
unfolding ncc_fits padding_zero fold
returns-then-not-is_zero c = rw (sym (padding-read (goal.at.returns-then-not-is_zero c).After-is_zero-2) ∙ c.if-not-is_zero.true)

pub returns-then-not-is_between : goal.returns-then-not-is_between
unfolding ncc_fits padding_zero fold
returns-then-not-is_between c =
    let d = goal.at.returns-then-not-is_between c in
    rw (ncc-is _, sym (padding-read d.After-is_zero-2) ∙ c.if-not-is_zero.false, sym (flag-read d.After-is_between) ∙ c.if-not-is_between.true)

pub returns-then-flag-gt0 : goal.returns-then-flag-gt0
unfolding ncc_fits padding_zero fold
returns-then-flag-gt0 c =
    let d = goal.at.returns-then-flag-gt0 c in
    let z = word c.args.own.now 1 in
    let f : lt_z (pos 0) z ≡ true = rw (got z (omega arith)) at c.if-flag-gt0.true in
    rw (ncc-is _, sym (padding-read d.After-is_zero-2) ∙ c.if-not-is_zero.false, sym (flag-read d.After-is_between) ∙ c.if-not-is_between.false, f, c.in_range.ensures, got (word c.args.own.now 0) (omega arith))

pub returns-else-flag-gt0 : goal.returns-else-flag-gt0
unfolding ncc_fits padding_zero fold
returns-else-flag-gt0 c =
    let d = goal.at.returns-else-flag-gt0 c in
    let z = word c.args.own.now 1 in
    let f : lt_z (pos 0) z ≡ false = rw (got z (omega arith)) at c.if-flag-gt0.false in
    rw (ncc-is _, sym (padding-read d.After-is_zero-2) ∙ c.if-not-is_zero.false, sym (flag-read d.After-is_between) ∙ c.if-not-is_between.false, f, c.is_zero-else-flag-gt0.ensures, got (word c.args.own.now 0) (omega arith))
