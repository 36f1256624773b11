-- `unpack` meets its contract: its checks are those of `unpack_call`, in their order.
use Rattle.std.specs.Prelude.{Some, None}
use Rattle.std.proofs.Common.{◌≡◌, sym, ◌∙◌, true, false, length, arith}
use borrow.Author.Tests.{le-leb, lt-leb}
use Rattle.packed.specs.Packed.{count_fits, whole_fields, first_wrong, unpack_call}
use Rattle.packed.proofs.unpack.unpack.Goals as goal

pub returns-then-not-count_fits : goal.returns-then-not-count_fits
unfolding unpack_call
returns-then-not-count_fits c =
    let f : count_fits (whole_fields c.args.s.now) ≡ false = sym c.count_fits.ensures ∙ c.if-not-count_fits.true in
    rw f

pub returns-then-output-n : goal.returns-then-output-n
unfolding unpack_call
returns-then-output-n c =
    let a = c.args in
    let f : count_fits (whole_fields a.s.now) ≡ true = sym c.count_fits.ensures ∙ c.if-not-count_fits.false in
    rw (f, lt-leb (whole_fields a.s.now) (length a.output.now) (omega arith))

pub returns-in-Some : goal.returns-in-Some
unfolding unpack_call
returns-in-Some c =
    let a = c.args in
    let f : count_fits (whole_fields a.s.now) ≡ true = sym c.count_fits.ensures ∙ c.if-not-count_fits.false in
    let w : first_wrong a.s.now ≡ Some c.in-Some.p = sym c.in-Some.ensures in
    rw (f, le-leb (whole_fields a.s.now) (length a.output.now) (omega arith), w)

pub returns : goal.returns
unfolding unpack_call
returns c =
    let a = c.args in
    let f : count_fits (whole_fields a.s.now) ≡ true = sym c.count_fits.ensures ∙ c.if-not-count_fits.false in
    let w : first_wrong a.s.now ≡ None = sym c.in_default.ensures in
    rw (c.put_amounts.ensures, f, le-leb (whole_fields a.s.now) (length a.output.now) (omega arith), w)
