-- `pack` meets its contract: its checks are those of `pack_call`, and the fields written are the statement's (`fields_grid`).
use Rattle.std.proofs.Common.{◌≡◌, sym, ◌∙◌, true, false, ◌*◌, ◌≤◌, length, arith}
use borrow.Author.Tests.{le-leb, lt-leb}
use Rattle.packed.specs.Packed.{field_bytes, statement_fits, pack_call}
use Rattle.packed.proofs.laws.StatementLaws.{fields_grid}
use Rattle.packed.proofs.pack.pack.Goals as goal

pub returns-then-not-statement_fits : goal.returns-then-not-statement_fits
unfolding pack_call
returns-then-not-statement_fits c =
    let f : statement_fits c.args.amounts.now ≡ false = sym c.statement_fits.ensures ∙ c.if-not-statement_fits.true in
    rw f

pub returns-then-output-amounts : goal.returns-then-output-amounts
unfolding pack_call
returns-then-output-amounts c =
    let a = c.args in
    let f : statement_fits a.amounts.now ≡ true = sym c.statement_fits.ensures ∙ c.if-not-statement_fits.false in
    rw (f, lt-leb (field_bytes * length a.amounts.now) (length a.output.now) (omega arith))

pub returns : goal.returns
unfolding pack_call
returns c =
    let a = c.args in
    let f : statement_fits a.amounts.now ≡ true = sym c.statement_fits.ensures ∙ c.if-not-statement_fits.false in
    let l : field_bytes * length a.amounts.now ≤ length a.output.now = omega arith in
    rw (f, le-leb (field_bytes * length a.amounts.now) (length a.output.now) l, c.put_fields.ensures, fields_grid a.amounts.now a.output.now l)
