-- `close` meets its contract: the promise goes by what the judge says of the book.
use Rattle.std.specs.Prelude.{◌≡◌, Option, Some, None, Err, ok_or}
use Rattle.std.proofs.Common.{refl, sym, ◌∙◌}
use Rattle.std.proofs.lemmas.Result.{err_from_is_err_and}
use Rattle.rulebook.specs.declared.CloseError.{CloseError}
use Rattle.rulebook.specs.declared.CloseError.TheVariants.{BookIllFormed}
use Rattle.book.specs.declared.judge.FormedBook.{FormedBook}
use Rattle.book.proofs.laws.JudgedLaws.{book-ill}
use Rattle.closing.proofs.laws.CloseLaws.{ill_formed}
use Rattle.closing.proofs.close.close.Goals as goal

-- the judge's answer that became an error
refused : (r : Option FormedBook) {x : CloseError} → Err x ≡ ok_or r BookIllFormed → (r ≡ None) × (x ≡ BookIllFormed)
refused None e = (refl, cc)
refused (Some f) e = cc

pub returns-in_err-formed : goal.returns-in_err-formed
returns-in_err-formed c =
    let p = err_from_is_err_and c.from_residual.result c.from_residual.ensures.1 in
    let t = refused c.judge.result c.in_err-formed.ensures.value in
    rw (p.1, p.2, t.1) (ill_formed c.args.book.now c.args.statement.now (book-ill c.args.book.now (sym c.judge.ensures ∙ t.0)))
