-- `submit` meets its contract: the marks are enough for every book, an accepted file's rows may be stored, and the promise goes by the judges' answers.
use Rattle.std.proofs.Common.{subst, rules, ◌≡◌, sym, ap, ◌∙◌, None, Ok}
use Rattle.std.proofs.lemmas.Result.{err_from_is_err_and}
use Rattle.rulebook.specs.declared.Limits.{Limits}
use Rattle.rulebook.specs.declared.SubmitError.TheVariants.{IllFormed}
use Rattle.rulebook.specs.Promises.{SubmitPromise}
use Rattle.rulebook.specs.Judging.{limits_of, judged}
use Rattle.book.specs.Judged.{Formed}
use Rattle.book.proofs.laws.JudgedLaws.{book-formed, book-ill}
use Rattle.submission.proofs.laws.SubmitLaws.{ill_formed, file-fits, file-taken, file-refused}
use Rattle.submission.proofs.submit.submit.Goals as goal
use Rattle.submission.proofs.submit.submit.Goals.{In_ok-formed, In_err-formed, After-judge_file}

-- what the judge said of the book
formed : (c : In_ok-formed) → Formed c.args.book.now c.in_ok-formed.formed.terms c.in_ok-formed.formed.next
formed c = book-formed c.args.book.now c.in_ok-formed.formed.terms c.in_ok-formed.formed.next (sym c.judge.ensures ∙ (rw c.in_ok-formed.was at c.ok_or.ensures.ok_part))

-- and says of the file
verdict : (c : After-judge_file) → judged (limits_of c.in_ok-formed.formed.terms c.in_ok-formed.formed.next) c.args.file.now ≡ c.judge_file.result
verdict c = sym (c.judge_file.ensures ∙ ap (λ (l : Limits). judged l c.args.file.now) c.limits_of-limits.ensures)

pub returns-in_err-formed : goal.returns-in_err-formed
returns-in_err-formed c =
    let p = err_from_is_err_and c.from_residual.result c.from_residual.ensures.1 in
    let n : c.judge.result ≡ None = rw c.in_err-formed.was at c.ok_or.ensures.ok_part in
    let v = rw n at (sym c.in_err-formed.was ∙ c.ok_or.ensures.value) in
    let e : c.in_err-formed.field-0.0 ≡ IllFormed = cc in
    rw (p.1, p.2, e) (ill_formed c.args.book.now c.args.file.now (book-ill c.args.book.now (sym c.judge.ensures ∙ n)))

pub limits_of-limits-requires : goal.limits_of-limits-requires
limits_of-limits-requires c = let f = formed (goal.at.limits_of-limits-requires c).In_ok-formed in (f.begun, f.ended)

pub returns-in_err-judge_file : goal.returns-in_err-judge_file
returns-in_err-judge_file c =
    let f = formed (goal.at.returns-in_err-judge_file c).In_ok-formed in
    let v = verdict (goal.at.returns-in_err-judge_file c).After-judge_file in
    let p = err_from_is_err_and c.from_residual-in_err-judge_file.result c.from_residual-in_err-judge_file.ensures.1 in
    rw (p.1, p.2) (file-refused c.args.book.now c.args.file.now c.in_ok-formed.formed.terms c.in_ok-formed.formed.next f _ (v ∙ c.in_err-judge_file.was))

pub invariant_of-store : goal.invariant_of-store
invariant_of-store c = record { room = (formed (goal.at.invariant_of-store c).In_ok-formed).room }

pub put_file-requires : goal.put_file-requires
put_file-requires c =
    let f = formed (goal.at.put_file-requires c).In_ok-formed in
    let v = verdict (goal.at.put_file-requires c).After-judge_file in
    file-fits c.in_ok-formed.formed.terms c.in_ok-formed.formed.next f.in_terms.accounts_from f.begun c.args.file.now (v ∙ c.in_ok-judge_file.was)

pub returns : goal.returns
returns c =
    let f = formed (goal.at.returns c).In_ok-formed in
    let v = verdict (goal.at.returns c).After-judge_file in
    let t = file-taken c.args.book.now c.args.file.now c.in_ok-formed.formed.terms c.in_ok-formed.formed.next f (v ∙ c.in_ok-judge_file.was) in
    subst (SubmitPromise c.args.book.now c.args.file.now (Ok tt)) (search rules) t
