-- `item_of` meets its contract: each arm is one of the definition's.
use Rattle.std.specs.Prelude.{◌≡◌, get_or}
use Rattle.std.proofs.Common.{sym, ◌∙◌, arith}
use Rattle.console.proofs.laws.InputLaws.{item-end, item-close, item-unknown, item-cut, item-submit, allowed-some, whole-there, whole-short, whole-none}
use Rattle.console.proofs.input.item_of.Goals as goal

pub returns-in-empty : goal.returns-in-empty
returns-in-empty c = sym (item-end c.args.s.now (omega arith))

pub returns-in-67 : goal.returns-in-67
returns-in-67 c = let b : get_or c.args.s.now 0 0 ≡ 67 = omega arith in sym (item-close c.args.s.now (λ e. omega arith) b)

pub returns-in_default : goal.returns-in_default
returns-in_default c = sym (item-unknown c.args.s.now (λ e. omega arith) (λ e. omega arith) (λ e. omega arith))

pub returns-in-Some : goal.returns-in-Some
returns-in-Some c =
    let b : get_or c.args.s.now 0 0 ≡ 83 = omega arith in
    let a = allowed-some c.args.s.now c.in-Some.n (sym c.file_length.ensures ∙ c.in-Some.is) in
    rw a.is (sym (item-submit c.args.s.now (λ e. omega arith) b (whole-there c.args.s.now c.in-Some.n a (omega arith))))

pub returns-in_default-file_length : goal.returns-in_default-file_length
returns-in_default-file_length c =
    let b : get_or c.args.s.now 0 0 ≡ 83 = omega arith in
    let a = allowed-some c.args.s.now c.in-Some.n (sym c.file_length.ensures ∙ c.in-Some.is) in
    sym (item-cut c.args.s.now (λ e. omega arith) b (whole-short c.args.s.now c.in-Some.n a (omega arith)))

pub returns-in_default-file_length-2 : goal.returns-in_default-file_length-2
returns-in_default-file_length-2 c =
    let b : get_or c.args.s.now 0 0 ≡ 83 = omega arith in
    sym (item-cut c.args.s.now (λ e. omega arith) b (whole-none c.args.s.now (sym c.file_length.ensures ∙ c.in_default-file_length.is)))
