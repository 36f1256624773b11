-- `wanted` meets its contract: each arm is one of the definition's.
use Rattle.std.specs.Prelude.{◌≡◌, get_or, ℕ, ◌+◌}
use Rattle.std.proofs.Common.{sym, ap, ◌∙◌, arith}
use Rattle.console.proofs.laws.InputLaws.{wanted-none, wanted-command, wanted-file, wanted-none_allowed, allowed-some}
use Rattle.console.proofs.input.wanted.Goals as goal

pub returns-in-Some : goal.returns-in-Some
returns-in-Some c =
    let b : get_or c.args.s.now 0 0 ≡ 83 = omega arith in
    let a = allowed-some c.args.s.now c.in-Some.n (sym c.file_length.ensures ∙ c.in-Some.is) in
    (ap (λ (n : ℕ). 3 + n) a.is ∙ sym (wanted-file c.args.s.now b a.there a.few), omega (arith, a.is, a.few))

pub returns-in-None : goal.returns-in-None
returns-in-None c =
    let b : get_or c.args.s.now 0 0 ≡ 83 = omega arith in
    (sym (wanted-none_allowed c.args.s.now b (sym c.file_length.ensures ∙ c.in-None.is)), omega arith)

pub returns-in_default : goal.returns-in_default
returns-in_default c = (sym (wanted-none c.args.s.now (omega arith)), omega arith)

pub returns-in_default-2 : goal.returns-in_default-2
returns-in_default-2 c = (sym (wanted-command c.args.s.now (λ e. omega arith)), omega arith)
