-- `wrong_byte` meets its contract: the first byte that does not hold two digits, or else the last.
use Rattle.std.proofs.Common.{◌≡◌, true, false, take, rules}
use Rattle.std.proofs.lemmas.Iterator.{IsFirst-from_position, YieldsList-from_slice}
use borrow.Author.Tests.{tests}
use Rattle.packed.specs.Pairs.{is_pair}
use Rattle.packed.proofs.laws.PairLaws.{wrong_byte-found}
use Rattle.packed.proofs.unpack.wrong_byte.Goals as goal

pub returns : goal.returns
returns c =
    let s = c.args.field.now in
    let m = IsFirst-from_position _ _ _ (λ b. is_pair b ≡ false) (λ b. is_pair b ≡ true) c.position.ensures.ran (YieldsList-from_slice (take 7 s) cc) (λ x q k. search (rules, tests)) (λ x q k. search (rules, tests)) in
    rw c.unwrap_or.ensures (wrong_byte-found s c.position.result c.told-field m)
