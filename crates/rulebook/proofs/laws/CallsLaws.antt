-- What accepted lists satisfy, and what a share call writes. Assumes nothing.
use Rattle.std.specs.Prelude.{◌≡◌, Bool, true, false, cond, ◌&&◌, List, ℕ, ◌*◌, ◌≤◌, ◌<◌, leb, eqb, ℤ, pos, length}
use Rattle.std.proofs.Common.{◌∙◌, arith, leb-true, eqb-true}
use Rattle.std.proofs.Math.ListN.{get_or-append}
use Rattle.integer.specs.Integer.{minus}
use Rattle.integer.proofs.laws.IntegerLaws.{int, parts}
use Rattle.integer.specs.Below.{all, sum_ℕ, tabulate}
use Rattle.integer.proofs.laws.BelowLaws.{and-true, all_at, sum_ℕ-le, length-tabulate, get_d_tabulate}
use Rattle.integer.specs.Words.{word, filled}
use Rattle.rulebook.specs.declared.Kind.{Kind}
use Rattle.rulebook.specs.declared.Kind.TheVariants.{Quantity, Price}
use Rattle.rulebook.specs.declared.Edition.{Edition}
use Rattle.rulebook.specs.declared.Edition.TheVariants.{First, Second}
use Rattle.rulebook.specs.Units.{between, in_range, as_quantity, most_quantity}
use Rattle.rulebook.specs.Calls.{all_in_range, price_input, PricesIn, share_input, SharesIn, share_word, share_call, SharesCalled}
use Rattle.rulebook.proofs.laws.UnitsLaws.{between-true, quantity-range}
use Rattle.rulebook.specs.ReferencePrice.{most_facilities}
use Rattle.rulebook.specs.Shares.{most_accounts, least_residual, most_residual, edition_share}
use Rattle.rulebook.specs.Numbers.{ShareReturned, accepted, outside_range, output_too_short}

-- each word of a list in range is in range
pub in_range-at : (kind : Kind) (xs : List ℤ) → all_in_range kind xs ≡ true → (i : ℕ) → i < length xs → in_range kind (word xs i) ≡ true
unfolding all_in_range
in_range-at kind xs h = all_at (length xs) (λ i. in_range kind (word xs i)) h

-- the sum of the first n words, which are quantities
pub quantities-below : (xs : List ℤ) (n : ℕ) → all n (λ i. in_range Quantity (word xs i)) ≡ true → sum_ℕ n (λ i. as_quantity (word xs i)) ≤ n * most_quantity
quantities-below xs n h = sum_ℕ-le n most_quantity (λ i. as_quantity (word xs i)) (λ i k. (quantity-range (word xs i) (all_at n (λ i. in_range Quantity (word xs i)) h i k)).most)

-- ---- What an accepted call's input satisfies

pub shares-in : (r : ℤ) (uegq : List ℤ) → share_input r uegq ≡ true → SharesIn r uegq
unfolding share_input
shares-in r uegq e =
    let x = and-true (between (minus least_residual) (pos most_residual) r) _ e in
    let y = and-true (leb 1 (length uegq) && leb (length uegq) most_accounts) _ x.1 in
    let z = and-true (leb 1 (length uegq)) _ y.0 in
    let b = between-true (minus least_residual) (pos most_residual) r x.0 in
    record { residual = omega (int, b.0, b.1, parts r); few = leb-true (length uegq) most_accounts z.1; quantities = y.1 }

pub prices-in : (mep ieq : List ℤ) → price_input mep ieq ≡ true → PricesIn mep ieq
unfolding price_input
prices-in mep ieq e =
    let x = and-true (leb 1 (length mep) && leb (length mep) most_facilities) _ e in
    let y = and-true (leb 1 (length mep)) _ x.0 in
    let z = and-true (eqb (length ieq) (length mep)) _ x.1 in
    let w = and-true (all_in_range Price mep) _ z.1 in
    record {
      some = leb-true 1 (length mep) y.0;
      few = leb-true (length mep) most_facilities y.1;
      same = eqb-true (length ieq) (length mep) z.0;
      prices = w.0;
      injections = w.1;
    }

-- ---- What an accepted call of shares writes

pub shares-called : (r : ℤ) (uegq output : List ℤ) → SharesCalled r uegq output
unfolding share_call share_word edition_share
shares-called r uegq output = record {
  first = λ e. written First (share_input r uegq) (leb (length uegq) (length output)) e;
  second = λ e. written Second (share_input r uegq) (leb (length uegq) (length output)) e;
}
  where
    told : Edition → Bool → Bool → ShareReturned
    told e b c = cond b (cond c (record { number = accepted; output = filled (length uegq) (share_word e r uegq) output }) (record { number = output_too_short; output = output })) (record { number = outside_range; output = output })

    written : (e : Edition) (b c : Bool) → (told e b c).number ≡ accepted → (a : ℕ) → a < length uegq → word (told e b c).output a ≡ share_word e r uegq a
    written e true true h a l =
        let n = length-tabulate (length uegq) (share_word e r uegq) in
        get_or-append (tabulate (length uegq) (share_word e r uegq)) _ (pos 0) a (omega (arith, n)) ∙ get_d_tabulate (length uegq) (share_word e r uegq) a (pos 0) l
    written e true false h a l = absurd (omega arith)
    written e false c h a l = absurd (omega arith)
