-- `put_pairs` meets its contract. The invariant: the bytes from i on hold the last pairs, and `rest` is n without them.
use Rattle.std.proofs.Common.{◌≡◌, sym, ap, ◌∙◌, List, ◌++◌, ℕ, suc, ◌+◌, ◌*◌, ◌-◌, ◌/◌, ◌%◌, ◌^◌, ◌<◌, ◌≤◌, length, get_or, set, take, drop, arith}
use native.Mathlib.Nat.{div-div-eq-div-mul, div-one, pow-succ'}
use mathlib.Core.List.{append-nil}
use lib.Seq.{take-length, drop-length}
use Rattle.integer.specs.Below.{tabulate}
use Rattle.integer.proofs.laws.BelowLaws.{length-tabulate, get_d_tabulate}
use Rattle.integer.proofs.laws.WordsLaws.{filled-back}
use Rattle.packed.specs.Pairs.{pair_of, pair_at}
use Rattle.packed.proofs.pack.put_pairs.Goals as goal

-- before the first turn
none-back : (xs ys : List ℕ) → length xs ≡ length ys → xs ≡ take (length xs) xs ++ drop (length xs) ys
none-back xs ys e = rw (e, drop-length ys, append-nil, ← e) (sym (take-length xs))

-- one pair more, before the byte at i
one-back : (n i : ℕ) (xs bytes : List ℕ) (b : ℕ) → 0 < i → i ≤ length xs → bytes ≡ take i xs ++ drop i (tabulate (length xs) (pair_at n (length xs)))
    → b ≡ pair_of (n / 100 ^ (length xs - i) % 100) → set bytes (i - 1) b ≡ take (i - 1) xs ++ drop (i - 1) (tabulate (length xs) (pair_at n (length xs)))
unfolding pair_at
one-back n i xs bytes b s l f g =
    let count : ℕ = length xs in
    let ys : List ℕ = tabulate count (pair_at n count) in
    let m : ℕ = i - 1 in
    let before : i ≡ suc m = omega arith in
    let there : count - 1 - m ≡ count - i = omega arith in
    let v : b ≡ get_or ys m 0 = g ∙ ap (λ (k : ℕ). pair_of (n / 100 ^ k % 100)) (sym there) ∙ sym (get_d_tabulate count (pair_at n count) m 0 (omega arith)) in
    let e : bytes ≡ take (suc m) xs ++ drop (suc m) ys = f ∙ ap (λ (k : ℕ). take k xs ++ drop k ys) before in
    rw (e, v) (filled-back m xs ys 0 (sym (length-tabulate count (pair_at n count))) (omega arith))

rest-less : (n i j rest : ℕ) → j ≡ i + 1 → rest ≡ n / 100 ^ i → rest / 100 ≡ n / 100 ^ j
rest-less n i j rest next e =
    let p : 100 ^ suc i ≡ 100 ^ i * 100 = omega (arith, pow-succ' 100 i) in
    let q : j ≡ suc i = omega arith in
    rw (e, q, p) (div-div-eq-div-mul n (100 ^ i) 100)

pub loop-i-init : goal.loop-i-init
loop-i-init c =
    let xs = c.args.bytes.now in
    let n = c.args.n in
    let z : length xs - length xs ≡ 0 = omega arith in
    (rw z (sym (div-one n)), none-back xs (tabulate (length xs) (pair_at n (length xs))) (sym (length-tabulate (length xs) (pair_at n (length xs)))))

pub loop-i-preserved : goal.loop-i-preserved
loop-i-preserved c =
    let l = c.loop-i in
    let xs = c.args.bytes.now in
    let n = c.args.n in
    (rest-less n (length xs - l.i) (length xs - (l.i - 1)) l.rest (omega arith) l.invariant.0, one-back n l.i xs l.bytes c.pair.result (omega arith) (omega arith) l.invariant.1 (c.pair.ensures ∙ ap (λ (r : ℕ). pair_of (r % 100)) l.invariant.0))
