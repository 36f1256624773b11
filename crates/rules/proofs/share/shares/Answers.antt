-- `shares` meets its contract: in each case the answer and the words are `share_call`'s. `given` is what the accounts so far get together, and each turn
-- fills one word more.
use Rattle.std.specs.Int.{w64}
use Rattle.std.proofs.Common.{◌≡◌, ℕ, ℤ, List, ◌+◌, ◌-◌, ◌≤◌, ◌<◌, true, length, length-set, pos, refl, sym, ap, ◌∙◌, arith, rules, le-leb, to_z, of_z}
use Rattle.std.proofs.lemmas.Bool.{lt-leb}
use Rattle.std.proofs.lemmas.Result.{err_from_is_err_and}
use Rattle.integer.specs.Below.{fold, sum_ℕ}
use Rattle.integer.proofs.laws.BelowLaws.{fold_step}
use Rattle.integer.proofs.Bits.{got}
use Rattle.integer.specs.Words.{word}
use Rattle.integer.proofs.laws.WordsLaws.{filled_zero, filled-step}
use Rattle.rulebook.specs.declared.Kind.TheVariants.{Quantity}
use Rattle.rulebook.specs.declared.Edition.TheVariants.{First, Second}
use Rattle.rulebook.specs.Units.{most_quantity}
use Rattle.rulebook.specs.Shares.{most_accounts, share_of, share, second_share, edition_share, share_by}
use Rattle.rulebook.proofs.laws.SharesLaws.{share-cap}
use Rattle.rulebook.proofs.laws.SecondShareLaws.{share-rises, second_is, share-by_cap}
use Rattle.rulebook.specs.Calls.{quantities_in, spare_in, share_word, share_input, share_call}
use Rattle.rulebook.proofs.laws.CallsLaws.{in_range-at, shares-in}
use Rattle.rules.specs.LoadAndSpare.{LoadAndSpare}
use Rattle.rules.proofs.laws.ToldLaws.{told_ok, told_err}
use Rattle.rules.proofs.share.shares.Goals as goal
use Rattle.rules.proofs.share.shares.Goals.{In_ok-residual, After-as_quantity-u, After-row_known-1, in-First, in-Second}

pub returns-in_err-residual : goal.returns-in_err-residual
unfolding share_call
returns-in_err-residual c =
    let p = err_from_is_err_and c.from_residual.result c.from_residual.ensures.1 in
    let x : to_z w64 (of_z w64 c.args.r) ≡ c.args.r = search rules in
    let t = told_err _ _ _ c.in_err-residual.ensures in
    rw (p.1, p.2, t.1, rw x at t.0)

-- what is accepted is in range, and R and S are told
told : (c : In_ok-residual) → (share_input c.args.r c.args.uegq.now ≡ true) × (c.in_ok-residual.residual ≡ record { load = c.args.r; spare = spare_in c.args.uegq.now })
told c =
    let x : to_z w64 (of_z w64 c.args.r) ≡ c.args.r = search rules in
    let t = told_ok _ _ _ c.in_ok-residual.ensures in
    (rw x at t.0, rw x at t.1)

pub returns-then-output-uegq : goal.returns-then-output-uegq
unfolding share_call
returns-then-output-uegq c =
    let a = c.args in
    let t = told (goal.at.returns-then-output-uegq c).In_ok-residual in
    rw (t.0, lt-leb (length a.uegq.now) (length a.output.now) (omega arith))

-- nothing is given before the first account
pub loop-a-init : goal.loop-a-init
unfolding fold
loop-a-init c =
    let r = c.in_ok-residual.residual in
    (refl, refl, omega arith, omega arith, λ e. omega (arith, share-cap r.load r.spare 0), sym (filled_zero _ _))

pub as_quantity-u-requires : goal.as_quantity-u-requires
as_quantity-u-requires c =
    let xs = c.args.uegq.now in
    let w = word xs c.loop-a.a in
    let x : to_z w64 (of_z w64 w) ≡ w = search rules in
    let t = told (goal.at.as_quantity-u-requires c).In_ok-residual in
    rw x (in_range-at Quantity xs (shares-in c.args.r xs t.0).quantities c.loop-a.a c.loop-a-test.true)

-- the turn's UEGQ
record Uegq (c : After-as_quantity-u) : Type 0 where
  is : c.as_quantity-u.result ≡ quantities_in c.args.uegq.now c.loop-a.a
  small : c.as_quantity-u.result ≤ most_quantity
  few : length c.args.uegq.now ≤ most_accounts

uegq : (c : After-as_quantity-u) → share_input c.args.r c.args.uegq.now ≡ true → Uegq c
uegq c t =
    let w = word c.args.uegq.now c.loop-a.a in
    let x : to_z w64 (of_z w64 w) ≡ w = search rules in
    record { is = rw x at c.as_quantity-u.ensures.0; small = c.as_quantity-u.ensures.1; few = (shares-in c.args.r c.args.uegq.now t).few }

pub overflow_add-sum : goal.overflow_add-sum
overflow_add-sum c =
    let g = goal.at.overflow_add-sum c in
    let u = uegq g.After-as_quantity-u (told g.In_ok-residual).0 in
    omega (arith, u.small, u.few, c.loop-a.invariant.2, c.loop-a-test.true)

pub share-requires : goal.share-requires
share-requires c =
    let g = goal.at.share-requires c in
    let u = uegq g.After-as_quantity-u (told g.In_ok-residual).0 in
    omega (arith, u.small, u.few, c.loop-a.invariant.2, c.loop-a-test.true)

pub overflow_sub-share : goal.overflow_sub-share
overflow_sub-share c =
    let l = c.loop-a in
    let r = c.in_ok-residual.residual in
    omega (arith, c.share.ensures, l.invariant.4 c.in-Second.is, share-rises r.load r.spare l.sum c.as_quantity-u.result)

-- the word of a share by the first edition
first-word : (xs : List ℤ) (a : ℕ) (r : LoadAndSpare) (q : ℤ) (u share : ℕ) → r ≡ record { load = q; spare = spare_in xs } → u ≡ quantities_in xs a → share ≡ share_of r.load r.spare u
    → pos share ≡ share_word First q xs a
unfolding share_word edition_share share
first-word xs a r q u share e f g = rw (g, e, f)

-- and by the second: what is shared up to account a, less what was given before it
second-word : (xs : List ℤ) (a : ℕ) (r : LoadAndSpare) (q : ℤ) (u sum given share : ℕ) → r ≡ record { load = q; spare = spare_in xs } → u ≡ quantities_in xs a → sum ≡ sum_ℕ a (quantities_in xs)
    → given ≡ share_of r.load r.spare sum → share ≡ share_of r.load r.spare (sum + u) - given → pos share ≡ share_word Second q xs a
unfolding share_word edition_share second_share
second-word xs a r q u sum given share e f g h i = ap pos (rw (i, h, e, f, g) (sym (second_is q (spare_in xs) (sum_ℕ a (quantities_in xs)) (quantities_in xs a))))

-- which is no more than its UEGQ
second_le : (r : ℤ) (s before u : ℕ) → share_of r s (before + u) - share_of r s before ≤ u
unfolding share_by
second_le r s before u = rw (← second_is r s before u) (share-by_cap Second r s before u)

-- the turn's share
record Turn (c : After-row_known-1) : Type 0 where
  cap : c.match-edition.share ≤ c.as_quantity-u.result
  given : c.args.edition ≡ Second → c.loop-a.given + c.match-edition.share ≡ share_of c.in_ok-residual.residual.load c.in_ok-residual.residual.spare (c.loop-a.sum + c.as_quantity-u.result)
  word : pos c.match-edition.share ≡ share_word c.args.edition c.args.r c.args.uegq.now c.loop-a.a

turn : (c : After-row_known-1) → c.as_quantity-u.result ≡ quantities_in c.args.uegq.now c.loop-a.a
    → c.in_ok-residual.residual ≡ record { load = c.args.r; spare = spare_in c.args.uegq.now } → Turn c
turn c u t =
    let a = c.args in
    let l = c.loop-a in
    let r = c.in_ok-residual.residual in
    elim c.match-edition.branch [
      | in-First w ↦ record {
        cap = omega (arith, w.share-is, w.share-share.ensures, share-cap r.load r.spare c.as_quantity-u.result);
        given = λ e. cc;
        word = rw w.in-First.is (first-word a.uegq.now l.a r a.r c.as_quantity-u.result c.match-edition.share t u (w.share-is ∙ w.share-share.ensures));
      }
      | in-Second w ↦
          let g = l.invariant.4 w.in-Second.is in
          let m = share-rises r.load r.spare l.sum c.as_quantity-u.result in
          let p : c.match-edition.share ≡ share_of r.load r.spare (l.sum + c.as_quantity-u.result) - l.given = w.share-is ∙ ap (λ (x : ℕ). x - l.given) w.share.ensures in
          record {
            cap = omega (arith, p, g, second_le r.load r.spare l.sum c.as_quantity-u.result);
            given = λ e. omega (arith, p, g, m);
            word = rw w.in-Second.is (second-word a.uegq.now l.a r a.r c.as_quantity-u.result l.sum l.given c.match-edition.share t u l.invariant.1 g p);
          }
    ]

pub overflow_add-given : goal.overflow_add-given
overflow_add-given c =
    let g = goal.at.overflow_add-given c in
    let t = told g.In_ok-residual in
    let u = uegq g.After-as_quantity-u t.0 in
    omega (arith, (turn g.After-row_known-1 u.is t.1).cap, u.small, u.few, c.loop-a.invariant.2, c.loop-a.invariant.3, c.loop-a-test.true)

pub signed-requires : goal.signed-requires
signed-requires c =
    let g = goal.at.signed-requires c in
    let t = told g.In_ok-residual in
    let u = uegq g.After-as_quantity-u t.0 in
    omega (arith, (turn g.After-row_known-1 u.is t.1).cap, u.small)

pub loop-a-preserved : goal.loop-a-preserved
loop-a-preserved c =
    let a = c.args in
    let l = c.loop-a in
    let g = goal.at.loop-a-preserved c in
    let t = told g.In_ok-residual in
    let u = uegq g.After-as_quantity-u t.0 in
    let k = turn g.After-row_known-1 u.is t.1 in
    let x : to_z w64 (of_z w64 a.r) ≡ a.r = search rules in
    let z : l.a < length a.output.now = omega arith in
    let v = c.signed in (
      simp length-set l.invariant.0,
      fold_step ◌+◌ 0 l.a (quantities_in a.uegq.now) l.invariant.1 u.is,
      omega (arith, u.small, l.invariant.2),
      omega (arith, k.cap, l.invariant.3),
      k.given,
      filled-step l.a (share_word a.edition (to_z w64 (of_z w64 a.r)) a.uegq.now) a.output.now z l.invariant.5 (got v.result v.type_inv ∙ v.ensures ∙ k.word ∙ ap (λ (r : ℤ). share_word a.edition r a.uegq.now l.a) (sym x)),
    )

pub returns : goal.returns
unfolding share_call
returns c =
    let a = c.args in
    let l = c.loop-a in
    let x : to_z w64 (of_z w64 a.r) ≡ a.r = search rules in
    let e : l.a ≡ length a.uegq.now = omega arith in
    rw ((told (goal.at.returns c).In_ok-residual).0, le-leb (length a.uegq.now) (length a.output.now) (omega arith), l.invariant.5, e, x)
