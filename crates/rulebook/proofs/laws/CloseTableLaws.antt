-- The close's checks in turn give its table. Assumes nothing.
use Rattle.std.proofs.Math.Path.{◌≡◌, refl, ap}
use Rattle.std.specs.Prelude.{Bool, List, ℕ, ◌+◌, ◌<◌, ℤ, Option, Some, None}
use Rattle.std.proofs.Math.Bool.{true, false}
use native.Mathlib.Omega.{arith}
use borrow.Author.Tests.{lt-ltb, le-ltb, ltb-true}
use Rattle.std.proofs.Math.Dec.{ltb}
use Rattle.std.proofs.Math.ListN.{length}
use Rattle.rulebook.specs.Units.{last_day}
use Rattle.rulebook.specs.BookData.{terms_of, next_day}
use Rattle.rulebook.specs.WellFormed.{well_formed}
use Rattle.rulebook.specs.Close.{closed_by, closed, settled, first_missing}
use Rattle.rulebook.specs.Numbers.{Answer, numbered, of_close}
use Rattle.rulebook.proofs.laws.TestLaws.{T-path}
use Rattle.rulebook.proofs.laws.FormedLaws.{next_of}
use Rattle.rulebook.specs.CloseTable.{CloseTable}

module _ (w statement : List ℤ) where
  -- the answer by what the three tests say and what the search found
  abbrev told : Bool → Bool → Bool → Option ℕ → Answer
  told a b c x = of_close (closed_by (terms_of w) w (next_day w) statement a b c x).answer

  ill_formed : (a b c : Bool) (x : Option ℕ) → told a b c x ≡ numbered 3 0 → a ≡ false
  unfolding settled
  ill_formed false b c x e = refl
  ill_formed true true c x e = absurd (let z : ◌≡◌ {A = ℕ} 9 3 = ap (λ (y : Answer). y.number) e in omega arith)
  ill_formed true false true x e = absurd (let z : ◌≡◌ {A = ℕ} 10 3 = ap (λ (y : Answer). y.number) e in omega arith)
  ill_formed true false false (Some n) e = absurd (let z : ◌≡◌ {A = ℕ} 11 3 = ap (λ (y : Answer). y.number) e in omega arith)
  ill_formed true false false None e = absurd (let z : ◌≡◌ {A = ℕ} 0 3 = ap (λ (y : Answer). y.number) e in omega arith)

  finished : (b c : Bool) (x : Option ℕ) → told true b c x ≡ numbered 9 0 → b ≡ true
  unfolding settled
  finished true c x e = refl
  finished false true x e = absurd (let z : ◌≡◌ {A = ℕ} 10 9 = ap (λ (y : Answer). y.number) e in omega arith)
  finished false false (Some n) e = absurd (let z : ◌≡◌ {A = ℕ} 11 9 = ap (λ (y : Answer). y.number) e in omega arith)
  finished false false None e = absurd (let z : ◌≡◌ {A = ℕ} 0 9 = ap (λ (y : Answer). y.number) e in omega arith)

  no_room : (c : Bool) (x : Option ℕ) → told true false c x ≡ numbered 10 0 → c ≡ true
  unfolding settled
  no_room true x e = refl
  no_room false (Some n) e = absurd (let z : ◌≡◌ {A = ℕ} 11 10 = ap (λ (y : Answer). y.number) e in omega arith)
  no_room false None e = absurd (let z : ◌≡◌ {A = ℕ} 0 10 = ap (λ (y : Answer). y.number) e in omega arith)

  pub close-table : CloseTable w statement
  unfolding closed
  close-table =
      let b = ltb last_day (next_day w) in
      let c = ltb (length statement) ((terms_of w).accounts + 1) in
      let x = first_missing (terms_of w) w (next_day w) in
      record {
        ill_formed = (ill_formed (well_formed w) b c x, λ e. rw e refl);
        finished = λ t. rw (T-path (well_formed w) t) (
          λ e. let h : last_day < next_day w = ltb-true last_day (next_day w) (finished b c x e) in omega (arith, (next_of w t).2),
          λ e. rw (lt-ltb last_day (next_day w) (omega arith)) refl,
        );
        no_room = λ t left. rw (T-path (well_formed w) t, le-ltb last_day (next_day w) left) (
          λ e. let h : length statement < (terms_of w).accounts + 1 = ltb-true (length statement) ((terms_of w).accounts + 1) (no_room c x e) in omega arith,
          λ e. rw (lt-ltb (length statement) ((terms_of w).accounts + 1) (omega arith)) refl,
        );
      }
