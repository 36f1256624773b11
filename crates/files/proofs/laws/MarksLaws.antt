-- Laws of the marks: room for the open days is room for them, and they say what the rule book calls given. Assumes nothing.
use Rattle.std.specs.Prelude.{◌≡◌, refl, ◌&&◌, ◌||◌, List, length, get_or, set, replicate, ◌∷◌, Ok}
use Rattle.std.proofs.Math.Path.{sym, ap}
use Rattle.std.proofs.Common.{◌∙◌, ⊎_elim, arith, get_or-set_other}
use Rattle.std.proofs.Math.Bool.{false, or-true, or-false, false≢true}
use Prim.Native.Nat.{ℕ, zero, suc, ◌+◌, ◌≤◌, ◌<◌}
use Rattle.std.proofs.Math.Numerals.{add-one}
use borrow.Author.Tests.{eqb-true, eq-eqb}
use Rattle.std.proofs.Math.Dec.{eqb}
use Rattle.std.proofs.Math.Seq.{get_or-set_same}
use Rattle.integer.specs.Below.{fold, tabulate}
use Rattle.integer.proofs.laws.BelowLaws.{either, and-true, length-tabulate}
use Rattle.rulebook.specs.declared.Section.{Section}
use Rattle.rulebook.specs.declared.Limits.{Limits}
use Rattle.rulebook.specs.Shares.{most_accounts}
use Rattle.rulebook.specs.File.{account_at, day_at, row_pos}
use Rattle.rulebook.specs.Judging.{open_from, given, key}
use Rattle.rulebook.proofs.laws.JudgingLaws.{keyed}
use Rattle.files.specs.Judgeable.{Judgeable}
use Rattle.files.specs.Marks.{mark_place, mark_of, unmarked, Marked}

-- ---- Places

-- a larger table serves too
pub judgeable_more : {l : Limits} {n m : ℕ} → n ≤ m → Judgeable l n → Judgeable l m
judgeable_more h b = record { some = b.some; few = b.few; room = λ sec. omega (arith, b.room sec) }

-- every account and open day has its mark
mark-fits : (l : Limits) (sec : Section) (n a d : ℕ) → Judgeable l n → a < most_accounts → open_from l sec ≤ d → d ≤ l.last → mark_place (open_from l sec) a d < n
mark-fits l sec n a d b p q r = omega (arith, b.room sec)

-- so has a row whose account and day are accepted
pub row-mark_fits : (l : Limits) (sec : Section) (s : List ℕ) (at n : ℕ) → Judgeable l n → key l sec s at ≡ Ok tt → mark_of l sec s at < n
row-mark_fits l sec s at n b e =
    let k = keyed l sec s at e in
    mark-fits l sec n (account_at sec s at) (day_at sec s at) b (omega (arith, b.some, b.few, k.account.to)) k.day.from k.day.to

-- and no two have the same
mark-same : (low a d b e : ℕ) → a < most_accounts → b < most_accounts → low ≤ d → low ≤ e → mark_place low a d ≡ mark_place low b e → (a ≡ b) × (d ≡ e)
mark-same low a d b e p q h k t = (omega arith, omega arith)

-- ---- The marks of a section

zeros : (n k : ℕ) → ◌≡◌ {A = ℕ} (get_or (tabulate n (λ _. 0)) k 0) 0
unfolding tabulate
zeros zero k = refl
zeros (suc n) zero = refl
zeros (suc n) (suc k) = zeros n k

pub length-unmarked : (n : ℕ) → length (unmarked n) ≡ n
unfolding unmarked
length-unmarked n = length-tabulate n (λ _. 0)

-- what a slice filled with 0 holds
pub unmarked-filled : (n : ℕ) → replicate n 0 ≡ unmarked n
unfolding unmarked tabulate
unmarked-filled zero = refl
unmarked-filled (suc n) = ap (λ (m : List ℕ). 0 ∷ m) (unmarked-filled n)

module _ (l : Limits) (sec : Section) (s : List ℕ) (first : ℕ) where
  pub marked-none : (n : ℕ) → Marked l sec s first 0 (unmarked n)
  unfolding Marked given fold unmarked
  marked-none n a d p q r = rw (zeros n (mark_place (open_from l sec) a d))

  -- one row more, its account and day accepted
  pub marked_more : (i : ℕ) (marks : List ℕ) → Judgeable l (length marks) → key l sec s (row_pos sec s first i) ≡ Ok tt → Marked l sec s first i marks
      → Marked l sec s first (i + 1) (set marks (mark_of l sec s (row_pos sec s first i)) 1)
  unfolding Marked given fold
  marked_more i marks b e m a d p q r =
      let k = keyed l sec s (row_pos sec s first i) e in
      let a' : ℕ = account_at sec s (row_pos sec s first i) in
      let d' : ℕ = day_at sec s (row_pos sec s first i) in
      let fits = row-mark_fits l sec s (row_pos sec s first i) (length marks) b e in
      rw add-one
      (⊎_elim
      (λ t.
      let u = and-true (eqb a' a) (eqb d' d) t in
      let x = eqb-true a' a u.0 in
      let y = eqb-true d' d u.1 in
      rw (t, ← x, ← y, get_or-set_same marks (mark_place (open_from l sec) a' d') 1 0 (omega arith)) (sym (or-true (given sec s first i a' d'))))
      (λ t.
      ap (λ v. eqb v 1)
      (get_or-set_other marks (mark_place (open_from l sec) a' d') (mark_place (open_from l sec) a d) 1 0
      (λ w. differ a d t (mark-same (open_from l sec) a d a' d' p (omega (arith, b.some, b.few, k.account.to)) q k.day.from w)))
      ∙ m a d p q r
      ∙ sym (or-false (given sec s first i a d))
      ∙ ap (λ x. given sec s first i a d || x) (sym t))
      (either (eqb a' a && eqb d' d)))
    where
      differ : (a d : ℕ) → eqb (account_at sec s (row_pos sec s first i)) a && eqb (day_at sec s (row_pos sec s first i)) d ≡ false
          → (a ≡ account_at sec s (row_pos sec s first i)) × (d ≡ day_at sec s (row_pos sec s first i)) → ⊥
      differ a d t e = false≢true (sym (simp (eq-eqb _ _ (sym e.0), eq-eqb _ _ (sym e.1)) at t))
