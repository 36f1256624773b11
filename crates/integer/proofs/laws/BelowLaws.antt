-- Laws of sums, tests, searches and tables over the numbers below n; each has one for one more turn of its loop. Assumes nothing.
use Rattle.std.specs.Prelude.{◌≡◌, refl, Bool, true, false, ◌&&◌, ◌⊎◌, ℕ, zero, suc, ◌+◌, ◌*◌, ◌-◌, ◌≤◌, ◌<◌, ltb, ℤ, pos, nat_abs, ◌+ℤ◌, ◌-ℤ◌, ◌*ℤ◌, ◌≤ℤ◌, length, get_or, Option, Some, None}
use Rattle.std.proofs.Common.{sym, ap, ◌∙◌, inl, inr, ⊎_elim, not-suc-le-zero, le_of_suc-le-suc, suc-mul, zero-mul, add-one, arith, ltb-true, ltb-false, ext_get_or}
use Rattle.std.proofs.Math.Bool.{and-false}
use mathlib.Core.List.{List, [], ◌∷◌, ◌++◌, flat_map}
use Rattle.integer.specs.Below.{fold, sum_ℕ, sum_ℤ, all, or_else, first, turns, tabulate, Each}
use Rattle.integer.proofs.laws.IntegerLaws.{abs-add, parts-le, le_parts, add_parts}
use Rattle.integer.proofs.Ring.{as_diff, diffs, ring}

-- ---- Cases

pub either : (t : Bool) → (t ≡ true) ⊎ (t ≡ false)
either true = inl refl
either false = inr refl

pub lt_or_le : (a b : ℕ) → (a < b) ⊎ (b ≤ a)
lt_or_le a b = ⊎_elim (λ e. inl (ltb-true a b e)) (λ e. inr (ltb-false a b e)) (either (ltb a b))

-- ---- fold

pub fold-zero {ℓ} : {A : Type ℓ} (op : A → A → A) (e : A) (f : ℕ → A) → fold op e 0 f ≡ e
unfolding fold
fold-zero op e f = refl

pub fold-suc {ℓ} : {A : Type ℓ} (op : A → A → A) (e : A) (n : ℕ) (f : ℕ → A) → fold op e (n + 1) f ≡ op (fold op e n f) (f n)
unfolding fold
fold-suc op e n f = rw add-one

-- one more turn of a loop that joins
pub fold_step {ℓ} : {A : Type ℓ} (op : A → A → A) (e : A) (n : ℕ) (f : ℕ → A) {a b : A} → a ≡ fold op e n f → b ≡ f n → op a b ≡ fold op e (n + 1) f
fold_step op e n f x y = rw (x, y, fold-suc op e n f)

pub fold-cong {ℓ} : {A : Type ℓ} (op : A → A → A) (e : A) (n : ℕ) (f g : ℕ → A) → ((i : ℕ) → i < n → f i ≡ g i) → fold op e n f ≡ fold op e n g
unfolding fold
fold-cong op e zero f g h = refl
fold-cong op e (suc n) f g h =
    let x = fold-cong op e n f g (λ i l. h i (omega arith)) in
    let y = h n (omega arith) in
    cc

-- where the unit joined to itself is the unit, units join to it
pub fold-unit {ℓ} : {A : Type ℓ} (op : A → A → A) (e : A) → op e e ≡ e → (n : ℕ) (f : ℕ → A) → ((i : ℕ) → i < n → f i ≡ e) → fold op e n f ≡ e
unfolding fold
fold-unit op e u zero f h = refl
fold-unit op e u (suc n) f h = rw (fold-unit op e u n f (λ i l. h i (omega arith)), h n (omega arith)) u

-- where nothing but units joins to the unit, each of what joined to it is one
pub fold-each {ℓ} : {A : Type ℓ} (op : A → A → A) (e : A) → ((x y : A) → op x y ≡ e → (x ≡ e) × (y ≡ e))
    → (n : ℕ) (f : ℕ → A) → fold op e n f ≡ e → (i : ℕ) → i < n → f i ≡ e
unfolding fold
fold-each op e both zero f t i l = absurd (not-suc-le-zero l)
fold-each op e both (suc n) f t i l =
    let s = both (fold op e n f) (f n) t in
    ⊎_elim (λ h. fold-each op e both n f s.0 i h) (λ h. let q : i ≡ n = omega arith in rw q s.1) (lt_or_le i n)

-- the turn at which a loop is left: nothing that is joined to its result changes it
pub fold-stop {ℓ} : {A : Type ℓ} (op : A → A → A) (e x : A) → ((y : A) → op x y ≡ x)
    → (n : ℕ) (f : ℕ → A) (i : ℕ) → i < n → op (fold op e i f) (f i) ≡ x → fold op e n f ≡ x
unfolding fold
fold-stop op e x stays zero f i l t = absurd (not-suc-le-zero l)
fold-stop op e x stays (suc n) f i l t =
    ⊎_elim (λ h. rw (fold-stop op e x stays n f i h t) (stays (f n))) (λ h. let q : i ≡ n = omega arith in rw (← q) t) (lt_or_le i n)

-- the first turn taken apart, where joining is associative and e its unit
pub fold-front {ℓ} : {A : Type ℓ} (op : A → A → A) (e : A) → ((x : A) → op e x ≡ x) → ((x : A) → op x e ≡ x) → ((x y z : A) → op (op x y) z ≡ op x (op y z))
    → (n : ℕ) (f : ℕ → A) → fold op e (suc n) f ≡ op (f 0) (fold op e n (λ k. f (suc k)))
unfolding fold
fold-front op e left right assoc zero f = left (f 0) ∙ sym (right (f 0))
fold-front op e left right assoc (suc n) f =
    ap (λ x. op x (f (suc n))) (fold-front op e left right assoc n f) ∙ assoc (f 0) (fold op e n (λ k. f (suc k))) (f (suc n))

-- two turns at a time, where joining is associative
pub fold-by_two {ℓ} : {A : Type ℓ} (op : A → A → A) (e : A) → ((x y z : A) → op (op x y) z ≡ op x (op y z))
    → (n : ℕ) (f : ℕ → A) → fold op e (2 * n) f ≡ fold op e n (λ b. op (f (2 * b)) (f (2 * b + 1)))
unfolding fold
fold-by_two op e assoc zero f = refl
fold-by_two op e assoc (suc n) f =
    let twice : 2 * suc n ≡ suc (suc (2 * n)) = omega arith in
    let next : suc (2 * n) ≡ 2 * n + 1 = omega arith in
    rw (twice, next, fold-by_two op e assoc n f) (assoc (fold op e n (λ b. op (f (2 * b)) (f (2 * b + 1)))) (f (2 * n)) (f (2 * n + 1)))

-- two joined turn by turn, where the order of joining does not matter
pub fold-zip {ℓ} : {A : Type ℓ} (op : A → A → A) (e : A) → op e e ≡ e → ((a b c d : A) → op (op a b) (op c d) ≡ op (op a c) (op b d))
    → (n : ℕ) (f g : ℕ → A) → op (fold op e n f) (fold op e n g) ≡ fold op e n (λ i. op (f i) (g i))
unfolding fold
fold-zip op e u mid zero f g = u
fold-zip op e u mid (suc n) f g =
    let x = fold-zip op e u mid n f g in
    mid (fold op e n f) (f n) (fold op e n g) (g n) ∙ ap (λ z. op z (op (f n) (g n))) x

-- a test that passes of what is joined exactly if it passes of both
pub fold-test {ℓ} : {A : Type ℓ} (op : A → A → A) (e : A) (test : A → Bool) → test e ≡ true → ((x y : A) → test (op x y) ≡ (test x && test y))
    → (n : ℕ) (f : ℕ → A) → test (fold op e n f) ≡ all n (λ i. test (f i))
unfolding fold
fold-test op e test unit both zero f = unit
fold-test op e test unit both (suc n) f = both (fold op e n f) (f n) ∙ ap (λ (t : Bool). t && test (f n)) (fold-test op e test unit both n f)

-- ---- sumℕ, sumℤ

pub sum_ℕ-cong : (n : ℕ) (f g : ℕ → ℕ) → ((i : ℕ) → i < n → f i ≡ g i) → sum_ℕ n f ≡ sum_ℕ n g
sum_ℕ-cong = fold-cong ◌+◌ 0

pub sum_ℤ-cong : (n : ℕ) (f g : ℕ → ℤ) → ((i : ℕ) → i < n → f i ≡ g i) → sum_ℤ n f ≡ sum_ℤ n g
sum_ℤ-cong = fold-cong ◌+ℤ◌ (pos 0)

pub sum_ℕ-le : (n m : ℕ) (f : ℕ → ℕ) → ((i : ℕ) → i < n → f i ≤ m) → sum_ℕ n f ≤ n * m
unfolding fold
sum_ℕ-le zero m f h = omega arith
sum_ℕ-le (suc n) m f h = omega (arith, sum_ℕ-le n m f (λ i l. h i (omega arith)), h n (omega arith), suc-mul n m)

pub sum_ℕ-ge : (n m : ℕ) (f : ℕ → ℕ) → ((i : ℕ) → i < n → m ≤ f i) → n * m ≤ sum_ℕ n f
unfolding fold
sum_ℕ-ge zero m f h = omega (arith, zero-mul m)
sum_ℕ-ge (suc n) m f h = omega (arith, sum_ℕ-ge n m f (λ i l. h i (omega arith)), h n (omega arith), suc-mul n m)

-- what rises from turn to turn rises in all by the sum of its differences
pub sum_ℕ-rises : (n : ℕ) (f : ℕ → ℕ) → ((i : ℕ) → i < n → f i ≤ f (i + 1)) → f 0 + sum_ℕ n (λ i. f (i + 1) - f i) ≡ f n
unfolding fold
sum_ℕ-rises zero f h = omega arith
sum_ℕ-rises (suc n) f h =
    let e : f (n + 1) ≡ f (suc n) = ap f (omega arith) in
    omega (arith, sum_ℕ-rises n f (λ i l. h i (omega arith)), h n (omega arith), e)

-- one summand is at most the sum
pub sum_ℕ-member : (n : ℕ) (f : ℕ → ℕ) (i : ℕ) → i < n → f i ≤ sum_ℕ n f
unfolding fold
sum_ℕ-member zero f i l = absurd (not-suc-le-zero l)
sum_ℕ-member (suc n) f i l =
    ⊎_elim (λ h. omega (arith, sum_ℕ-member n f i h)) (λ h. let e : f i ≡ f n = ap f (omega arith) in omega arith) (lt_or_le i n)

pub abs-sum_ℤ : (n m : ℕ) (f : ℕ → ℤ) → ((i : ℕ) → i < n → nat_abs (f i) ≤ m) → nat_abs (sum_ℤ n f) ≤ n * m
unfolding fold
abs-sum_ℤ zero m f h = omega arith
abs-sum_ℤ (suc n) m f h = omega (arith, abs-add (sum_ℤ n f) (f n), abs-sum_ℤ n m f (λ i l. h i (omega arith)), h n (omega arith), suc-mul n m)

pub sum_ℕ-add : (n : ℕ) (f g : ℕ → ℕ) → sum_ℕ n f + sum_ℕ n g ≡ sum_ℕ n (λ i. f i + g i)
sum_ℕ-add = fold-zip ◌+◌ 0 refl (λ a b c d. omega arith)

pub sum_ℤ-add : (n : ℕ) (f g : ℕ → ℤ) → sum_ℤ n f +ℤ sum_ℤ n g ≡ sum_ℤ n (λ i. f i +ℤ g i)
sum_ℤ-add = fold-zip ◌+ℤ◌ (pos 0) refl (λ a b c d. rw (as_diff a, as_diff b, as_diff c, as_diff d) (simp diffs (omega ring)))

-- sums of sums, by columns and by rows
pub sum_ℕ-swap : (m n : ℕ) (f : ℕ → ℕ → ℕ) → sum_ℕ m (λ t. sum_ℕ n (λ b. f b t)) ≡ sum_ℕ n (λ b. sum_ℕ m (f b))
unfolding fold
sum_ℕ-swap zero n f = sym (fold-unit ◌+◌ 0 refl n (λ b. 0) (λ b l. refl))
sum_ℕ-swap (suc m) n f =
    ap (λ (z : ℕ). z + sum_ℕ n (λ b. f b m)) (sum_ℕ-swap m n f) ∙ sum_ℕ-add n (λ b. sum_ℕ m (f b)) (λ b. f b m)

pub sum_ℤ-mono : (n : ℕ) (f g : ℕ → ℤ) → ((i : ℕ) → i < n → f i ≤ℤ g i) → sum_ℤ n f ≤ℤ sum_ℤ n g
unfolding fold
sum_ℤ-mono zero f g h = parts-le (omega arith)
sum_ℤ-mono (suc n) f g h =
    let x = le_parts (sum_ℤ-mono n f g (λ i l. h i (omega arith))) in
    let y = le_parts (h n (omega arith)) in
    parts-le (omega (arith, add_parts (sum_ℤ n f) (f n), add_parts (sum_ℤ n g) (g n)))

-- a sum of c times f less g
pub sum_ℤ-linear : (n : ℕ) (c : ℤ) (f g : ℕ → ℤ) → sum_ℤ n (λ i. c *ℤ f i -ℤ g i) ≡ c *ℤ sum_ℤ n f -ℤ sum_ℤ n g
unfolding fold
sum_ℤ-linear zero c f g = rw (as_diff c) (simp diffs (omega ring))
sum_ℤ-linear (suc n) c f g =
    rw (sum_ℤ-linear n c f g, as_diff c, as_diff (sum_ℤ n f), as_diff (sum_ℤ n g), as_diff (f n), as_diff (g n)) (simp diffs (omega ring))

-- one factor over all summands
pub sum_ℤ-scale : (n : ℕ) (c : ℤ) (w : ℕ → ℕ) → pos (sum_ℕ n w) *ℤ c ≡ sum_ℤ n (λ i. c *ℤ pos (w i))
unfolding fold
sum_ℤ-scale zero c w = rw (as_diff c) (simp diffs (omega ring))
sum_ℤ-scale (suc n) c w =
    let e = sum_ℤ-scale n c w in
    rw (← e, as_diff c) (simp diffs (omega ring))

pub sum_ℤ-const : (n : ℕ) (c : ℤ) → pos n *ℤ c ≡ sum_ℤ n (λ i. c)
unfolding fold
sum_ℤ-const zero c = rw (as_diff c) (simp diffs (omega ring))
sum_ℤ-const (suc n) c = let e = sum_ℤ-const n c in rw (← e, as_diff c) (simp diffs (omega ring))

-- ---- all, any

pub all_suc : (n : ℕ) (p : ℕ → Bool) → all (n + 1) p ≡ (all n p && p n)
all_suc = fold-suc ◌&&◌ true

-- one more turn that passes
pub all_more : (n : ℕ) (p : ℕ → Bool) → all n p ≡ true → p n ≡ true → all (n + 1) p ≡ true
all_more n p h t = rw (all_suc n p, h, t)

-- the turn at which it is left
pub all_fails : (n : ℕ) (p : ℕ → Bool) (i : ℕ) → i < n → p i ≡ false → all n p ≡ false
all_fails n p i l t = fold-stop ◌&&◌ true false (λ y. refl) n p i l (rw t (and-false (all i p)))

pub and-true : (a b : Bool) → (a && b) ≡ true → (a ≡ true) × (b ≡ true)
and-true true b e = (refl, e)
and-true false b e = let z : ◌≡◌ {A = ℕ} 0 1 = cc in absurd (omega arith)

-- what passed everywhere passed at each
pub all_at : (n : ℕ) (p : ℕ → Bool) → all n p ≡ true → (i : ℕ) → i < n → p i ≡ true
all_at = fold-each ◌&&◌ true and-true

pub all_of : (n : ℕ) (p : ℕ → Bool) → ((i : ℕ) → i < n → p i ≡ true) → all n p ≡ true
all_of = fold-unit ◌&&◌ true refl

-- ---- first

-- one more turn that finds nothing
pub first_more : (n : ℕ) (f : ℕ → Option ℕ) → first n f ≡ None → f n ≡ None → first (n + 1) f ≡ None
unfolding fold or_else
first_more n f h t = rw (add-one, h, t)

-- the turn at which it is left
pub first_stops : (n : ℕ) (f : ℕ → Option ℕ) (i : ℕ) (x : ℕ) → i < n → first i f ≡ None → f i ≡ Some x → first n f ≡ Some x
unfolding or_else
first_stops n f i x l h t = fold-stop or_else None (Some x) (λ y. refl) n f i l (rw (h, t))

-- what one search after another found
pub or_else-at : (o y : Option ℕ) (x : ℕ) → or_else o y ≡ Some x → (o ≡ Some x) ⊎ ((o ≡ None) × (y ≡ Some x))
unfolding or_else
or_else-at (Some i) y x e = inl e
or_else-at None y x e = inr (refl, e)

pub or_else-nothing : (o y : Option ℕ) → or_else o y ≡ None → (o ≡ None) × (y ≡ None)
unfolding or_else
or_else-nothing (Some i) y e = absurd (let z : ◌≡◌ {A = ℕ} 0 1 = cc in omega arith)
or_else-nothing None y e = (refl, e)

pub nothing-or_else : (o y : Option ℕ) → o ≡ None → y ≡ None → or_else o y ≡ None
unfolding or_else
nothing-or_else o y e f = rw e f

pub or_else-right : (o : Option ℕ) → or_else o None ≡ o
unfolding or_else
or_else-right (Some i) = refl
or_else-right None = refl

pub or_else-assoc : (o y z : Option ℕ) → or_else (or_else o y) z ≡ or_else o (or_else y z)
unfolding or_else
or_else-assoc (Some i) y z = refl
or_else-assoc None y z = refl

pub first_cong : (n : ℕ) (f g : ℕ → Option ℕ) → ((i : ℕ) → i < n → f i ≡ g i) → first n f ≡ first n g
first_cong = fold-cong or_else None

-- where nothing was found no turn found any, and the converse
pub first-nothing : (n : ℕ) (f : ℕ → Option ℕ) → first n f ≡ None → (i : ℕ) → i < n → f i ≡ None
first-nothing = fold-each or_else None or_else-nothing

pub nothing-first : (n : ℕ) (f : ℕ → Option ℕ) → ((i : ℕ) → i < n → f i ≡ None) → first n f ≡ None
unfolding or_else
nothing-first = fold-unit or_else None refl

-- what was found was found at some turn, and at none before it
pub first-at : (n : ℕ) (f : ℕ → Option ℕ) (x : ℕ) → first n f ≡ Some x → (i : ℕ) × (i < n) × (f i ≡ Some x) × ((j : ℕ) → j < i → f j ≡ None)
unfolding fold
first-at zero f x e = absurd (let z : ◌≡◌ {A = ℕ} 0 1 = cc in omega arith)
first-at (suc n) f x e =
    ⊎_elim (λ h. let r = first-at n f x h in (r.0, omega (arith, r.1), r.2, r.3))
    (λ h. (n, omega arith, h.1, first-nothing n f h.0))
    (or_else-at (first n f) (f n) x e)

-- a search in which turn 0 finds something wherever any does
pub first-front : (n : ℕ) (f : ℕ → Option ℕ) → (f 0 ≡ None → (i : ℕ) → i < suc n → f i ≡ None) → first (suc n) f ≡ f 0
unfolding fold or_else
first-front zero f h = refl
first-front (suc n) f h = ap (λ (x : Option ℕ). or_else x (f (suc n))) (first-front n f (λ e i l. h e i (omega arith))) ∙ go (f 0) refl
  where
    go : (x : Option ℕ) → f 0 ≡ x → or_else x (f (suc n)) ≡ x
    go None e = h e (suc n) (omega arith)
    go (Some v) e = refl

-- ---- turns

pub turns-suc {ℓ} : {A : Type ℓ} (n : ℕ) (f : ℕ → A → A) (x : A) → turns (n + 1) f x ≡ f n (turns n f x)
unfolding turns
turns-suc n f x = rw add-one

pub turns-cong {ℓ} : {A : Type ℓ} (n : ℕ) (f g : ℕ → A → A) (x : A) → ((h : ℕ) (y : A) → h < n → f h y ≡ g h y) → turns n f x ≡ turns n g x
unfolding turns
turns-cong zero f g x h = refl
turns-cong (suc n) f g x h = ap (f n) (turns-cong n f g x (λ i y l. h i y (omega arith))) ∙ h n (turns n g x) (omega arith)

-- two turns at a time
pub turns-by_two {ℓ} : {A : Type ℓ} (n : ℕ) (f : ℕ → A → A) (x : A) → turns (2 * n) f x ≡ turns n (λ b y. f (2 * b + 1) (f (2 * b) y)) x
unfolding turns
turns-by_two zero f x = refl
turns-by_two (suc n) f x =
    let twice : 2 * suc n ≡ suc (suc (2 * n)) = omega arith in
    let next : suc (2 * n) ≡ 2 * n + 1 = omega arith in
    rw (twice, next, turns-by_two n f x)

-- what holds at first, and which each turn keeps, holds at the end
pub turns-inv {ℓ ℓ'} : {A : Type ℓ} (P : A → Type ℓ') (n : ℕ) (f : ℕ → A → A) (x : A) → P x → ((h : ℕ) (y : A) → h < n → P y → P (f h y)) → P (turns n f x)
unfolding turns
turns-inv P zero f x p step = p
turns-inv P (suc n) f x p step = step n (turns n f x) (omega arith) (turns-inv P n f x p (λ h y l q. step h y (omega arith) q))

-- no turn touches it
pub turns-miss {ℓ} : {A : Type ℓ} (n : ℕ) (f : ℕ → A → A) (x : A) → ((h : ℕ) (y : A) → h < n → f h y ≡ y) → turns n f x ≡ x
unfolding turns
turns-miss zero f x keep = refl
turns-miss (suc n) f x keep = keep n (turns n f x) (omega arith) ∙ turns-miss n f x (λ h y b. keep h y (omega arith))

-- turn i writes it, and no later one touches it
pub turns-hit {ℓ} : {A : Type ℓ} (n : ℕ) (f : ℕ → A → A) (x v : A) (i : ℕ) → i < n → ((y : A) → f i y ≡ v) → ((h : ℕ) (y : A) → i < h → h < n → f h y ≡ y) → turns n f x ≡ v
unfolding turns
turns-hit zero f x v i l here keep = absurd (not-suc-le-zero l)
turns-hit (suc n) f x v i l here keep =
    ⊎_elim (λ b. keep n (turns n f x) b (omega arith) ∙ turns-hit n f x v i b here (λ h y p q. keep h y p (omega arith)))
    (λ b. let e : i ≡ n = omega arith in rw (← e) (here (turns i f x)))
    (lt_or_le i n)

-- ---- tabulate

pub length-tabulate {ℓ} : {A : Type ℓ} (n : ℕ) (f : ℕ → A) → length (tabulate n f) ≡ n
unfolding tabulate
length-tabulate zero f = refl
length-tabulate (suc n) f = ap suc (length-tabulate n (λ k. f (suc k)))

pub get_d_tabulate {ℓ} : {A : Type ℓ} (n : ℕ) (f : ℕ → A) (k : ℕ) (d : A) → k < n → get_or (tabulate n f) k d ≡ f k
unfolding tabulate
get_d_tabulate zero f k d h = absurd (not-suc-le-zero h)
get_d_tabulate (suc n) f zero d h = refl
get_d_tabulate (suc n) f (suc k) d h = get_d_tabulate n (λ k. f (suc k)) k d (le_of_suc-le-suc h)

-- a list is tabulated by what stands at each index, and the converse
pub tabulate-of {ℓ} : {A : Type ℓ} (d : A) (xs : List A) (n : ℕ) (f : ℕ → A) → length xs ≡ n → ((k : ℕ) → k < n → get_or xs k d ≡ f k) → xs ≡ tabulate n f
tabulate-of d xs n f l h =
    ext_get_or d xs (tabulate n f) (l ∙ sym (length-tabulate n f))
    (λ k b. let b' : k < n = omega arith in h k b' ∙ sym (get_d_tabulate n f k d b'))

pub tabulate-each {ℓ} : {A : Type ℓ} (d : A) {xs : List A} {n : ℕ} {f : ℕ → A} → xs ≡ tabulate n f → (length xs ≡ n) × ((k : ℕ) → k < n → get_or xs k d ≡ f k)
tabulate-each d {n = n} {f = f} e = (ap length e ∙ length-tabulate n f, (λ k b. ap (λ l. get_or l k d) e ∙ get_d_tabulate n f k d b))

-- ---- Each

pub each_tabulate {ℓ} : {A : Type ℓ} (P : A → Type 0) (n : ℕ) (f : ℕ → A) → ((i : ℕ) → i < n → P (f i)) → Each P (tabulate n f)
unfolding tabulate
each_tabulate P zero f h = tt
each_tabulate P (suc n) f h = (h 0 (omega arith), each_tabulate P n (λ k. f (suc k)) (λ i l. h (suc i) (omega arith)))

pub each_append {ℓ} : {A : Type ℓ} (P : A → Type 0) (xs ys : List A) → Each P xs → Each P ys → Each P (xs ++ ys)
each_append P [] ys p q = q
each_append P (x ∷ xs) ys p q = (p.0, each_append P xs ys p.1 q)

pub each_flat {ℓ} : {A B : Type ℓ} (P : A → Type 0) (f : B → List A) → ((b : B) → Each P (f b)) → (bs : List B) → Each P (flat_map f bs)
unfolding flat_map
each_flat P f h [] = tt
each_flat P f h (b ∷ bs) = each_append P (f b) (flat_map f bs) (h b) (each_flat P f h bs)
