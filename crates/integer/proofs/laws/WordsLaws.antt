-- Laws of lent words. Assumes nothing.
use Rattle.std.specs.Prelude.{◌≡◌, true, false, cond, ◌&&◌, ℕ, zero, suc, ◌+◌, ◌*◌, ◌-◌, ◌/◌, ◌%◌, ◌≤◌, ◌<◌, leb, ltb, get_or, set, take, drop}
use Rattle.std.proofs.Math.Path.{refl}
use Rattle.std.proofs.Common.{sym, ap, ◌∙◌, ⊎_elim, not-suc-le-zero, le_of_suc-le-suc, suc-mul, mul-le-mul_right, mul-zero, div-add-mod', mod-lt, add-one, arith, lt-ltb, le-ltb, le-leb, length-append, length-drop, take-take, drop-drop, get_or-take, get_or-drop, get_or-append-add, length-take-le}
use Rattle.std.proofs.Math.Bool.{and-false}
use mathlib.Core.List.{List, [], ◌∷◌, ◌++◌, append-nil}
use Rattle.std.proofs.lemmas.Bool.{lt-leb}
use Rattle.std.proofs.Math.ListN.{length, get_or-append}
use Rattle.std.proofs.Math.Seq.{drop-length}
use Rattle.integer.specs.Below.{turns, tabulate}
use Rattle.integer.proofs.laws.BelowLaws.{lt_or_le, turns-suc, turns-inv, turns-miss, turns-hit, length-tabulate, get_d_tabulate, tabulate-of, tabulate-each}
use Rattle.integer.specs.Words.{filled, part, inside, patched, on_part, grid_row, grid, grid_words}

-- ---- Rows of a stride

-- a row of s within n rows of s: what an index h * s + j below s asks
pub row_fits_lem : (h n s : ℕ) → h < n → h * s + s ≤ n * s
row_fits_lem h n s l = rw (← suc-mul) (mul-le-mul_right s l)

-- an index x within n rows of s: its row and its place there
pub row_of : (x n s : ℕ) → x < n * s → (x / s * s + x % s ≡ x) × (x % s < s) × (x / s < n)
row_of x n s l = (is, r_lt, q_lt)
  where
    positive : 0 < s
    positive = ⊎_elim (λ h. h) (λ h. let z : s ≡ 0 = omega arith in let y : n * s ≡ 0 = rw z (mul-zero n) in absurd (omega arith)) (lt_or_le 0 s)

    is : x / s * s + x % s ≡ x
    is = div-add-mod' x s

    r_lt : x % s < s
    r_lt = mod-lt x positive

    q_lt : x / s < n
    q_lt = ⊎_elim (λ h. h) (λ h. let b = mul-le-mul_right s h in absurd (omega (arith, is))) (lt_or_le (x / s) n)

-- ---- A fill from the front

pub filled_zero {ℓ} : {A : Type ℓ} (f : ℕ → A) (xs : List A) → filled 0 f xs ≡ xs
unfolding tabulate
filled_zero f xs = refl

fill_one {ℓ} : {A : Type ℓ} (i : ℕ) (f : ℕ → A) (xs : List A) → i < length xs → set (tabulate i f ++ drop i xs) i (f i) ≡ tabulate (suc i) f ++ drop (suc i) xs
unfolding tabulate
fill_one i f [] l = absurd (not-suc-le-zero l)
fill_one zero f (x ∷ xs) l = refl
fill_one (suc i) f (x ∷ xs) l = ap (λ t. f 0 ∷ t) (fill_one i (λ k. f (suc k)) xs (le_of_suc-le-suc l))

pub filled-suc {ℓ} : {A : Type ℓ} (i : ℕ) (f : ℕ → A) (xs : List A) → i < length xs → filled (i + 1) f xs ≡ set (filled i f xs) i (f i)
filled-suc i f xs l = rw add-one (sym (fill_one i f xs l))

pub filled-all {ℓ} : {A : Type ℓ} (f : ℕ → A) (xs : List A) → filled (length xs) f xs ≡ tabulate (length xs) f
filled-all f xs = simp (drop-length, append-nil)

-- one more turn of a loop that fills, and its end
pub filled-step {ℓ} : {A : Type ℓ} (i : ℕ) (f : ℕ → A) (xs : List A) {ys : List A} {v : A} → i < length xs → ys ≡ filled i f xs → v ≡ f i → set ys i v ≡ filled (i + 1) f xs
filled-step i f xs l e q = rw (e, q) (sym (filled-suc i f xs l))

pub filled-whole {ℓ} : {A : Type ℓ} (i n : ℕ) (f : ℕ → A) (xs : List A) {ys : List A} → length xs ≡ n → i ≡ n → ys ≡ filled i f xs → ys ≡ tabulate n f
filled-whole i n f xs l e q = q ∙ rw (e, ← l) (filled-all f xs)

-- ---- A fill from the back

-- one more word of ys, before those from m + 1 on
pub filled-back {ℓ} : {A : Type ℓ} (m : ℕ) (xs ys : List A) (d : A) → length xs ≡ length ys → m < length xs → set (take (suc m) xs ++ drop (suc m) ys) m (get_or ys m d) ≡ take m xs ++ drop m ys
filled-back m [] ys d e l = absurd (not-suc-le-zero l)
filled-back m (x ∷ xs) [] d e l = absurd (omega arith)
filled-back zero (x ∷ xs) (y ∷ ys) d e l = refl
filled-back (suc m) (x ∷ xs) (y ∷ ys) d e l = ap (λ t. x ∷ t) (filled-back m xs ys d (omega arith) (le_of_suc-le-suc l))

-- ---- A part that is lent: `&xs[i..i + n]`

pub lent {ℓ} : {A : Type ℓ} (xs : List A) (i n : ℕ) → take (i + n - i) (drop i xs) ≡ part xs i n
lent xs i n = let e : i + n - i ≡ n = omega arith in rw e

pub length_part {ℓ} : {A : Type ℓ} (xs : List A) (i n : ℕ) → i + n ≤ length xs → length (part xs i n) ≡ n
length_part xs i n h = length-take-le n (drop i xs) (simp length-drop (omega arith))

pub get_d_part {ℓ} : {A : Type ℓ} (xs : List A) (i n k : ℕ) (d : A) → k < n → get_or (part xs i n) k d ≡ get_or xs (i + k) d
get_d_part xs i n k d h = get_or-take n (drop i xs) k d h ∙ get_or-drop i xs k d

-- a part of a part
take-drop_take {ℓ} : {A : Type ℓ} (m j n : ℕ) (xs : List A) → j + m ≤ n → take m (drop j (take n xs)) ≡ take m (drop j xs)
take-drop_take m zero n xs h = take-take m n xs (omega arith)
take-drop_take m (suc j) zero xs h = absurd (omega arith)
take-drop_take m (suc j) (suc n) [] h = refl
take-drop_take m (suc j) (suc n) (x ∷ xs) h = take-drop_take m j n xs (omega arith)

pub part-part {ℓ} : {A : Type ℓ} (xs : List A) (i n j m : ℕ) → j + m ≤ n → part (part xs i n) j m ≡ part xs (i + j) m
part-part xs i n j m h = take-drop_take m j n (drop i xs) h ∙ ap (take m) (drop-drop j i xs)

-- ---- A part lent onward

-- what stands at an index past the first list
pub get_d_past {ℓ} : {A : Type ℓ} (xs ys : List A) (n k : ℕ) (d : A) → length xs ≡ n → n ≤ k → get_or (xs ++ ys) k d ≡ get_or ys (k - n) d
get_d_past xs ys n k d l h =
    let e : k ≡ length xs + (k - n) = omega arith in
    ap (λ j. get_or (xs ++ ys) j d) e ∙ get_or-append-add xs ys (k - n) d

pub length-of_part {ℓ} : {A : Type ℓ} (a e : ℕ) (xs : List A) → a ≤ e → e ≤ length xs → length (take (e - a) (drop a xs)) ≡ e - a
length-of_part a e xs le fit = length-take-le (e - a) (drop a xs) (simp length-drop (omega arith))

module _ {ℓ} {A : Type ℓ} (a e : ℕ) (g : List A → List A) (xs : List A) (d : A) (le : a ≤ e) (fit : e ≤ length xs) where
  len_a : length (take a xs) ≡ a
  len_a = length-take-le a xs (omega arith)

  pub length-on_part : length (g (take (e - a) (drop a xs))) ≡ e - a → length (on_part a e g xs) ≡ length xs
  length-on_part l = simp (length-append, length-drop, len_a, l) (omega arith)

  pub part-before : (k : ℕ) → k < a → get_or (on_part a e g xs) k d ≡ get_or xs k d
  part-before k h =
      let b : k < length (take a xs) = omega (arith, len_a) in
      get_or-append (take a xs) _ d k b ∙ get_or-take a xs k d h

  pub part_in : length (g (take (e - a) (drop a xs))) ≡ e - a → (k : ℕ) → a ≤ k → k < e → get_or (on_part a e g xs) k d ≡ get_or (g (take (e - a) (drop a xs))) (k - a) d
  part_in l k h b = get_d_past (take a xs) _ a k d len_a h ∙ get_or-append (g (take (e - a) (drop a xs))) _ d (k - a) (omega arith)

  pub part-after : length (g (take (e - a) (drop a xs))) ≡ e - a → (k : ℕ) → e ≤ k → get_or (on_part a e g xs) k d ≡ get_or xs k d
  part-after l k h =
      get_d_past (take a xs) _ a k d len_a (omega arith)
      ∙ get_d_past (g (take (e - a) (drop a xs))) _ (e - a) (k - a) d l (omega arith)
      ∙ get_or-drop (e - a) (drop a xs) (k - a - (e - a)) d
      ∙ get_or-drop a xs _ d
      ∙ ap (λ j. get_or xs j d) (omega arith)

-- a part that is tabulated anew is the whole, patched
pub part-patched {ℓ} : {A : Type ℓ} (d : A) (a e : ℕ) (f : ℕ → A) (xs : List A) → a ≤ e → e ≤ length xs → on_part a e (λ p. tabulate (length p) f) xs ≡ patched d a e (λ k. f (k - a)) xs
part-patched {A = A} d a e f xs le fit =
    let g : List A → List A = λ p. tabulate (length p) f in
    let n = length-of_part a e xs le fit in
    let l = length-tabulate (length (take (e - a) (drop a xs))) f ∙ n in
    tabulate-of d _ (length xs) _ (length-on_part a e g xs d le fit l)
    (λ k b.
    ⊎_elim (λ h. part-before a e g xs d le fit k h ∙ sym (simp (lt-leb a k h)))
    (λ h.
    ⊎_elim (λ h2. part_in a e g xs d le fit l k h h2 ∙ get_d_tabulate (length (take (e - a) (drop a xs))) f (k - a) d (omega arith) ∙ sym (simp (le-leb a k h, lt-ltb k e h2)))
    (λ h2. part-after a e g xs d le fit l k h2 ∙ sym (simp (le-leb a k h, le-ltb k e h2)))
    (lt_or_le k e))
    (lt_or_le k a))

-- ---- Where an index lies

pub inside-yes : (a e k : ℕ) → a ≤ k → k < e → inside a e k ≡ true
inside-yes a e k p q = rw (le-leb a k p, lt-ltb k e q)

pub inside-before : (a e k : ℕ) → k < a → inside a e k ≡ false
inside-before a e k p = rw (lt-leb a k p)

pub inside-after : (a e k : ℕ) → e ≤ k → inside a e k ≡ false
inside-after a e k p = rw (le-ltb k e p) (and-false (leb a k))

-- ---- What stands at one index after n turns

-- where each turn keeps the length and makes w of the word at k, all do
pub turns_at {ℓ} : {A : Type ℓ} (d : A) (len k n : ℕ) (f : ℕ → List A → List A) (w : ℕ → A → A) (xs : List A) → length xs ≡ len
    → ((h : ℕ) (ys : List A) → h < n → length ys ≡ len → (length (f h ys) ≡ len) × (get_or (f h ys) k d ≡ w h (get_or ys k d)))
    → (length (turns n f xs) ≡ len) × (get_or (turns n f xs) k d ≡ turns n w (get_or xs k d))
unfolding turns
turns_at d len k zero f w xs l step = (l, refl)
turns_at d len k (suc n) f w xs l step =
    let r = turns_at d len k n f w xs l (λ h ys b q. step h ys (omega arith) q) in
    let s = step n (turns n f xs) (omega arith) r.0 in
    (s.0, s.1 ∙ ap (w n) r.1)

-- ---- A grid of rows

module _ {ℓ} {A : Type ℓ} (base stride m : ℕ) (val : ℕ → ℕ → A) where
  pub grid-zero : (xs : List A) → xs ≡ grid base stride m val 0 xs
  unfolding grid turns
  grid-zero xs = refl

  pub grid-suc : (n : ℕ) (xs : List A) → grid base stride m val (n + 1) xs ≡ grid_row base stride m val n (grid base stride m val n xs)
  unfolding grid
  grid-suc n xs = turns-suc n (grid_row base stride m val) xs

module _ {ℓ} {A : Type ℓ} (d : A) (base stride m : ℕ) (val : ℕ → ℕ → A) where
  -- the word that row h has at k
  abbrev of : ℕ → ℕ → A
  of h k = val h (k - (base + h * stride))

  abbrev step : ℕ → ℕ → A → A
  step k h y = cond (inside (base + h * stride) (base + h * stride + m) k) (of h k) y

  module _ (n : ℕ) (xs : List A) (fit : base + n * stride ≤ length xs) (narrow : m ≤ stride) where
    pub grid-at : (k : ℕ) → k < length xs → (length (grid base stride m val n xs) ≡ length xs) × (get_or (grid base stride m val n xs) k d ≡ turns n (step k) (get_or xs k d))
    unfolding grid grid_row
    grid-at k b =
        turns_at d (length xs) k n (grid_row base stride m val) (step k) xs refl
        (λ h ys l q.
        let r = row_fits_lem h n stride l in
        let t = tabulate-each d (part-patched d (base + h * stride) (base + h * stride + m) (val h) ys (omega arith) (omega arith)) in
        (t.0 ∙ q, t.1 k (omega arith)))

    -- a word of row i
    pub grid-hit : (i j : ℕ) → i < n → j < m → get_or (grid base stride m val n xs) (base + i * stride + j) d ≡ val i j
    grid-hit i j l b =
        let k : ℕ = base + i * stride + j in
        let r = row_fits_lem i n stride l in
        let e : base + i * stride + j - (base + i * stride) ≡ j = omega arith in
        (grid-at k (omega arith)).1
        ∙ turns-hit n (step k) (get_or xs k d) _ i l
        (λ y. rw (inside-yes (base + i * stride) (base + i * stride + m) k (omega arith) (omega arith), e))
        (λ h y p q. let s = row_fits_lem i h stride p in rw (inside-before (base + h * stride) (base + h * stride + m) k (omega arith)))

    -- a word that lies in no row
    pub grid-miss : (k : ℕ) → k < length xs → ((h : ℕ) → h < n → inside (base + h * stride) (base + h * stride + m) k ≡ false) → get_or (grid base stride m val n xs) k d ≡ get_or xs k d
    grid-miss k b out = (grid-at k b).1 ∙ turns-miss n (step k) (get_or xs k d) (λ h y l. rw (out h l))

    -- every word, by its index
    abbrev pub word_of : ℕ → A
    word_of k = cond (inside base (base + n * stride) k && ltb ((k - base) % stride) m) (val ((k - base) / stride) ((k - base) % stride)) (get_or xs k d)

    grid-length : length (grid base stride m val n xs) ≡ length xs
    unfolding grid grid_row
    grid-length =
        turns-inv (λ (ys : List A). length ys ≡ length xs) n (grid_row base stride m val) xs refl
        (λ h ys l q.
        let r = row_fits_lem h n stride l in
        (tabulate-each d (part-patched d (base + h * stride) (base + h * stride + m) (val h) ys (omega arith) (omega arith))).0 ∙ q)

    pub grid-words : grid base stride m val n xs ≡ tabulate (length xs) word_of
    grid-words = tabulate-of d _ (length xs) word_of grid-length each
      where
        -- k in row q at r, and r is past the row's m words
        gap : (k q r : ℕ) → base ≤ k → q * stride + r ≡ k - base → r < stride → m ≤ r → (h : ℕ) → h < n → inside (base + h * stride) (base + h * stride + m) k ≡ false
        gap k q r b e l past h lt =
            ⊎_elim (λ p. inside-after _ _ k (omega (arith, row_fits_lem h q stride p)))
            (λ p.
            ⊎_elim (λ s. inside-before _ _ k (omega (arith, row_fits_lem q h stride s)))
            (λ s. let same : h ≡ q = omega arith in rw same (inside-after _ _ k (omega arith)))
            (lt_or_le q h))
            (lt_or_le h q)

        e-of : (k : ℕ) → base ≤ k → (k - base) / stride * stride + (k - base) % stride ≡ k - base → k ≡ base + (k - base) / stride * stride + (k - base) % stride
        e-of k p e = omega arith

        each : (k : ℕ) → k < length xs → get_or (grid base stride m val n xs) k d ≡ word_of k
        each k b =
            ⊎_elim (λ p. rw (inside-before base (base + n * stride) k p) (grid-miss k b (λ h l. inside-before _ _ k (omega arith))))
            (λ p.
            ⊎_elim
            (λ s.
            let w = row_of (k - base) n stride (omega arith) in
            rw (inside-yes base (base + n * stride) k p s)
            (⊎_elim (λ t. rw (lt-ltb ((k - base) % stride) m t) (ap (λ i. get_or (grid base stride m val n xs) i d) (e-of k p w.0) ∙ grid-hit ((k - base) / stride) ((k - base) % stride) w.2 t))
            (λ t. rw (le-ltb ((k - base) % stride) m t) (grid-miss k b (gap k _ _ p w.0 w.1 t)))
            (lt_or_le ((k - base) % stride) m)))
            (λ s. rw (inside-after base (base + n * stride) k s) (grid-miss k b (λ h l. inside-after _ _ k (omega (arith, row_fits_lem h n stride l)))))
            (lt_or_le k (base + n * stride)))
            (lt_or_le k base)

    pub grid-is : grid base stride m val n xs ≡ grid_words d base stride m val n xs
    unfolding grid_words
    grid-is = grid-words
