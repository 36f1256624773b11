-- Laws of the input: what each test tells of an item. Assumes nothing.
use Rattle.std.specs.Prelude.{◌≡◌, refl, Bool, true, false, cond, ◌&&◌, List, ℕ, ◌+◌, ◌≤◌, ◌<◌, eqb, leb, length, get_or, Some, None, ◌⊎◌}
use Rattle.std.proofs.Common.{sym, ap, subst, ◌∙◌, ⊎_elim, inl, inr, arith}
use Rattle.std.proofs.Math.Bool.{and-false}
use borrow.Author.Tests.{eqb-true, eqb-false, leb-true, eq-eqb, ne_eqb, le-leb, lt-leb}
use Rattle.std.proofs.Math.ListN.{get_or-eq_default}
use Rattle.integer.proofs.laws.BelowLaws.{lt_or_le, and-true}
use Rattle.console.specs.declared.input.Item.{Item}
use Rattle.console.specs.declared.input.Item.TheVariants.{Close, Submit, Bad, End}
use Rattle.console.specs.Input.{close_command, submit_command, longest_file, file_length, allowed_length, file_whole, item_of, wanted}

module _ (s : List ℕ) where
  -- ---- What an item is

  pub item-end : length s ≡ 0 → item_of s ≡ End
  unfolding item_of
  item-end h = rw (eq-eqb (length s) 0 h)

  module _ (some : length s ≡ 0 → ⊥) where
    pub item-close : get_or s 0 0 ≡ close_command → item_of s ≡ Close
    unfolding item_of
    item-close h = rw (ne_eqb (length s) 0 some, eq-eqb (get_or s 0 0) close_command h)

    pub item-unknown : (get_or s 0 0 ≡ close_command → ⊥) → (get_or s 0 0 ≡ submit_command → ⊥) → item_of s ≡ Bad 0
    unfolding item_of
    item-unknown h k = rw (ne_eqb (length s) 0 some, ne_eqb (get_or s 0 0) close_command h, ne_eqb (get_or s 0 0) submit_command k)

    module _ (h : get_or s 0 0 ≡ submit_command) where
      not_close : get_or s 0 0 ≡ close_command → ⊥
      not_close e = omega arith

      pub item-cut : file_whole s ≡ false → item_of s ≡ Bad 1
      unfolding item_of
      item-cut k = rw (ne_eqb (length s) 0 some, ne_eqb (get_or s 0 0) close_command not_close, eq-eqb (get_or s 0 0) submit_command h, k)

      pub item-submit : file_whole s ≡ true → item_of s ≡ Submit (file_length s)
      unfolding item_of
      item-submit k = rw (ne_eqb (length s) 0 some, ne_eqb (get_or s 0 0) close_command not_close, eq-eqb (get_or s 0 0) submit_command h, k)

  pub whole-cut : length s < 3 → file_whole s ≡ false
  unfolding file_whole
  whole-cut h = rw (lt-leb 3 (length s) h)

  pub whole_is : 3 ≤ length s → file_whole s ≡ leb (file_length s) longest_file && leb (3 + file_length s) (length s)
  unfolding file_whole
  whole_is h = rw (le-leb 3 (length s) h)

  pub whole_length : file_whole s ≡ true → 3 ≤ length s
  whole_length h = ⊎_elim (λ k. let z : ◌≡◌ {A = ℕ} 0 1 = cc (whole-cut k) in absurd (omega arith)) (λ k. k) (lt_or_le (length s) 3)

  -- ---- How far to read

  pub wanted-command : (get_or s 0 0 ≡ submit_command → ⊥) → wanted s ≡ 1
  unfolding wanted
  wanted-command h = rw (ne_eqb (get_or s 0 0) submit_command h)

  pub wanted-none : length s ≡ 0 → wanted s ≡ 1
  wanted-none h = let d : get_or s 0 0 ≡ 0 = get_or-eq_default s 0 (omega arith) in wanted-command (λ e. omega arith)

  module _ (h : get_or s 0 0 ≡ submit_command) where
    pub wanted-length : length s < 3 → wanted s ≡ 3
    unfolding wanted
    wanted-length k = rw (eq-eqb (get_or s 0 0) submit_command h, lt-leb 3 (length s) k)

    pub wanted-long : longest_file < file_length s → wanted s ≡ 3
    unfolding wanted
    wanted-long k = rw (eq-eqb (get_or s 0 0) submit_command h, lt-leb (file_length s) longest_file k, and-false)

    pub wanted-file : 3 ≤ length s → file_length s ≤ longest_file → wanted s ≡ 3 + file_length s
    unfolding wanted
    wanted-file k l = rw (eq-eqb (get_or s 0 0) submit_command h, le-leb 3 (length s) k, le-leb (file_length s) longest_file l)

-- ---- A submission's length

-- a length that is there and allowed
pub record Allowed (s : List ℕ) (n : ℕ) : Type 0 where
  pub there : 3 ≤ length s
  pub few : file_length s ≤ longest_file
  pub is : n ≡ file_length s

pub allowed-some : (s : List ℕ) (n : ℕ) → allowed_length s ≡ Some n → Allowed s n
allowed-some s n = by (leb 3 (length s)) (leb (file_length s) longest_file) refl refl
  where
    by : (a b : Bool) → leb 3 (length s) ≡ a → leb (file_length s) longest_file ≡ b → cond (a && b) (Some (file_length s)) None ≡ Some n → Allowed s n
    by true true x y e = record { there = leb-true 3 (length s) x; few = leb-true (file_length s) longest_file y; is = cc }
    by true false x y e = absurd (let z : ◌≡◌ {A = ℕ} 0 1 = cc in omega arith)
    by false b x y e = absurd (let z : ◌≡◌ {A = ℕ} 0 1 = cc in omega arith)

pub allowed-none : (s : List ℕ) → allowed_length s ≡ None → (length s < 3) ⊎ (longest_file < file_length s)
allowed-none s e =
    ⊎_elim (λ h. inl h)
    (λ h. inr (⊎_elim (λ l. l) (λ l. absurd (let z : allowed_length s ≡ Some (file_length s) = rw (le-leb 3 (length s) h, le-leb (file_length s) longest_file l) in let y : ◌≡◌ {A = ℕ} 0 1 = cc in omega arith)) (lt_or_le longest_file (file_length s))))
    (lt_or_le (length s) 3)

-- the file is whole where so many bytes are there
pub whole-there : (s : List ℕ) (n : ℕ) → Allowed s n → 3 + n ≤ length s → file_whole s ≡ true
whole-there s n a h = rw (whole_is s a.there, le-leb (file_length s) longest_file a.few, le-leb (3 + file_length s) (length s) (let e = a.is in omega arith))

pub whole-short : (s : List ℕ) (n : ℕ) → Allowed s n → length s < 3 + n → file_whole s ≡ false
whole-short s n a h =
    rw (whole_is s a.there, le-leb (file_length s) longest_file a.few, lt-leb (3 + file_length s) (length s) (let e = a.is in omega arith))

pub whole-none : (s : List ℕ) → allowed_length s ≡ None → file_whole s ≡ false
whole-none s e =
    ⊎_elim (λ h. whole-cut s h)
    (λ l. ⊎_elim (λ h. whole-cut s h) (λ h. rw (whole_is s h, lt-leb (file_length s) longest_file l)) (lt_or_le (length s) 3))
    (allowed-none s e)

pub wanted-none_allowed : (s : List ℕ) → get_or s 0 0 ≡ submit_command → allowed_length s ≡ None → wanted s ≡ 3
wanted-none_allowed s h e =
    ⊎_elim (λ k. wanted-length s h k) (λ l. wanted-long s h l) (allowed-none s e)

-- ---- A submission's file is there

whole-both : (s : List ℕ) → file_whole s ≡ true → (leb (file_length s) longest_file ≡ true) × (leb (3 + file_length s) (length s) ≡ true)
whole-both s h = and-true (leb (file_length s) longest_file) (leb (3 + file_length s) (length s)) (sym (whole_is s (whole_length s h)) ∙ h)

whole-allowed : (s : List ℕ) → file_whole s ≡ true → file_length s ≤ longest_file
whole-allowed s h = leb-true (file_length s) longest_file (whole-both s h).0

whole-file : (s : List ℕ) → file_whole s ≡ true → 3 + file_length s ≤ length s
whole-file s h = leb-true (3 + file_length s) (length s) (whole-both s h).1

-- ---- What an item tells of the input

abbrev Tells : List ℕ → Item → Type 0
Tells s Close = (1 ≤ length s) × (get_or s 0 0 ≡ close_command)
Tells s (Submit n) = (get_or s 0 0 ≡ submit_command) × (file_whole s ≡ true) × (n ≡ file_length s)
Tells s (Bad k) = k ≤ 1
Tells s End = length s ≡ 0

item-tells : (s : List ℕ) (i : Item) → item_of s ≡ i → Tells s i
unfolding item_of
item-tells s i h =
    subst (Tells s) h
    (by (eqb (length s) 0) (eqb (get_or s 0 0) close_command) (eqb (get_or s 0 0) submit_command) (file_whole s) refl refl refl refl)
  where
    by : (a b c d : Bool) → eqb (length s) 0 ≡ a → eqb (get_or s 0 0) close_command ≡ b → eqb (get_or s 0 0) submit_command ≡ c → file_whole s ≡ d
        → Tells s (cond a End (cond b Close (cond c (cond d (Submit (file_length s)) (Bad 1)) (Bad 0))))
    by true b c d x y z w = eqb-true (length s) 0 x
    by false true c d x y z w = (omega (arith, eqb-false (length s) 0 x), eqb-true (get_or s 0 0) close_command y)
    by false false true true x y z w = (eqb-true (get_or s 0 0) submit_command z, w, refl)
    by false false true false x y z w = omega arith
    by false false false d x y z w = omega arith

pub submit-fits : (s : List ℕ) (n : ℕ) → item_of s ≡ Submit n → 3 + n ≤ length s
submit-fits s n h = let t = item-tells s (Submit n) h in omega (arith, whole-file s t.1, t.2)

pub submit-wanted : (s : List ℕ) (n : ℕ) → item_of s ≡ Submit n → wanted s ≡ 3 + n
submit-wanted s n h =
    let t = item-tells s (Submit n) h in
    wanted-file s t.0 (whole_length s t.1) (whole-allowed s t.1) ∙ ap (λ (m : ℕ). 3 + m) (sym t.2)

pub close-wanted : (s : List ℕ) → item_of s ≡ Close → (wanted s ≡ 1) × (1 ≤ length s)
close-wanted s h = let t = item-tells s Close h in (wanted-command s (λ m. omega (arith, t.1)), t.0)

pub bad-near : (s : List ℕ) (k : ℕ) → item_of s ≡ Bad k → k ≤ 1
bad-near s k h = item-tells s (Bad k) h
