-- The fields of a statement: where each byte stands, and both round trips. Rests on FieldLaws. Assumes nothing.
use Rattle.std.proofs.Math.Path.{◌≡◌}
use Rattle.std.specs.Prelude.{refl, true, eqb, ℤ, pos, nat_abs, get_or, drop, Some, None}
use Rattle.std.proofs.Common.{sym, ap, ◌∙◌, not-suc-le-zero, length-append, length-drop, ext_get_or, get_or-drop}
use Rattle.std.proofs.Math.Bool.{cond}
use mathlib.Core.List.{List, [], ◌∷◌, ◌++◌, flat_map}
use Rattle.std.proofs.Math.Logic.{⊎_elim}
use Prim.Native.Nat.{ℕ, zero, suc, ◌+◌, ◌*◌, ◌-◌, ◌/◌, ◌%◌, ◌≤◌, ◌<◌}
use native.Mathlib.Omega.{arith}
use borrow.Author.Tests.{le-leb, leb-true, ne_eqb}
use Rattle.std.proofs.Math.ListN.{length, get_or-append}
use Rattle.integer.specs.Below.{first, tabulate}
use Rattle.integer.specs.Words.{word, grid}
use Rattle.integer.proofs.laws.BelowLaws.{lt_or_le, and-true, all_at, all_of, nothing-first, first-nothing, or_else-nothing, nothing-or_else, length-tabulate, get_d_tabulate, tabulate-each}
use Rattle.integer.proofs.laws.WordsLaws.{get_d_past, inside-after, grid-hit, grid-miss, grid-words}
use Rattle.packed.specs.Packed.{field_bytes, most_amount, least_amounts, most_amounts, amount_fits, statement_fits, field_byte, field, fields_of, whole_fields, amount_at, wrong_in, cut_field, first_wrong}
use Rattle.packed.specs.PackedTable.{Statement}
use Rattle.packed.proofs.laws.FieldLaws.{Stands, amount-read, right_read, amount-fits, stands-right}

-- ---- A statement fits

pub statement-is : (amounts : List ℤ) → statement_fits amounts ≡ true → Statement amounts
unfolding statement_fits
statement-is amounts t =
    let r = and-true _ _ t in
    let c = and-true _ _ r.0 in
    record {
      from = leb-true least_amounts (length amounts) c.0;
      to = leb-true (length amounts) most_amounts c.1;
      digits = λ i l. leb-true (nat_abs (word amounts i)) most_amount (all_at (length amounts) (λ i. amount_fits (word amounts i)) r.1 i l);
    }

pub statement-fits : (amounts : List ℤ) → Statement amounts → statement_fits amounts ≡ true
unfolding statement_fits
statement-fits amounts s =
    rw (le-leb least_amounts (length amounts) s.from, le-leb (length amounts) most_amounts s.to)
    (all_of (length amounts) (λ i. amount_fits (word amounts i)) (λ i l. le-leb (nat_abs (word amounts i)) most_amount (s.digits i l)))

-- ---- Its fields

pub length-field : (z : ℤ) → length (field z) ≡ field_bytes
unfolding field
length-field z = length-tabulate field_bytes (field_byte z)

pub field_at : (z : ℤ) (j : ℕ) → j < field_bytes → get_or (field z) j 0 ≡ field_byte z j
unfolding field
field_at z j l = get_d_tabulate field_bytes (field_byte z) j 0 l

pub length_fields : (amounts : List ℤ) → length (fields_of amounts) ≡ field_bytes * length amounts
unfolding flat_map
length_fields [] = refl
length_fields (z ∷ zs) = length-append (field z) (fields_of zs) ∙ omega (arith, length-field z, length_fields zs)

pub fields_at : (amounts : List ℤ) (f j : ℕ) → f < length amounts → j < field_bytes → get_or (fields_of amounts) (field_bytes * f + j) 0 ≡ field_byte (word amounts f) j
unfolding flat_map
fields_at [] f j l b = absurd (not-suc-le-zero l)
fields_at (z ∷ zs) zero j l b =
    let e : field_bytes * zero + j ≡ j = omega arith in
    ap (λ i. get_or (field z ++ fields_of zs) i 0) e ∙ get_or-append (field z) (fields_of zs) 0 j (omega (arith, length-field z)) ∙ field_at z j b
fields_at (z ∷ zs) (suc f) j l b =
    get_d_past (field z) (fields_of zs) field_bytes (field_bytes * suc f + j) 0 (length-field z) (omega arith)
    ∙ ap (λ i. get_or (fields_of zs) i 0) (omega arith)
    ∙ fields_at zs f j (omega arith) b

-- bytes of which each is that of the statement's field are its fields
pub fields_of_lem : (s : List ℕ) (amounts : List ℤ) → length s ≡ field_bytes * length amounts → ((f : ℕ) → f < length amounts → Stands s (field_bytes * f) (word amounts f)) → s ≡ fields_of amounts
fields_of_lem s amounts l stands =
    ext_get_or 0 s (fields_of amounts) (l ∙ sym (length_fields amounts))
    (λ k b.
    let e : k ≡ field_bytes * (k / field_bytes) + k % field_bytes = omega arith in
    ap (λ i. get_or s i 0) e
    ∙ stands (k / field_bytes) (omega arith) (k % field_bytes) (omega arith)
    ∙ sym (fields_at amounts (k / field_bytes) (k % field_bytes) (omega arith) (omega arith))
    ∙ ap (λ i. get_or (fields_of amounts) i 0) (sym e))

-- what a writer of fields leaves
pub fields_grid : (amounts : List ℤ) (output : List ℕ) → field_bytes * length amounts ≤ length output
    → grid 0 field_bytes field_bytes (λ i. field_byte (word amounts i)) (length amounts) output ≡ fields_of amounts ++ drop (field_bytes * length amounts) output
fields_grid amounts output fit =
    let n : ℕ = length amounts in
    let val : ℕ → ℕ → ℕ = λ i. field_byte (word amounts i) in
    let w = tabulate-each 0 (grid-words 0 0 field_bytes field_bytes val n output (omega arith) (omega arith)) in
    ext_get_or 0 _ _ (w.0 ∙ sym (length-append (fields_of amounts) _ ∙ omega (arith, length_fields amounts, length-drop (field_bytes * length amounts) output)))
    (λ k b.
    let l : k < length output = omega (arith, w.0) in
    ⊎_elim
    (λ h.
    let e : k ≡ 0 + k / field_bytes * field_bytes + k % field_bytes = omega arith in
    let e2 : k ≡ field_bytes * (k / field_bytes) + k % field_bytes = omega arith in
    ap (λ i. get_or (grid 0 field_bytes field_bytes val n output) i 0) e
    ∙ grid-hit 0 0 field_bytes field_bytes val n output (omega arith) (omega arith) (k / field_bytes) (k % field_bytes) (omega arith) (omega arith)
    ∙ sym (fields_at amounts (k / field_bytes) (k % field_bytes) (omega arith) (omega arith))
    ∙ ap (λ i. get_or (fields_of amounts) i 0) (sym e2)
    ∙ sym (get_or-append (fields_of amounts) _ 0 k (omega (arith, length_fields amounts))))
    (λ h.
    grid-miss 0 0 field_bytes field_bytes val n output (omega arith) (omega arith) k l (λ i m. inside-after _ _ k (omega arith))
    ∙ sym (get_d_past (fields_of amounts) _ (field_bytes * length amounts) k 0 (length_fields amounts) h ∙ get_or-drop (field_bytes * length amounts) output (k - field_bytes * length amounts) 0 ∙ ap (λ i. get_or output i 0) (omega arith)))
    (lt_or_le k (field_bytes * length amounts)))

-- ---- Written, then read

module _ (amounts : List ℤ) (digits : (i : ℕ) → i < length amounts → nat_abs (word amounts i) ≤ most_amount) where
  pub whole_fields_lem : whole_fields (fields_of amounts) ≡ length amounts
  whole_fields_lem = omega (arith, length_fields amounts)

  stands : (f : ℕ) → f < length amounts → Stands (fields_of amounts) (field_bytes * f) (word amounts f)
  stands f l j b = fields_at amounts f j l b

  pub amounts-read : (f : ℕ) → f < length amounts → amount_at (fields_of amounts) (field_bytes * f) ≡ word amounts f
  amounts-read f l = amount-read (fields_of amounts) (field_bytes * f) (word amounts f) (stands f l) (digits f l)

  pub fields_right : first_wrong (fields_of amounts) ≡ None
  unfolding first_wrong cut_field
  fields_right =
      let cut : length (fields_of amounts) % field_bytes ≡ 0 = omega (arith, length_fields amounts) in
      nothing-or_else _ _
      (nothing-first (whole_fields (fields_of amounts)) _ (λ f l. let m : f < length amounts = omega (arith, whole_fields_lem) in right_read (fields_of amounts) (field_bytes * f) (word amounts f) (stands f m) (digits f m)))
      (rw cut)

-- ---- Read, then written

-- the amounts of the whole fields
abbrev pub amounts_in : List ℕ → List ℤ
amounts_in s = tabulate (whole_fields s) (λ f. amount_at s (field_bytes * f))

module _ (s : List ℕ) (right : first_wrong s ≡ None) where
  split : (first (whole_fields s) (λ f. wrong_in s (field_bytes * f)) ≡ None) × (cut_field s ≡ None)
  unfolding first_wrong
  split = or_else-nothing _ _ right

  pub field-right : (f : ℕ) → f < whole_fields s → wrong_in s (field_bytes * f) ≡ None
  field-right f l = first-nothing (whole_fields s) (λ f. wrong_in s (field_bytes * f)) split.0 f l

  pub none_cut : length s ≡ field_bytes * whole_fields s
  unfolding cut_field
  none_cut = ⊎_elim (λ h. omega arith) (λ h. absurd (by (length s % field_bytes) h split.1)) (lt_or_le (length s % field_bytes) 1)
    where
      by : (r : ℕ) → 1 ≤ r → cond (eqb r 0) None (Some (field_bytes * whole_fields s)) ≡ None → ⊥
      by zero h e = omega arith
      by (suc r) h e = let t = ne_eqb (suc r) 0 (λ q. omega arith) in let z : ◌≡◌ {A = ℕ} 0 1 = cc in omega arith

  word-in : (f : ℕ) → f < whole_fields s → word (amounts_in s) f ≡ amount_at s (field_bytes * f)
  word-in f l = get_d_tabulate (whole_fields s) (λ f. amount_at s (field_bytes * f)) f (pos 0) l

  pub digits_in : (i : ℕ) → i < length (amounts_in s) → nat_abs (word (amounts_in s) i) ≤ most_amount
  digits_in i l =
      let b : i < whole_fields s = omega (arith, length-tabulate (whole_fields s) (λ f. amount_at s (field_bytes * f))) in
      rw (word-in i b) (amount-fits s (field_bytes * i) (field-right i b))

  pub same_bytes : s ≡ fields_of (amounts_in s)
  same_bytes =
      let n = length-tabulate (whole_fields s) (λ f. amount_at s (field_bytes * f)) in
      fields_of_lem s (amounts_in s) (none_cut ∙ ap (λ x. field_bytes * x) (sym n))
      (λ f l j b.
      let m : f < whole_fields s = omega (arith, n) in
      stands-right s (field_bytes * f) (field-right f m) j b ∙ ap (λ z. field_byte z j) (sym (word-in f m)))
