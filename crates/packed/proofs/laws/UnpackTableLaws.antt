-- What reading returns: the first check that strikes, and what was read. Rests on StatementLaws. Assumes nothing.
use Rattle.std.specs.Prelude.{◌≡◌, not, ◌&&◌, ◌||◌, leb, ltb, ℤ, pos, length, drop, Option, Some, None}
use Rattle.std.proofs.Math.Path.{refl, sym, ap}
use Rattle.std.proofs.Common.{◌∙◌, arith, drop_at}
use Rattle.std.proofs.Math.Bool.{Bool, true, false, cond}
use mathlib.Core.List.{List, [], ◌∷◌, ◌++◌, flat_map}
use Prim.Native.Nat.{ℕ, zero, suc, ◌+◌, ◌*◌, ◌/◌, ◌%◌, ◌≤◌, ◌<◌}
use borrow.Author.Tests.{lt-ltb, le-leb, leb-true, ne_eqb}
use Rattle.std.proofs.Math.Dec.{eqb}
use Rattle.std.proofs.Math.ListN.{get_or-append}
use Rattle.integer.specs.Below.{fold, all, first, or_else, turns, tabulate, Each}
use Rattle.integer.proofs.laws.BelowLaws.{and-true, get_d_tabulate, fold-front, or_else-right, or_else-assoc, length-tabulate, each_tabulate, each_append, each_flat}
use Rattle.integer.specs.Words.{word, filled}
use Rattle.rulebook.specs.Numbers.{outside_range, output_too_short, packed_field_wrong, checked}
use Rattle.rulebook.specs.Checks.{Check}
use Rattle.rulebook.proofs.laws.FirstCheckLaws.{first_or, first-append, first-none, first-shows, first_finds, first-clear}
use Rattle.rulebook.proofs.laws.TestLaws.{ltb-not, not_and, not_either, cond-not}
use Rattle.packed.specs.declared.UnpackReturned.{UnpackReturned}
use Rattle.packed.specs.Packed.{least_amounts, most_amounts, count_fits, field_bytes, half_at, sign_at, magnitude_at, amount_at, whole_fields, unless, wrong_digit, wrong_sign, negative_zero, wrong_in, cut_field, first_wrong, unpack_accepted, unpack_refused, Unpacked, judged_fields, unpack_call}
use Rattle.packed.specs.PackedTable.{Statement, digit_check, sign_check, zero_check, field_checks, cut_check, unpack_checks, UnpackTable}
use Rattle.packed.proofs.laws.StatementLaws.{amounts_in, digits_in}

unfoldable found_told : Option ℕ → UnpackReturned → UnpackReturned
found_told (Some p) a = unpack_refused packed_field_wrong p
found_told None a = a

told-or : (x y : Option ℕ) (a : UnpackReturned) → found_told (or_else x y) a ≡ found_told x (found_told y a)
unfolding found_told or_else
told-or (Some p) y a = refl
told-or None y a = refl

told-unless : (t : Bool) (p : ℕ) (a : UnpackReturned) → cond (not t) (unpack_refused packed_field_wrong p) a ≡ found_told (unless t p) a
unfolding found_told
told-unless true p a = refl
told-unless false p a = refl

told-where : (t : Bool) (p : ℕ) (a : UnpackReturned) → cond t (unpack_refused packed_field_wrong p) a ≡ found_told (unless (not t) p) a
unfolding found_told
told-where true p a = refl
told-where false p a = refl

-- lists of checks one after another
each_told : {B : Type 0} (n : ℕ) (g : ℕ → B) (cs : B → List Check) (w : ℕ → Option ℕ) → ((i : ℕ) (a : UnpackReturned) → first_or unpack_refused (cs (g i)) a ≡ found_told (w i) a)
    → (a : UnpackReturned) → first_or unpack_refused (flat_map cs (tabulate n g)) a ≡ found_told (first n w) a
unfolding flat_map tabulate
each_told zero g cs w h a = unfold first_or found_told fold in refl
each_told (suc n) g cs w h a =
    first-append unpack_refused (cs (g 0)) (flat_map cs (tabulate n (λ k. g (suc k)))) a
    ∙ h 0 _
    ∙ ap (found_told (w 0)) (each_told n (λ k. g (suc k)) cs (λ k. w (suc k)) (λ i. h (suc i)) a)
    ∙ sym (told-or (w 0) (first n (λ k. w (suc k))) a)
    ∙ ap (λ o. found_told o a) (sym (unfold or_else in fold-front or_else None (λ x. refl) or_else-right or_else-assoc n w))

singles : (n : ℕ) (g : ℕ → Check) → flat_map (λ c. c ∷ []) (tabulate n g) ≡ tabulate n g
unfolding flat_map tabulate
singles zero g = refl
singles (suc n) g = ap (λ l. g 0 ∷ l) (singles n (λ k. g (suc k)))

-- ---- Tests

some_is : (r : ℕ) → ltb 0 r ≡ not (eqb r 0)
some_is zero = refl
some_is (suc r) = rw (lt-ltb 0 (suc r) (omega arith), ne_eqb (suc r) 0 (λ e. omega arith))

both_zero : (m h : ℕ) → eqb (10 * m + h) 0 ≡ (eqb m 0 && eqb h 0)
both_zero zero h = let e : 10 * zero + h ≡ h = omega arith in rw e
both_zero (suc m) h = rw (ne_eqb (10 * suc m + h) 0 (λ e. omega arith), ne_eqb (suc m) 0 (λ e. omega arith))

-- digits spell 0 exactly if each is 0
spelled-zero : (h : ℕ → ℕ) (n : ℕ) → eqb (turns n (λ k m. 10 * m + h k) 0) 0 ≡ all n (λ k. eqb (h k) 0)
unfolding turns fold
spelled-zero h zero = refl
spelled-zero h (suc n) = both_zero (turns n (λ k m. 10 * m + h k) 0) (h n) ∙ ap (λ b. b && eqb (h n) 0) (spelled-zero h n)

-- ---- At a field, and after all

module _ (s : List ℕ) where
  digit-told : (f k : ℕ) (a : UnpackReturned) → first_or unpack_refused (digit_check s f k ∷ []) a ≡ found_told (wrong_digit s (8 * f) k) a
  unfolding first_or wrong_digit
  digit-told f k a = rw (ltb-not 9 (half_at s (8 * f) k)) (told-unless (leb (half_at s (8 * f) k) 9) (8 * f + k / 2) a)

  last-told : (f : ℕ) (a : UnpackReturned) → first_or unpack_refused (sign_check s f ∷ zero_check s f ∷ []) a ≡ found_told (or_else (wrong_sign s (8 * f)) (negative_zero s (8 * f))) a
  unfolding first_or wrong_sign negative_zero magnitude_at
  last-told f a =
      let h : ℕ = sign_at s (8 * f) in
      let z : Bool = eqb (turns 15 (λ k m. 10 * m + half_at s (8 * f) k) 0) 0 in
      let p : ℕ = 8 * f + 7 in
      let refused : UnpackReturned = unpack_refused packed_field_wrong p in
      ap (λ (b : Bool). cond b refused (cond (eqb h 13 && all 15 (λ k. eqb (half_at s (8 * f) k) 0)) refused a)) (not_either (eqb h 12) (eqb h 13))
      ∙ told-unless (eqb h 12 || eqb h 13) p _
      ∙ ap (found_told (unless (eqb h 12 || eqb h 13) p))
      (ap (λ (b : Bool). cond (eqb h 13 && b) refused a) (sym (spelled-zero (half_at s (8 * f)) 15)) ∙ told-where (eqb h 13 && z) p a)
      ∙ sym (told-or (unless (eqb h 12 || eqb h 13) p) (unless (not (eqb h 13 && z)) p) a)

  field_told : (f : ℕ) (a : UnpackReturned) → first_or unpack_refused (field_checks s f) a ≡ found_told (wrong_in s (8 * f)) a
  unfolding wrong_in
  field_told f a =
      first-append unpack_refused (tabulate 15 (digit_check s f)) (sign_check s f ∷ zero_check s f ∷ []) a
      ∙ ap (λ l. first_or unpack_refused l (first_or unpack_refused (sign_check s f ∷ zero_check s f ∷ []) a)) (sym (singles 15 (digit_check s f)))
      ∙ each_told 15 (digit_check s f) (λ c. c ∷ []) (wrong_digit s (8 * f)) (digit-told f) _
      ∙ ap (found_told (first 15 (wrong_digit s (8 * f)))) (last-told f a)
      ∙ sym (told-or _ _ a)

  cut-told : (a : UnpackReturned) → first_or unpack_refused (cut_check s ∷ []) a ≡ found_told (cut_field s) a
  unfolding first_or cut_field
  cut-told a = rw (some_is (length s % 8)) (told-unless (eqb (length s % 8) 0) (8 * (length s / 8)) a)

  wrong-told : (a : UnpackReturned) → first_or unpack_refused (flat_map (field_checks s) (tabulate (length s / 8) (λ f. f)) ++ (cut_check s ∷ [])) a ≡ found_told (first_wrong s) a
  unfolding first_wrong
  wrong-told a =
      first-append unpack_refused (flat_map (field_checks s) (tabulate (length s / 8) (λ f. f))) (cut_check s ∷ []) a
      ∙ each_told (length s / 8) (λ f. f) (field_checks s) (λ f. wrong_in s (8 * f)) field_told _
      ∙ ap (found_told (first (length s / 8) (λ f. wrong_in s (8 * f)))) (cut-told a)
      ∙ sym (told-or _ _ a)

  module _ (output : List ℤ) where
    -- what is returned, by the count, the room and what is wrong
    abbrev by_tests : Bool → Bool → Option ℕ → Unpacked
    by_tests t r o =
        checked t (record { returned = unpack_refused outside_range 0; output = output })
        (checked r (record { returned = unpack_refused output_too_short 0; output = output })
        (judged_fields s output o))

    returned-is : (t r : Bool) (o : Option ℕ) → (by_tests t r o).returned ≡ cond t (cond r (found_told o (unpack_accepted (whole_fields s))) (unpack_refused 10 0)) (unpack_refused 1 0)
    unfolding found_told
    returned-is true true (Some p) = refl
    returned-is true true None = refl
    returned-is true false o = refl
    returned-is false r o = refl

    outside-is : (w : ℕ) → (ltb w 2 || ltb 33 w) ≡ not (leb 2 w && leb w 33)
    outside-is w = rw (ltb-not w 2, ltb-not 33 w) (sym (not_and (leb 2 w) (leb w 33)))

    first-told : first_or unpack_refused (unpack_checks s output) (unpack_accepted (whole_fields s)) ≡ (unpack_call s output).returned
    unfolding first_or unpack_call
    first-told =
        rw (outside-is (length s / 8), ltb-not (length output) (length s / 8))
        (cond-not (count_fits (whole_fields s)) _ _
        ∙ ap (λ x. cond (count_fits (whole_fields s)) x (unpack_refused 1 0)) (cond-not (leb (whole_fields s) (length output)) _ _ ∙ ap (λ x. cond (leb (whole_fields s) (length output)) x (unpack_refused 10 0)) (wrong-told _))
        ∙ sym (returned-is (count_fits (whole_fields s)) (leb (whole_fields s) (length output)) (first_wrong s)))

    all_numbered : Each (λ c. 0 < c.number) (unpack_checks s output)
    all_numbered = (
      omega arith,
      (
        omega arith,
        each_append (λ c. 0 < c.number) (flat_map (field_checks s) (tabulate (length s / 8) (λ f. f))) (cut_check s ∷ [])
            (each_flat (λ c. 0 < c.number) (field_checks s) (λ f. each_append (λ c. 0 < c.number) (tabulate 15 (digit_check s f)) (sign_check s f ∷ zero_check s f ∷ []) (each_tabulate (λ c. 0 < c.number) 15 (digit_check s f) (λ k l. omega arith)) (omega arith, (omega arith, tt))) (tabulate (length s / 8) (λ f. f)))
            (omega arith, tt),
      ),
    )

    abbrev number_in : UnpackReturned → ℕ
    number_in r = r.number

    abbrev position_in : UnpackReturned → ℕ
    position_in r = r.position

    -- refused, nothing is written
    kept-where : (t r : Bool) (o : Option ℕ) (n p : ℕ) → 0 < n → (by_tests t r o).returned ≡ unpack_refused n p → (by_tests t r o).output ≡ output
    kept-where true true (Some q) n p h e = refl
    kept-where true true None n p h e = absurd (let z : 0 ≡ n = ap number_in e in omega arith)
    kept-where true false o n p h e = refl
    kept-where false r o n p h e = refl

    -- ---- What was read

    pub record Given : Type 0 where
      pub count : count_fits (whole_fields s) ≡ true
      pub room : whole_fields s ≤ length output
      pub right : first_wrong s ≡ None

    given-where : (t r : Bool) (o : Option ℕ) → count_fits (whole_fields s) ≡ t → leb (whole_fields s) (length output) ≡ r → first_wrong s ≡ o → (by_tests t r o).returned.number ≡ 0 → Given
    given-where true true (Some q) c g f e = absurd (omega arith)
    given-where true true None c g f e = record { count = c; room = leb-true (whole_fields s) (length output) g; right = f }
    given-where true false o c g f e = absurd (omega arith)
    given-where false r o c g f e = absurd (omega arith)

    pub unpack-given : (unpack_call s output).returned.number ≡ 0 → Given
    unfolding unpack_call
    unpack-given e = given-where (count_fits (whole_fields s)) (leb (whole_fields s) (length output)) (first_wrong s) refl refl refl e

    pub unpack-done : Given → unpack_call s output ≡ record { returned = unpack_accepted (whole_fields s); output = filled (whole_fields s) (λ f. amount_at s (field_bytes * f)) output }
    unfolding unpack_call
    unpack-done g = rw (g.count, le-leb (whole_fields s) (length output) g.room, g.right)

    word-placed : (unpack_call s output).returned.number ≡ 0 → (f : ℕ) → f < length s / 8 → word (unpack_call s output).output f ≡ amount_at s (8 * f)
    word-placed e f l =
        let n = length-tabulate (whole_fields s) (λ f. amount_at s (field_bytes * f)) in
        rw (unpack-done (unpack-given e)) (get_or-append (amounts_in s) _ (pos 0) f (omega (arith, n)) ∙ get_d_tabulate (whole_fields s) (λ f. amount_at s (field_bytes * f)) f (pos 0) l)

    words-beyond : (unpack_call s output).returned.number ≡ 0 → drop (length s / 8) (unpack_call s output).output ≡ drop (length s / 8) output
    words-beyond e =
        rw (unpack-done (unpack-given e))
        (drop_at (amounts_in s) (drop (whole_fields s) output) (whole_fields s) (length-tabulate (whole_fields s) (λ f. amount_at s (field_bytes * f))))

    -- ---- The table

    pub unpack-table : UnpackTable s output
    unfolding unpack_call
    unpack-table = record {
      refused = λ n p h. (
        (λ e. first_finds unpack_refused number_in position_in (λ n p. refl) (λ n p. refl) (unpack_accepted (whole_fields s)) refl (unpack_checks s output) n p h (first-told ∙ e)),
        (λ f. sym first-told ∙ first-shows unpack_refused (unpack_checks s output) (unpack_accepted (whole_fields s)) n p f),
      );
      read = (
        (λ e. first-clear unpack_refused number_in position_in (λ n p. refl) (λ n p. refl) (unpack_accepted (whole_fields s)) refl (unpack_checks s output) all_numbered (ap number_in (first-told ∙ e))),
        (λ f. sym first-told ∙ first-none unpack_refused (unpack_checks s output) (unpack_accepted (whole_fields s)) f),
      );
      placed = word-placed;
      beyond = words-beyond;
      kept = λ n p h e. kept-where (count_fits (whole_fields s)) (leb (whole_fields s) (length output)) (first_wrong s) n p h e;
    }

    -- ---- A statement

    pub given-statement : Given → Statement (amounts_in s)
    given-statement g =
        let n = length-tabulate (whole_fields s) (λ f. amount_at s (field_bytes * f)) in
        let c = and-true (leb least_amounts (whole_fields s)) (leb (whole_fields s) most_amounts) g.count in
        record {
          from = rw n (leb-true least_amounts (whole_fields s) c.0);
          to = rw n (leb-true (whole_fields s) most_amounts c.1);
          digits = digits_in s g.right;
        }
