-- A statement written and read is the same amounts; accepted fields read and written are the same bytes. Assumes nothing.
use Rattle.std.specs.Prelude.{◌≡◌, refl, true, List, ◌++◌, ℕ, ◌+◌, ◌*◌, ◌≤◌, ◌<◌, ℤ, pos, length, get_or, take, drop, None}
use Rattle.std.proofs.Common.{sym, ap, ◌∙◌, arith, le-leb, ext_get_or}
use Rattle.std.proofs.Math.Seq.{take-append_seam}
use Rattle.integer.specs.Below.{tabulate}
use Rattle.integer.proofs.laws.BelowLaws.{length-tabulate, tabulate-of}
use Rattle.packed.specs.Packed.{least_amounts, most_amounts, count_fits, field_bytes, field, field_byte, fields_of, whole_fields, amount_at, wrong_in, pack_call, unpack_accepted, unpack_call}
use Rattle.packed.specs.PackedTable.{Statement, ReadExactly, WrittenRead, ReadWritten, OneField}
use Rattle.packed.proofs.laws.FieldLaws.{Stands, amount-read, right_read, stands-right}
use Rattle.packed.proofs.laws.StatementLaws.{length-field, field_at, length_fields, whole_fields_lem, amounts-read, fields_right, amounts_in, none_cut, same_bytes}
use Rattle.packed.proofs.laws.PackTableLaws.{pack-done, pack-given}
use Rattle.packed.proofs.laws.UnpackTableLaws.{unpack-given, unpack-done, given-statement}

-- the fields of a statement, with room for its amounts, are read as these
pub fields_read : (amounts : List ℤ) (output : List ℤ) → Statement amounts → length amounts ≤ length output
    → unpack_call (fields_of amounts) output ≡ record { returned = unpack_accepted (length amounts); output = amounts ++ drop (length amounts) output }
fields_read amounts output st room =
    let w = whole_fields_lem amounts st.digits in
    let t : amounts ≡ tabulate (length amounts) (λ f. amount_at (fields_of amounts) (field_bytes * f)) =
    tabulate-of (pos 0) amounts (length amounts) (λ f. amount_at (fields_of amounts) (field_bytes * f)) refl (λ k b. sym (amounts-read amounts st.digits k b)) in
    let c : count_fits (whole_fields (fields_of amounts)) ≡ true = rw (w, le-leb least_amounts (length amounts) st.from, le-leb (length amounts) most_amounts st.to) in
    unpack-done (fields_of amounts) output (record { count = c; room = omega (arith, w); right = fields_right amounts st.digits })
    ∙ rw (w, ← t)

pub written_read : (amounts : List ℤ) (bytes : List ℕ) (output : List ℤ) → WrittenRead amounts bytes output
written_read amounts bytes output e room =
    let g = pack-given amounts bytes e in
    let l = length_fields amounts in
    let k : take (field_bytes * length amounts) (pack_call amounts bytes).output ≡ fields_of amounts =
    rw (pack-done amounts bytes g.0 g.1, ← l) (take-append_seam (fields_of amounts) _) in
    ap (λ s. unpack_call s output) k ∙ fields_read amounts output g.0 room

pub read-written : (s : List ℕ) (output : List ℤ) (bytes : List ℕ) → ReadWritten s output bytes
read-written s output bytes e room =
    let g = unpack-given s output e in
    let n = length-tabulate (whole_fields s) (λ f. amount_at s (field_bytes * f)) in
    let c = none_cut s g.right in
    let d = unpack-done s output g in
    let k : take (unpack_call s output).returned.count (unpack_call s output).output ≡ amounts_in s = rw d (ap (λ m. take m (amounts_in s ++ drop (whole_fields s) output)) (sym n) ∙ take-append_seam (amounts_in s) _) in
    let m : field_bytes * length (amounts_in s) ≡ length s = omega arith in
    ap (λ xs. pack_call xs bytes) k ∙ pack-done (amounts_in s) bytes (given-statement s output g) (omega arith) ∙ rw (m, ← same_bytes s g.right)

pub read-exactly : (s : List ℕ) (output : List ℤ) → ReadExactly s output
read-exactly s output = (
  (λ e.
      let g = unpack-given s output e in
      let n = length-tabulate (whole_fields s) (λ f. amount_at s (field_bytes * f)) in
      (amounts_in s, given-statement s output g, omega (arith, n, g.room), sym (same_bytes s g.right))),
  (λ r. rw (← r.3, fields_read r.0 output r.1 r.2)),
)

pub one_field : OneField
one_field = record { of_amount = of_amount; right = λ z fits. (right_read (field z) 0 z (alone z) fits, amount-read (field z) 0 z (alone z) fits); of_fields = of_fields }
  where
    from_zero : (s : List ℕ) (j : ℕ) → get_or s (0 + j) 0 ≡ get_or s j 0
    from_zero s j = let e : 0 + j ≡ j = omega arith in rw e

    alone : (z : ℤ) → Stands (field z) 0 z
    alone z j l = from_zero (field z) j ∙ field_at z j l

    of_amount : (s : List ℕ) (z : ℤ) → length s ≡ 8 → wrong_in s 0 ≡ None → amount_at s 0 ≡ z → s ≡ field z
    of_amount s z l r e =
        ext_get_or 0 s (field z) (l ∙ sym (length-field z))
        (λ j b. let h : j < field_bytes = omega arith in sym (from_zero s j) ∙ stands-right s 0 r j h ∙ ap (λ z. field_byte z j) e ∙ sym (field_at z j h))

    of_fields : (amounts others : List ℤ) → Statement amounts → Statement others → fields_of amounts ≡ fields_of others → amounts ≡ others
    of_fields amounts others a b e =
        let n : length amounts ≡ length others = omega (arith, length_fields amounts, length_fields others, ap length e) in
        ext_get_or (pos 0) amounts others n
        (λ k l.
        sym (amounts-read amounts a.digits k l)
        ∙ ap (λ s. amount_at s (field_bytes * k)) e
        ∙ amounts-read others b.digits k (omega (arith, n)))
