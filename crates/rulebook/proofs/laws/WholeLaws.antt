-- Taken whole: the rows of an accepted file, written out, are the file. Rests on what an accepted section says of its rows (JudgingLaws). Assumes nothing.
use Rattle.std.specs.Prelude.{◌≡◌, refl, length, drop, Ok}
use Rattle.std.proofs.Common.{sym, ap, ◌∙◌, ⊎_elim, suc-mul, lt-ltb, le-ltb, drop_of_length-le}
use mathlib.Core.List.{List, [], ◌∷◌, ◌++◌, flat_map, append_assoc, append-nil}
use Prim.Native.Nat.{ℕ, zero, suc, ◌+◌, ◌*◌, ◌/◌, ◌%◌, ◌≤◌, ◌<◌}
use Rattle.std.proofs.Math.Numerals.{add-one}
use native.Mathlib.Omega.{arith}
use Rattle.std.proofs.Math.ListN.{get_or}
use Rattle.std.proofs.Math.Seq.{drop-cons}
use Rattle.integer.specs.Integer.{twos_complement}
use Rattle.integer.specs.Below.{tabulate}
use Rattle.integer.proofs.laws.BelowLaws.{lt_or_le, length-tabulate}
use Rattle.integer.proofs.laws.WordsLaws.{row_fits_lem}
use Rattle.rulebook.specs.declared.Section.{Section}
use Rattle.rulebook.specs.declared.Section.TheVariants.{Vesting, Meter, Residual, Ncc}
use Rattle.rulebook.specs.declared.Limits.{Limits}
use Rattle.rulebook.specs.Sections.{per_interval}
use Rattle.rulebook.specs.File.{num, signed32, value_at, values_pos, account_at, day_at, count_at, row_at, row_end, row_pos, rows_in, section_end, meter_pos, residual_pos, ncc_pos, figure_of}
use Rattle.rulebook.specs.Judging.{judged_section, judged}
use Rattle.rulebook.proofs.laws.JudgingLaws.{section-start, section-row, sections}
use Rattle.rulebook.specs.NamedRows.{named, named_rows}
use Rattle.rulebook.specs.Encoding.{bytes, twos, value_bytes, heading, interval_bytes, row_bytes, section_bytes, encoded}
use Rattle.rulebook.specs.Proper.{Bytes}
use Rattle.rulebook.proofs.laws.IntervalLaws.{figure_no, figure-table, figure-at}
use Rattle.rulebook.proofs.laws.SectionRowsLaws.{section_of, of_rows}
use Rattle.rulebook.proofs.laws.PositionLaws.{pos-zero, pos-suc, row-end}

-- ---- The file from `at` to `end` is xs

record Reads (s : List ℕ) (at : ℕ) (xs : List ℕ) (end : ℕ) : Type 0 where
  reads : xs ++ drop end s ≡ drop at s

reads_none : (s : List ℕ) (a : ℕ) → Reads s a [] a
reads_none s a = record { reads = refl }

reads_both : {s : List ℕ} {a b c : ℕ} {xs ys : List ℕ} → Reads s a xs b → Reads s b ys c → Reads s a (xs ++ ys) c
reads_both p q = record { reads = rw (append_assoc, q.reads) p.reads }

reads-to : {s : List ℕ} {a b c : ℕ} {xs : List ℕ} → b ≡ c → Reads s a xs b → Reads s a xs c
reads-to e p = rw e at p

reads_all : {s xs : List ℕ} {e : ℕ} → Reads s 0 xs e → length s ≤ e → xs ≡ s
reads_all {s = s} {xs = xs} {e = e} r h = sym (append-nil xs) ∙ ap (λ l. xs ++ l) (sym (drop_of_length-le s h)) ∙ r.reads

-- parts one after another: e 0, e 1, .. e n are their ends
reads-table {ℓ} : {A : Type ℓ} (s : List ℕ) (f : A → List ℕ) (n : ℕ) (g : ℕ → A) (e : ℕ → ℕ)
    → ((i : ℕ) → i < n → Reads s (e i) (f (g i)) (e (suc i))) → Reads s (e 0) (flat_map f (tabulate n g)) (e n)
unfolding flat_map tabulate
reads-table s f zero g e h = reads_none s (e 0)
reads-table s f (suc n) g e h =
    reads_both (h 0 (omega arith))
    (reads-table s f n (λ k. g (suc k)) (λ k. e (suc k)) (λ i l. h (suc i) (omega arith)))

-- ---- Fields

pub byte_at : (s : List ℕ) → Bytes s → (k : ℕ) → get_or s k 0 < 256
byte_at [] e k = omega arith
byte_at (b ∷ s) e zero = e.0
byte_at (b ∷ s) e (suc k) = byte_at s e.1 k

twos-signed : (n : ℕ) → n < 4294967296 → twos (signed32 n) ≡ n
unfolding twos twos_complement
twos-signed n h =
    ⊎_elim (λ l. rw (lt-ltb n 2147483648 l))
    (λ l. rw (le-ltb n 2147483648 l, lt-ltb n 4294967296 h) (omega arith))
    (lt_or_le n 2147483648)

module _ (s : List ℕ) (small : Bytes s) where
  reads-field : (n at : ℕ) → at + n ≤ length s → Reads s at (bytes n (num n s at)) (at + n)
  unfolding bytes num
  reads-field zero at h = let z : at + 0 ≡ at = omega arith in rw z (reads_none s at)
  reads-field (suc n) at h =
      let b = byte_at s small at in
      let low : (get_or s at 0 + 256 * num n s (at + 1)) % 256 ≡ get_or s at 0 = omega arith in
      let high : (get_or s at 0 + 256 * num n s (at + 1)) / 256 ≡ num n s (at + 1) = omega arith in
      let next : at + suc n ≡ (at + 1) + n = omega arith in
      record { reads = rw (low, high, next, (reads-field n (at + 1) (omega arith)).reads, drop-cons s at 0 (omega arith), add-one at) }

  value-small : (at : ℕ) → num 4 s at < 4294967296
  unfolding num
  value-small at =
      let a = byte_at s small at in
      let b = byte_at s small (at + 1) in
      let c = byte_at s small (at + 1 + 1) in
      let d = byte_at s small (at + 1 + 1 + 1) in
      omega arith

  reads-value : (at : ℕ) → at + 4 ≤ length s → Reads s at (value_bytes (value_at s at)) (at + 4)
  unfolding value_bytes value_at
  reads-value at h = rw (twos-signed (num 4 s at) (value-small at)) (reads-field 4 at h)

  -- ---- A row

  reads-heading : (sec : Section) (at : ℕ) → values_pos sec at ≤ length s → Reads s at (heading sec (account_at sec s at) (day_at sec s at) (count_at sec s at)) (values_pos sec at)
  unfolding heading
  reads-heading Vesting at h =
      reads_both (reads-field 1 at (omega arith)) (reads_both (reads-field 2 (at + 1) (omega arith)) (reads-field 1 (at + 1 + 2) h))
  reads-heading Meter at h =
      reads_both (reads-field 1 at (omega arith)) (reads_both (reads-field 2 (at + 1) (omega arith)) (reads-field 1 (at + 1 + 2) h))
  reads-heading Residual at h =
      let z : at + 1 + 2 ≡ at + 1 + 2 + 0 = omega arith in
      reads-to z (reads_both (reads-field 1 at (omega arith)) (reads-field 2 (at + 1) (omega arith)))
  reads-heading Ncc at h =
      let z : at + 0 ≡ at = omega arith in
      let y : at + 2 ≡ at + 2 + 0 = omega arith in
      rw z (reads-to y (reads-field 2 at (omega arith)))

  module _ (sec : Section) (at : ℕ) where
    abbrev many : ℕ
    many = per_interval sec (count_at sec s at)

    -- where interval h of the row starts
    abbrev starts : ℕ → ℕ
    starts h = values_pos sec at + 4 * (h * many)

    reads-interval : (h : ℕ) → h < 48 → row_end sec s at ≤ length s → Reads s (starts h) (interval_bytes (named (row_at sec s at)) h) (starts (suc h))
    unfolding interval_bytes row_end
    reads-interval h l room =
        let b = row_fits_lem h 48 many l in
        let z : starts h + 4 * 0 ≡ starts h = omega arith in
        let y : starts h + 4 * many ≡ starts (suc h) = rw (suc-mul h many) (omega arith) in
        rw (figure-table sec (count_at sec s at), ← y)
        (rw z at
        (reads-table s (λ g. value_bytes (figure_of (row_at sec s at) h g)) many (figure_no sec) (λ k. starts h + 4 * k)
        (λ k lk.
        let x : values_pos sec at + 4 * (h * many + k) ≡ starts h + 4 * k = omega arith in
        let w : starts h + 4 * k + 4 ≡ starts h + 4 * suc k = omega arith in
        rw (figure-at sec s at h k l lk, x, ← w) (reads-value (starts h + 4 * k) (omega arith)))))

    reads-row : row_end sec s at ≤ length s → Reads s at (row_bytes (named (row_at sec s at))) (row_end sec s at)
    unfolding row_bytes row_end
    reads-row room =
        let z : starts 0 ≡ values_pos sec at = omega arith in
        reads_both (reads-heading sec at (omega arith))
        (rw z at (reads-table s (interval_bytes (named (row_at sec s at))) 48 (λ i. i) starts (λ h l. reads-interval h l (unfold row_end in room))))

  -- ---- A section

  reads_section : (l : Limits) (sec : Section) (at : ℕ) → judged_section l sec s at ≡ (Ok tt) → Reads s at (section_bytes (section_of s sec at)) (section_end sec s at)
  unfolding section_bytes section_end section_of
  reads_section l sec at e =
      rw length-tabulate
      (reads_both (reads-field 2 at (section-start l sec s at e))
      (rw (pos-zero sec s (at + 2)) at
      (reads-table s row_bytes (rows_in s at) (λ i. named (row_at sec s (row_pos sec s (at + 2) i))) (row_pos sec s (at + 2))
      (λ i h. rw pos-suc (reads-row sec (row_pos sec s (at + 2) i) (row-end l sec s (row_pos sec s (at + 2) i) (section-row l sec s at e i h).1))))))

-- ---- The file

pub taken-whole : (l : Limits) (file : List ℕ) → Bytes file → judged l file ≡ (Ok tt) → encoded (named_rows file) ≡ file
unfolding encoded
taken-whole l s small e =
    let p = sections l s e in
    let o = of_rows s in
    let r = reads_both (reads_section s small l Vesting 0 p.vesting)
    (reads_both (reads_section s small l Meter (meter_pos s) p.meter)
    (reads_both (reads_section s small l Residual (residual_pos s) p.residual) (reads_section s small l Ncc (ncc_pos s) p.ncc))) in
    rw (o.0, o.1, o.2, o.3) (reads_all r p.ends)
