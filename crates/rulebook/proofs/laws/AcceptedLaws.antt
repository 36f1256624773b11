-- A file of bytes is accepted exactly if it is the file of proper rows. Assumes nothing.
use Rattle.std.specs.Prelude.{◌≡◌, refl, false, ◌&&◌, List, [], ◌∷◌, ◌++◌, ◌↔◌, ℕ, zero, suc, ◌+◌, ◌*◌, ◌-◌, ◌≤◌, ◌<◌, eqb, length, Ok}
use Rattle.std.proofs.Common.{subst, arith}
use Rattle.integer.specs.Below.{tabulate, Each}
use Rattle.integer.proofs.laws.BelowLaws.{length-tabulate, each_tabulate, each_append}
use Rattle.integer.proofs.laws.CountLaws.{any-each}
use Rattle.integer.proofs.laws.WordsLaws.{row_fits_lem}
use Rattle.rulebook.specs.declared.Section.{Section}
use Rattle.rulebook.specs.declared.Section.TheVariants.{Vesting, Meter, Residual, Ncc}
use Rattle.rulebook.specs.declared.Terms.{Terms}
use Rattle.rulebook.specs.Terms.{InTerms}
use Rattle.rulebook.specs.Sections.{least_count, most_count, per_interval, same_section}
use Rattle.rulebook.specs.File.{num, account_at, day_at, count_at, row_at, row_pos, rows_in, meter_pos, residual_pos, ncc_pos, figure_of}
use Rattle.rulebook.specs.Judging.{open_from, limits_of, given, judged_section, judged}
use Rattle.rulebook.proofs.laws.JudgingLaws.{Fine, section-row, sections}
use Rattle.rulebook.specs.NamedRows.{NamedRow, named, named_rows}
use Rattle.rulebook.specs.Encoding.{rows_of, encoded}
use Rattle.rulebook.specs.Proper.{Bytes, AccountOf, OpenDay, CountInRange, FigureInRange, Proper, same_key, Once, ProperRows}
use Rattle.rulebook.proofs.laws.SoundLaws.{kind-turn}
use Rattle.rulebook.proofs.laws.ListLaws.{each_both}
use Rattle.rulebook.proofs.laws.IntervalLaws.{figure_no, figure-table, is_figure, figure-at}
use Rattle.rulebook.proofs.laws.FigureRangeLaws.{in_range_lem}
use Rattle.rulebook.proofs.laws.SectionRowsLaws.{same_self, section_of, rows_are, of_rows}
use Rattle.rulebook.proofs.laws.WholeLaws.{byte_at, taken-whole}
use Rattle.rulebook.proofs.laws.EncodedFileLaws.{encoded-accepted}

-- ---- A row

account-of : (o : Terms) (sec : Section) (s : List ℕ) (p : ℕ) → 1 ≤ o.accounts → account_at sec s p ≤ o.accounts - 1 → AccountOf o sec (account_at sec s p)
unfolding num
account-of o Vesting s p some h = omega arith
account-of o Meter s p some h = omega arith
account-of o Residual s p some h = omega arith
account-of o Ncc s p some h = refl

count_of : (sec : Section) (n : ℕ) → least_count sec ≤ n → n ≤ most_count sec → CountInRange sec n
count_of Vesting n l h = h
count_of Meter n l h = (l, h)
count_of Residual n l h = omega arith
count_of Ncc n l h = omega arith

day-of : (o : Terms) (C : ℕ) (sec : Section) (d : ℕ) → 1 ≤ o.horizon → open_from (limits_of o C) sec ≤ d → d ≤ (limits_of o C).last → OpenDay o C sec d
day-of o C Vesting d one l h = (l, omega arith)
day-of o C Meter d one l h = (l, omega arith)
day-of o C Residual d one l h = (omega arith, omega arith, omega arith)
day-of o C Ncc d one l h = (omega arith, omega arith, omega arith)

row-proper : (o : Terms) (C : ℕ) (sec : Section) (s : List ℕ) (p : ℕ) → InTerms o → Fine (limits_of o C) sec s p → Proper o C (named (row_at sec s p))
row-proper o C sec s p terms f =
    record {
      account = account-of o sec s p terms.accounts_from f.named.account.to;
      day = day-of o C sec (day_at sec s p) terms.horizon_from f.named.day.from f.named.day.to;
      count = count_of sec (count_at sec s p) f.count.from f.count.to;
      ranges = λ h l.
          let n : ℕ = count_at sec s p in
          let w : ℕ = per_interval sec n in
          let b = row_fits_lem h 48 w l in
          rw (figure-table sec n)
          (each_tabulate (λ g. FigureInRange g (figure_of (row_at sec s p) h g)) w (figure_no sec)
          (λ k c.
          rw (figure-at sec s p h k l c)
          (in_range_lem (figure_no sec k) _ (rw (← (is_figure sec n k c).kind, ← kind-turn sec n h k) (f.each (h * w + k) (omega arith)).ranged))));
    }

-- ---- No key twice

not_given : (sec : Section) (s : List ℕ) (first i a d : ℕ) → given sec s first i a d ≡ false → (j : ℕ) → j < i
    → eqb (account_at sec s (row_pos sec s first j)) a && eqb (day_at sec s (row_pos sec s first j)) d ≡ false
unfolding given
not_given sec s first i a d e j l = any-each i _ e j l

once-table : (n : ℕ) (f : ℕ → NamedRow) → ((j i : ℕ) → j < i → i < n → same_key (f j) (f i) ≡ false) → Once (tabulate n f)
unfolding Once tabulate
once-table zero f h = tt
once-table (suc n) f h =
    (each_tabulate _ n _ (λ i l. h 0 (suc i) (omega arith) (omega arith)), once-table n (λ k. f (suc k)) (λ j i a b. h (suc j) (suc i) (omega arith) (omega arith)))

-- no key of xs is one of ys
Apart : List NamedRow → List NamedRow → Type 0
Apart xs ys = Each (λ x. Each (λ y. same_key x y ≡ false) ys) xs

once-append : (xs ys : List NamedRow) → Once xs → Once ys → Apart xs ys → Once (xs ++ ys)
unfolding Once Apart
once-append [] ys a b e = b
once-append (x ∷ xs) ys a b e = (each_append _ xs ys a.0 e.0, once-append xs ys a.1 b e.1)

apart-both : (xs ys zs : List NamedRow) → Apart xs ys → Apart xs zs → Apart xs (ys ++ zs)
unfolding Apart
apart-both xs ys zs e f = each_both _ _ _ xs (λ x a b. each_append _ ys zs a b) e f

two_bytes : (s : List ℕ) → Bytes s → (at : ℕ) → num 2 s at ≤ 65535
unfolding num
two_bytes s b at = let x = byte_at s b at in let y = byte_at s b (at + 1) in omega arith

-- ---- The rows of an accepted file

module _ (o : Terms) (terms : InTerms o) (C : ℕ) (s : List ℕ) where
  part-proper : (sec : Section) (at : ℕ) → judged_section (limits_of o C) sec s at ≡ (Ok tt) → Each (Proper o C) (section_of s sec at)
  unfolding section_of
  part-proper sec at e =
      each_tabulate _ (rows_in s at) _ (λ i l. row-proper o C sec s (row_pos sec s (at + 2) i) terms (section-row (limits_of o C) sec s at e i l).1)

  part-once : (sec : Section) (at : ℕ) → judged_section (limits_of o C) sec s at ≡ (Ok tt) → Once (section_of s sec at)
  unfolding section_of
  part-once sec at e =
      once-table (rows_in s at) _ (λ j i a b. rw (same_self sec) (not_given sec s (at + 2) i _ _ (section-row (limits_of o C) sec s at e i b).0 j a))

  apart : (a b : Section) (p q : ℕ) → same_section a b ≡ false → Apart (section_of s a p) (section_of s b q)
  unfolding section_of Apart
  apart a b p q e = each_tabulate _ (rows_in s p) _ (λ i l. each_tabulate _ (rows_in s q) _ (λ j m. rw e))

  pub rows-once : judged (limits_of o C) s ≡ (Ok tt) → Once (named_rows s)
  rows-once e =
      let p = sections (limits_of o C) s e in
      rw rows_are
      (once-append _ _ (part-once Vesting 0 p.vesting)
      (once-append _ _ (part-once Meter (meter_pos s) p.meter)
      (once-append _ _ (part-once Residual (residual_pos s) p.residual) (part-once Ncc (ncc_pos s) p.ncc) (apart Residual Ncc _ _ refl))
      (apart-both _ _ _ (apart Meter Residual _ _ refl) (apart Meter Ncc _ _ refl)))
      (apart-both _ _ _ (apart Vesting Meter _ _ refl) (apart-both _ _ _ (apart Vesting Residual _ _ refl) (apart Vesting Ncc _ _ refl))))

  rows_few : Bytes s → (sec : Section) → length (rows_of sec (named_rows s)) ≤ 65535
  unfolding section_of
  rows_few b Vesting = rw ((of_rows s).0, length-tabulate) (two_bytes s b 0)
  rows_few b Meter = rw ((of_rows s).1, length-tabulate) (two_bytes s b (meter_pos s))
  rows_few b Residual = rw ((of_rows s).2, length-tabulate) (two_bytes s b (residual_pos s))
  rows_few b Ncc = rw ((of_rows s).3, length-tabulate) (two_bytes s b (ncc_pos s))

  pub accepted-proper : Bytes s → judged (limits_of o C) s ≡ (Ok tt) → ProperRows o C (named_rows s)
  accepted-proper b e =
      let p = sections (limits_of o C) s e in
      let w = of_rows s in
      record {
        each =
            rw rows_are
            (each_append (Proper o C) (section_of s Vesting 0) _ (part-proper Vesting 0 p.vesting)
            (each_append (Proper o C) (section_of s Meter (meter_pos s)) _ (part-proper Meter (meter_pos s) p.meter)
            (each_append (Proper o C) (section_of s Residual (residual_pos s)) _ (part-proper Residual (residual_pos s) p.residual) (part-proper Ncc (ncc_pos s) p.ncc))));
        once = rows-once e;
        order = rw (w.0, w.1, w.2, w.3) (rows_are s);
        few = rows_few b;
      }

  pub accepted-exactly : Bytes s → (judged (limits_of o C) s ≡ (Ok tt)) ↔ ((rows : List NamedRow) × ProperRows o C rows × (encoded rows ≡ s))
  accepted-exactly b = (
    (λ e. (named_rows s, accepted-proper b e, taken-whole (limits_of o C) s b e)),
    (λ r. subst (λ l. judged (limits_of o C) l ≡ (Ok tt)) r.2 (encoded-accepted o terms C r.0 r.1).0),
  )
