-- What is true of the rows of an accepted file. Assumes nothing.
use Rattle.std.specs.Prelude.{◌≡◌, refl, true, cond, List, ℕ, ◌+◌, ◌-◌, ◌*◌, ◌%◌, ◌≤◌, ◌<◌, pos, T, eqb, ltb, Ok}
use Rattle.std.proofs.Common.{sym, ap, ◌∙◌, subst, mul_assoc, mul_comm, arith}
use Rattle.std.proofs.Math.Arith.{digits_lt}
use Rattle.integer.specs.Below.{tabulate, Each}
use Rattle.integer.proofs.laws.BelowLaws.{get_d_tabulate, each_tabulate, each_append}
use Rattle.integer.specs.Words.{word}
use Rattle.rulebook.specs.declared.Section.{Section}
use Rattle.rulebook.specs.declared.Section.TheVariants.{Vesting, Meter, Residual, Ncc}
use Rattle.rulebook.specs.declared.Kind.{Kind}
use Rattle.rulebook.specs.declared.Kind.TheVariants.{Quantity, Price, Injection}
use Rattle.rulebook.specs.declared.Limits.{Limits}
use Rattle.rulebook.specs.Units.{in_range}
use Rattle.rulebook.specs.Sections.{accounts_of, per_interval, kind_of}
use Rattle.rulebook.specs.File.{Row, row_at, section_rows, file_rows, num, values_pos, values_in, count_at, account_at, value_at, row_pos, rows_in, meter_pos, residual_pos, ncc_pos}
use Rattle.rulebook.specs.Judging.{open_from, judged_section, judged}
use Rattle.rulebook.specs.Ledger.{RowRanged}
use Rattle.rulebook.proofs.laws.JudgingLaws.{Fine, section-row, sections}

-- what is true of a row of an accepted file
pub record Sound (l : Limits) (row : Row) : Type 0 where
  pub account : row.account < accounts_of row.section l.accounts
  pub early : open_from l row.section ≤ row.day
  pub late : row.day ≤ l.last
  pub ranged : RowRanged row

-- a value's kind goes by its place in the interval
even-turn : (i m k : ℕ) → (i * (2 * m) + k) % 2 ≡ k % 2
even-turn i m k =
    let e : i * (2 * m) ≡ 2 * (i * m) = sym (mul_assoc i 2 m) ∙ ap (λ (x : ℕ). x * m) (mul_comm i 2) ∙ mul_assoc 2 i m in
    rw e (omega arith)

pub kind-turn : (sec : Section) (c i k : ℕ) → kind_of sec (i * per_interval sec c + k) ≡ kind_of sec k
kind-turn Vesting c i k =
    let e : 2 + 2 * c ≡ 2 * (1 + c) = omega arith in
    let f : (i * (2 + 2 * c) + k) % 2 ≡ k % 2 = rw e (even-turn i (1 + c) k) in
    ap (λ (x : ℕ). cond (eqb x 0) Quantity Price) f
kind-turn Meter c i k = ap (λ (x : ℕ). cond (eqb x 0) Price Injection) (even-turn i c k)
kind-turn Residual c i k = let f : (i * 4 + k) % 4 ≡ k % 4 = omega arith in ap (λ (x : ℕ). cond (ltb x 2) Quantity Price) f
kind-turn Ncc c i k = refl

-- an accepted account is one of its section's
pub account-below : (n : ℕ) (sec : Section) (s : List ℕ) (at : ℕ) → 1 ≤ n → account_at sec s at ≤ n - 1 → account_at sec s at < accounts_of sec n
unfolding num
account-below n Vesting s at h l = omega arith
account-below n Meter s at h l = omega arith
account-below n Residual s at h l = omega arith
account-below n Ncc s at h l = omega arith

module _ (l : Limits) (some : 1 ≤ l.accounts) where
  row-sound : (sec : Section) (s : List ℕ) (at : ℕ) → Fine l sec s at → Sound l (row_at sec s at)
  row-sound sec s at h = record {
    account = account-below l.accounts sec s at some h.named.account.to;
    early = h.named.day.from;
    late = h.named.day.to;
    ranged = record {
      least = h.count.from;
      most = h.count.to;
      numbers = λ i k hi hk.
          let n : ℕ = per_interval sec (count_at sec s at) in
          let b : i * n + k < 48 * n = digits_lt hi hk in
          let e : word (tabulate (values_in sec s at) (λ j. value_at s (values_pos sec at + 4 * j))) (i * n + k) ≡ value_at s (values_pos sec at + 4 * (i * n + k))
          = get_d_tabulate (values_in sec s at) (λ j. value_at s (values_pos sec at + 4 * j)) (i * n + k) (pos 0) b in
          let r : in_range (kind_of sec (i * n + k)) (value_at s (values_pos sec at + 4 * (i * n + k))) ≡ true = (h.each (i * n + k) b).ranged in
          subst (λ (y : Kind). T (in_range y (word (tabulate (values_in sec s at) (λ j. value_at s (values_pos sec at + 4 * j))) (i * n + k)))) (kind-turn sec (count_at sec s at) i k)
          (rw e (subst T (sym r) tt));
    };
  }

  section-sound : (sec : Section) (s : List ℕ) (at : ℕ) → judged_section l sec s at ≡ (Ok tt) → Each (Sound l) (section_rows sec s at)
  unfolding section_rows
  section-sound sec s at e = each_tabulate (Sound l) (rows_in s at) _
      (λ i h. row-sound sec s (row_pos sec s (at + 2) i) (section-row l sec s at e i h).1)

  -- every row of an accepted file is one that the book can take
  pub file-sound : (s : List ℕ) → judged l s ≡ (Ok tt) → Each (Sound l) (file_rows s)
  unfolding file_rows
  file-sound s e =
      let a = sections l s e in
      each_append (Sound l) (section_rows Vesting s 0) _ (section-sound Vesting s 0 a.vesting)
      (each_append (Sound l) (section_rows Meter s (meter_pos s)) _ (section-sound Meter s (meter_pos s) a.meter)
      (each_append (Sound l) (section_rows Residual s (residual_pos s)) _ (section-sound Residual s (residual_pos s) a.residual)
      (section-sound Ncc s (ncc_pos s) a.ncc)))
