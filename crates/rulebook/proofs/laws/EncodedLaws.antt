-- The bytes of a proper row: the judge accepts them, and they say that row. Rests on FromLaws, and on the figures by number (IntervalLaws). Assumes nothing.
use Rattle.std.specs.Prelude.{◌≡◌, refl, length, Ok}
use Rattle.std.proofs.Common.{sym, ◌∙◌, suc-mul, arith, le-leb}
use Rattle.std.proofs.Math.Path.{ap}
use mathlib.Core.List.{List, ◌++◌, flat_map, append_assoc}
use Prim.Native.Nat.{ℕ, ◌+◌, ◌*◌, ◌-◌, ◌/◌, ◌%◌, ◌≤◌, ◌<◌}
use Rattle.integer.specs.Below.{tabulate}
use Rattle.integer.proofs.laws.BelowLaws.{each_tabulate}
use Rattle.integer.proofs.laws.WordsLaws.{row_of}
use Rattle.rulebook.specs.declared.Section.{Section}
use Rattle.rulebook.specs.declared.Section.TheVariants.{Vesting, Meter, Residual, Ncc}
use Rattle.rulebook.specs.declared.Terms.{Terms}
use Rattle.rulebook.specs.declared.Why.TheVariants.{OutOfRange, DayNotOpen}
use Rattle.rulebook.specs.Terms.{InTerms}
use Rattle.rulebook.specs.Sections.{least_count, most_count, per_interval}
use Rattle.rulebook.specs.File.{num, account_bytes, count_bytes, day_pos, count_pos, values_pos, account_at, day_at, count_at, value_at, row_at, row_end, figure_of}
use Rattle.rulebook.specs.Judging.{open_from, limits_of, value, key, rest}
use Rattle.rulebook.specs.NamedRows.{NamedRow, named}
use Rattle.rulebook.specs.Encoding.{bytes, value_bytes, heading, interval_bytes, row_bytes}
use Rattle.rulebook.specs.Proper.{AccountOf, OpenDay, CountInRange, FigureInRange, Proper, Alike}
use Rattle.rulebook.proofs.laws.SoundLaws.{kind-turn}
use Rattle.rulebook.proofs.laws.ListLaws.{each_of}
use Rattle.rulebook.proofs.laws.VerdictLaws.{up_all, field-fine}
use Rattle.rulebook.proofs.laws.IntervalLaws.{figure_no, figure-table, kind_of_figure, is_figure, figure-at}
use Rattle.rulebook.proofs.laws.FigureRangeLaws.{range_in, in_word}
use Rattle.rulebook.proofs.laws.FromLaws.{From, from_to, from_is, from_one, from_two, Stands, from_value, from_table}

-- ---- Account, day and count

from_heading : (s : List ℕ) (sec : Section) (a d c at : ℕ) (xs : List ℕ) (o : Terms) → o.accounts ≤ 32 → AccountOf o sec a → d < 65536 → CountInRange sec c
    → From s at (heading sec a d c ++ xs)
    → (account_at sec s at ≡ a) × (day_at sec s at ≡ d) × (count_at sec s at ≡ c) × From s (values_pos sec at) xs
unfolding heading num
from_heading s Vesting a d c at xs o few ha hd hc f =
    let x = from_one s a at _ (omega arith) (from_is (append_assoc (bytes 1 a) _ xs) f) in
    let y = from_two s d (at + 1) _ hd (from_is (append_assoc (bytes 2 d) _ xs) x.1) in
    let z = from_one s c (at + 1 + 2) xs (omega arith) y.1 in
    (x.0, y.0, z.0, z.1)
from_heading s Meter a d c at xs o few ha hd hc f =
    let x = from_one s a at _ (omega arith) (from_is (append_assoc (bytes 1 a) _ xs) f) in
    let y = from_two s d (at + 1) _ hd (from_is (append_assoc (bytes 2 d) _ xs) x.1) in
    let z = from_one s c (at + 1 + 2) xs (omega arith) y.1 in
    (x.0, y.0, z.0, z.1)
from_heading s Residual a d c at xs o few ha hd hc f =
    let x = from_one s a at _ (omega arith) (from_is (append_assoc (bytes 1 a) _ xs) f) in
    let y = from_two s d (at + 1) xs hd x.1 in
    (x.0, y.0, sym hc, from_to (omega arith) y.1)
from_heading s Ncc a d c at xs o few ha hd hc f =
    let e : at ≡ at + 0 = omega arith in
    let y = from_two s d (at + 0) xs hd (from_to e f) in
    (sym ha, y.0, sym hc, from_to (omega arith) y.1)

-- what is proper is within the judge's limits
account-within : (o : Terms) (sec : Section) (a : ℕ) → AccountOf o sec a → a ≤ o.accounts - 1
account-within o Vesting a h = omega arith
account-within o Meter a h = omega arith
account-within o Residual a h = omega arith
account-within o Ncc a h = omega arith

day-within : (o : Terms) (C : ℕ) (sec : Section) (d : ℕ) → OpenDay o C sec d → (open_from (limits_of o C) sec ≤ d) × (d ≤ (limits_of o C).last)
day-within o C Vesting d h = (h.0, omega arith)
day-within o C Meter d h = (h.0, omega arith)
day-within o C Residual d h = (omega arith, omega arith)
day-within o C Ncc d h = (omega arith, omega arith)

count-within : (sec : Section) (n : ℕ) → CountInRange sec n → (least_count sec ≤ n) × (n ≤ most_count sec)
count-within Vesting n h = (omega arith, h)
count-within Meter n h = h
count-within Residual n h = (omega arith, omega arith)
count-within Ncc n h = (omega arith, omega arith)

-- ---- A row

-- what the bytes of row r at `at`, with xs after them, make of the judge and of the form
pub record RowRead (o : Terms) (C : ℕ) (s : List ℕ) (at : ℕ) (sec : Section) (r : NamedRow) (xs : List ℕ) : Type 0 where
  pub keyed : key (limits_of o C) sec s at ≡ (Ok tt)
  pub rested : rest sec s at ≡ (Ok tt)
  pub alike : Alike (named (row_at sec s at)) r
  pub next : From s (row_end sec s at) xs

module _ (o : Terms) (terms : InTerms o) (C : ℕ) (s : List ℕ) (at : ℕ) (r : NamedRow) (p : Proper o C r) (xs : List ℕ) (f : From s at (row_bytes r ++ xs)) where
  abbrev many : ℕ
  many = per_interval r.section r.count

  abbrev values : ℕ
  values = values_pos r.section at

  headed : (account_at r.section s at ≡ r.account) × (day_at r.section s at ≡ r.day) × (count_at r.section s at ≡ r.count)
      × From s values (flat_map (interval_bytes r) (tabulate 48 (λ i. i)) ++ xs)
  unfolding row_bytes
  headed =
      from_heading s r.section r.account r.day r.count at _ o terms.accounts_to p.account (let l = (day-within o C r.section r.day p.day).1 in omega arith) p.count
      (from_is (append_assoc (heading r.section r.account r.day r.count) _ xs) f)

  ranged : (h k : ℕ) → h < 48 → k < many → FigureInRange (figure_no r.section k) (r.figure h (figure_no r.section k))
  ranged h k hh hk = each_of (λ g. FigureInRange g (r.figure h g)) many (figure_no r.section) (rw (figure-table r.section r.count) at (p.ranges h hh)) k hk

  -- each figure stands in its place
  standing : ((h : ℕ) → h < 48 → (k : ℕ) → k < many → Stands s (values + 4 * (h * many + k)) (r.figure h (figure_no r.section k))) × From s (values + 4 * (48 * many)) xs
  unfolding interval_bytes
  standing =
      from_table s (interval_bytes r) 48 (λ i. i) (λ h. values + 4 * (h * many)) _ xs
      (λ h ys hh w.
      let b = from_table s (λ g. value_bytes (r.figure h g)) many (figure_no r.section) (λ k. values + 4 * (h * many + k))
      (λ k. Stands s (values + 4 * (h * many + k)) (r.figure h (figure_no r.section k))) ys
      (λ k zs hk v.
      let g = range_in (figure_no r.section k) (r.figure h (figure_no r.section k)) (ranged h k hh hk) in
      let t = from_value s (r.figure h (figure_no r.section k)) (values + 4 * (h * many + k)) zs (in_word (kind_of_figure (figure_no r.section k)) _ g) v in
      (t.0, from_to (omega arith) t.1))
      (from_to (omega arith) (from_is (ap (λ l. flat_map (λ g. value_bytes (r.figure h g)) l ++ ys) (figure-table r.section r.count)) w)) in
      (b.0, from_to (rw (suc-mul h many) (omega arith)) b.1))
      (from_to (omega arith) headed.3)

  accepted-value : (k : ℕ) → k < 48 * many → value r.section s values k ≡ (Ok tt)
  unfolding value
  accepted-value n l =
      let q = row_of n 48 many l in
      let h : ℕ = n / many in
      let k : ℕ = n % many in
      let g = figure_no r.section k in
      let t : Stands s (values + 4 * n) (r.figure h g) = rw q.0 at (standing.0 h q.2 k q.1) in
      let c = rw q.0 at (kind-turn r.section r.count h k) in
      let d = (is_figure r.section r.count k q.1).kind in
      rw (le-leb (values + 4 * n + 4) (length s) t.room, t.is, c, d, range_in g (r.figure h g) (ranged h k q.2 q.1))

  pub row_read : RowRead o C s at r.section r xs
  unfolding key rest row_end
  row_read =
      let sec : Section = r.section in
      let b = headed in
      let room = b.3.inside in
      let d = day-within o C sec r.day p.day in
      let c = count-within sec r.count p.count in
      record {
        keyed =
            let a = account-within o sec r.account p.account in
            let x = field-fine (account_bytes sec) 0 (o.accounts - 1) OutOfRange s at (omega arith) (omega arith) (rw b.0 a) in
            let y = field-fine 2 (open_from (limits_of o C) sec) (limits_of o C).last DayNotOpen s (day_pos sec at) (omega arith) (rw b.1 d.0) (rw b.1 d.1) in
            rw (x, y);
        rested =
            rw (field-fine (count_bytes sec) (least_count sec) (most_count sec) OutOfRange s (count_pos sec at) room (rw b.2 c.0) (rw b.2 c.1), b.2)
            (up_all (48 * many) _ accepted-value);
        alike =
            record {
              section = refl;
              account = b.0;
              day = b.1;
              count = b.2;
              figure = λ h hh. rw (figure-table sec r.count) (each_tabulate (λ g. figure_of (row_at sec s at) h g ≡ r.figure h g) many (figure_no sec)
                  (λ k hk. figure-at sec s at h k hh (rw b.2 hk) ∙ ap (λ n. value_at s (values + 4 * (h * per_interval sec n + k))) b.2 ∙ (standing.0 h hh k hk).is));
            };
        next = rw b.2 standing.1;
      }
