-- Data by name: of words that agree, and of the rows in force. Assumes nothing.
use Rattle.std.specs.Prelude.{◌≡◌, refl, ℕ, zero, ◌≤◌, ◌<◌, ℤ, pos, T, Option, Some, None}
use Rattle.std.proofs.Common.{ap, subst, arith}
use Rattle.rulebook.specs.declared.Section.{Section}
use Rattle.rulebook.specs.declared.Section.TheVariants.{Meter}
use Rattle.rulebook.specs.declared.Terms.{Terms}
use Rattle.rulebook.specs.Units.{positive, as_quantity}
use Rattle.rulebook.specs.Sections.{accounts_of, most_count, value_in_range, figure_section, figure_place}
use Rattle.rulebook.specs.Layout.{width, present, flag_index, figure_index}
use Rattle.rulebook.specs.BookData.{Entries, data_of, entry_named}
use Rattle.rulebook.specs.File.{Row, Figure, BVQ, BVP, TVQ, TVP, MEP, IEQ, UEGQ, MQ, RVP1, RVP2, NccLoad, figure_section, figure_place, number_of}
use Rattle.rulebook.specs.Submit.{entry}
use Rattle.rulebook.specs.History.{RowsInForce, figure_in, count_in, data_in_force}
use Rattle.rulebook.specs.Ledger.{entry_of, entries_in, Kept, RowRanged}
use Rattle.rulebook.proofs.laws.AmountLaws.{Agree}
use Rattle.rulebook.proofs.laws.RowWordLaws.{Usable, figure-word, flag-inside}
use Rattle.rulebook.proofs.laws.KeptLaws.{zero-ranged, number-ranged, entry-flag, own-figure, entry-figure}
use Rattle.rulebook.proofs.laws.RangeLaws.{RangedEntries}

-- words that agree on day d, with few facilities, agree by name
pub data_agree : (n : ℕ) (c c' : Entries) (d : ℕ) → zero < n → ((s : Section) (a i j : ℕ) → a < accounts_of s n → i < 48 → j < width s → c s a d i j ≡ c' s a d i j)
    → ((a i : ℕ) → a < n → i < 48 → positive (c Meter a d i (flag_index Meter)) ≤ 4) → Agree n (data_of c) (data_of c') d
data_agree n c c' d p e few = record {
  accounts = λ a i ha hi. record {
    bvq = ap as_quantity (named BVQ a i tt ha hi);
    bvp = named BVP a i tt ha hi;
    tvq = λ t h. ap as_quantity (named (TVQ t) a i h ha hi);
    tvp = λ t h. named (TVP t) a i h ha hi;
    facilities = ap positive (e Meter a i (flag_index Meter) ha hi (flag-inside Meter));
    few = few a i ha hi;
    mep = λ f h. named (MEP f) a i h ha hi;
    ieq = λ f h. named (IEQ f) a i h ha hi;
    uegq = ap as_quantity (named UEGQ a i tt ha hi);
    mq = ap as_quantity (named MQ a i tt ha hi);
    rvp1 = named RVP1 a i tt ha hi;
    rvp2 = named RVP2 a i tt ha hi;
  };
  loads = λ i hi. ap as_quantity (named NccLoad 0 i tt (omega arith) hi);
}
  where
    named : (g : Figure) (a i : ℕ) → Usable g → a < accounts_of (figure_section g) n → i < 48 → entry_named c a d i g ≡ entry_named c' a d i g
    named g a i u ha hi = e (figure_section g) a i (figure_index g) ha hi (figure-word g u).inside

module _ (o : Terms) (k : ℕ) (rows : RowsInForce) (balance : ℕ → ℤ) (q : Kept o k rows balance) (d : ℕ) where
  -- a word of a row in force is its figure of that name
  figure-entry : (g : Figure) (a i : ℕ) → Usable g → entry_named (entries_in rows) a d i g ≡ figure_in (rows (figure_section g) a d) i g
  figure-entry g a i u = go (rows (figure_section g) a d) (q.section (figure_section g) a d)
    where
      go : (x : Option Row) → ((r : Row) → x ≡ Some r → r.section ≡ figure_section g) → entry_of x i (figure_index g) ≡ figure_in x i g
      go None f = refl
      go (Some r) f = entry-figure r i g u (f r refl)

  count-entry : (a i : ℕ) → positive (entries_in rows Meter a d i (flag_index Meter)) ≡ count_in (rows Meter a d)
  count-entry a i = go (rows Meter a d) (q.section Meter a d)
    where
      go : (x : Option Row) → ((r : Row) → x ≡ Some r → r.section ≡ Meter) → positive (entry_of x i (flag_index Meter)) ≡ count_in x
      go None f = refl
      go (Some r) f = ap as_quantity (subst (λ (y : Section). entry r i (flag_index y) ≡ pos (present y r.count)) (f r refl) (entry-flag r i))

  -- the words of the rows in force are in range
  pub rows-ranged : RangedEntries o.accounts (entries_in rows) d
  rows-ranged = record {
    ranged = λ g a i u ha hi. rw (figure-entry g a i u) (ranged g i hi (rows (figure_section g) a d) (q.section (figure_section g) a d) (q.ranged (figure_section g) a d));
    few = λ a i ha hi. rw (count-entry a i) (few (rows Meter a d) (q.section Meter a d) (q.ranged Meter a d));
  }
    where
      ranged : (g : Figure) (i : ℕ) → i < 48 → (x : Option Row) → ((r : Row) → x ≡ Some r → r.section ≡ figure_section g) → ((r : Row) → x ≡ Some r → RowRanged r)
          → T (value_in_range (figure_section g) (figure_place g) (figure_in x i g))
      ranged g i hi None f h = zero-ranged (figure_section g) (figure_place g)
      ranged g i hi (Some r) f h =
          let e = f r refl in
          rw (own-figure r i g e) (subst (λ (y : Section). T (value_in_range y (figure_place g) (number_of r i (figure_place g)))) e (number-ranged r (h r refl) i (figure_place g) hi))

      few : (x : Option Row) → ((r : Row) → x ≡ Some r → r.section ≡ Meter) → ((r : Row) → x ≡ Some r → RowRanged r) → count_in x ≤ 4
      few None f g = omega arith
      few (Some r) f g = subst (λ (y : Section). r.count ≤ most_count y) (f r refl) (g r refl).most

  -- the rows' words by name are the rows' data
  pub rows_agree : Agree o.accounts (data_of (entries_in rows)) (data_in_force rows) d
  rows_agree = record {
    accounts = λ a i ha hi. record {
      bvq = ap as_quantity (figure-entry BVQ a i tt);
      bvp = figure-entry BVP a i tt;
      tvq = λ t h. ap as_quantity (figure-entry (TVQ t) a i h);
      tvp = λ t h. figure-entry (TVP t) a i h;
      facilities = count-entry a i;
      few = rows-ranged.few a i ha hi;
      mep = λ f h. figure-entry (MEP f) a i h;
      ieq = λ f h. figure-entry (IEQ f) a i h;
      uegq = ap as_quantity (figure-entry UEGQ a i tt);
      mq = ap as_quantity (figure-entry MQ a i tt);
      rvp1 = figure-entry RVP1 a i tt;
      rvp2 = figure-entry RVP2 a i tt;
    };
    loads = λ i hi. ap as_quantity (figure-entry NccLoad 0 i tt);
  }
