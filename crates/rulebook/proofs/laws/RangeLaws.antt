-- Rows' words in range are data in range, by name. Assumes nothing.
use Rattle.std.specs.Prelude.{◌≡◌, ℕ, ◌+◌, ◌*◌, ◌%◌, ◌≤◌, ◌<◌, T, ℤ, nat_abs}
use Rattle.std.proofs.Common.{subst, arith}
use Rattle.rulebook.specs.declared.Section.{Section}
use Rattle.rulebook.specs.declared.Section.TheVariants.{Vesting, Meter}
use Rattle.rulebook.specs.declared.Kind.{Kind}
use Rattle.rulebook.specs.declared.Kind.TheVariants.{Quantity, Injection, Price}
use Rattle.rulebook.specs.Units.{most_quantity, most_load, most_price, in_range, positive, as_quantity}
use Rattle.rulebook.specs.Sections.{kind_of, value_in_range, accounts_of, Figure, BVQ, BVP, TVQ, TVP, MEP, IEQ, UEGQ, MQ, RVP1, RVP2, NccLoad, figure_section, figure_place}
use Rattle.rulebook.specs.Layout.{flag_index}
use Rattle.rulebook.specs.BookData.{Entries, entry_named, data_of}
use Rattle.rulebook.specs.Bounds.{SizedDay}
use Rattle.rulebook.proofs.laws.UnitsLaws.{quantity-range, load-range, price-range, injection-range}
use Rattle.rulebook.proofs.laws.TestLaws.{T-path}
use Rattle.rulebook.proofs.laws.RowWordLaws.{Usable}

-- the words of day d are in range
pub record RangedEntries (n : ℕ) (c : Entries) (d : ℕ) : Type 0 where
  pub ranged : (g : Figure) (a i : ℕ) → Usable g → a < accounts_of (figure_section g) n → i < 48 → T (value_in_range (figure_section g) (figure_place g) (entry_named c a d i g))
  pub few : (a i : ℕ) → a < n → i < 48 → positive (c Meter a d i (flag_index Meter)) ≤ 4

of_kind : (k k' : Kind) (z : ℤ) → k ≡ k' → T (in_range k z) → T (in_range k' z)
of_kind k k' z e t = subst (λ (y : Kind). T (in_range y z)) e t

quantity : (s : Section) (k : ℕ) (z : ℤ) → kind_of s k ≡ Quantity → T (value_in_range s k z) → as_quantity z ≤ most_quantity
quantity s k z e t = (quantity-range z (T-path (in_range Quantity z) (of_kind (kind_of s k) Quantity z e t))).most

price : (s : Section) (k : ℕ) (z : ℤ) → kind_of s k ≡ Price → T (value_in_range s k z) → nat_abs z ≤ most_price
price s k z e t = price-range z (T-path (in_range Price z) (of_kind (kind_of s k) Price z e t))

injection : (s : Section) (k : ℕ) (z : ℤ) → kind_of s k ≡ Injection → T (value_in_range s k z) → nat_abs z ≤ most_quantity
injection s k z e t = injection-range z (T-path (in_range Injection z) (of_kind (kind_of s k) Injection z e t))

-- pairs alternate
pub even : (k : ℕ) → k % 2 ≡ 0 → (kind_of Vesting k ≡ Quantity) × (kind_of Meter k ≡ Price)
even k e = (rw e, rw e)

odd : (k : ℕ) → k % 2 ≡ 1 → (kind_of Vesting k ≡ Price) × (kind_of Meter k ≡ Injection)
odd k e = (rw e, rw e)

module _ (n : ℕ) (c : Entries) (d : ℕ) (h : RangedEntries n c d) where
  pub data_sized : SizedDay n (data_of c) d
  data_sized a i ha hi = record {
    bvq = quantity Vesting 0 (entry_named c a d i BVQ) (even 0 (omega arith)).0 (h.ranged BVQ a i tt ha hi);
    bvp = price Vesting 1 (entry_named c a d i BVP) (odd 1 (omega arith)).0 (h.ranged BVP a i tt ha hi);
    tvq = λ t b. quantity Vesting (2 + 2 * t) (entry_named c a d i (TVQ t)) (even (2 + 2 * t) (omega arith)).0 (h.ranged (TVQ t) a i b ha hi);
    tvp = λ t b. price Vesting (3 + 2 * t) (entry_named c a d i (TVP t)) (odd (3 + 2 * t) (omega arith)).0 (h.ranged (TVP t) a i b ha hi);
    few = h.few a i ha hi;
    mep = λ f b. price Meter (2 * f) (entry_named c a d i (MEP f)) (even (2 * f) (omega arith)).1 (h.ranged (MEP f) a i b ha hi);
    ieq = λ f b. injection Meter (1 + 2 * f) (entry_named c a d i (IEQ f)) (odd (1 + 2 * f) (omega arith)).1 (h.ranged (IEQ f) a i b ha hi);
    uegq = (quantity-range (entry_named c a d i UEGQ) (T-path (in_range Quantity (entry_named c a d i UEGQ)) (h.ranged UEGQ a i tt ha hi))).most;
    mq = (quantity-range (entry_named c a d i MQ) (T-path (in_range Quantity (entry_named c a d i MQ)) (h.ranged MQ a i tt ha hi))).most;
    rvp1 = price-range (entry_named c a d i RVP1) (T-path (in_range Price (entry_named c a d i RVP1)) (h.ranged RVP1 a i tt ha hi));
    rvp2 = price-range (entry_named c a d i RVP2) (T-path (in_range Price (entry_named c a d i RVP2)) (h.ranged RVP2 a i tt ha hi));
  }

  pub load_sized : (i : ℕ) → i < 48 → (data_of c).load d i ≤ most_load
  load_sized i hi = (load-range (entry_named c 0 d i NccLoad) (T-path _ (h.ranged NccLoad 0 i tt (omega arith) hi))).most
