-- Document 01, "Shares and tranches": the share (RVQ) of the residual load R (003, 2.5.8.1), and document 02, P2: its second edition. Assumes nothing.
use Rattle.std.specs.Prelude.{cond, ◌||◌, ◌≡◌, ℕ, ◌+◌, ◌-◌, ◌*◌, ◌/◌, ◌≤◌, ◌<◌, min, eqb, ℤ, pos, ◌*ℤ◌}
use Rattle.std.specs.Int.Signed.{le_z}
use Rattle.integer.specs.Below.{sum_ℕ}
use Rattle.rulebook.specs.declared.Edition.{Edition}
use Rattle.rulebook.specs.declared.Edition.TheVariants.{First, Second}
use Rattle.rulebook.specs.Units.{most_quantity, positive}

-- a share call takes 1 to 32 accounts' UEGQ; R is from −leastResidual to mostResidual
abbrev pub most_accounts : ℕ
most_accounts = 32

abbrev pub least_residual : ℕ
least_residual = 1280000000

abbrev pub most_residual : ℕ
most_residual = 1000000000

-- S at most
abbrev pub most_spare : ℕ
most_spare = most_accounts * most_quantity

-- of R = r, where S = s, to an account with UEGQ u: 0 if R ≤ 0 or S = 0; UEGQ if R ≥ S; else a part
abbrev pub shared_or : ℤ → ℕ → ℕ → ℕ → ℕ
shared_or r s u part = cond (le_z r (pos 0) || eqb s 0) 0 (cond (le_z (pos s) r) u part)

-- R × u / S rounded down
abbrev pub part_of : ℤ → ℕ → ℕ → ℕ
part_of r s u = positive r * u / s

-- the share of an account with UEGQ u: the part is R × UEGQ / S rounded down
unfoldable pub share_of : ℤ → ℕ → ℕ → ℕ
share_of r s u = shared_or r s u (part_of r s u)

-- S, the sum of n accounts' UEGQ
abbrev pub spare_of : ℕ → (ℕ → ℕ) → ℕ
spare_of n uegq = sum_ℕ n uegq

-- the share of account a of n
unfoldable pub share : ℤ → ℕ → (ℕ → ℕ) → ℕ → ℕ
share r n uegq a = share_of r (spare_of n uegq) (uegq a)

-- ---- The second edition: accounts in ascending order have running sums of UEGQ

-- of the accounts before a
abbrev pub running_sum : (ℕ → ℕ) → ℕ → ℕ
running_sum uegq a = sum_ℕ a uegq

-- where that is `before`, the part is R × (running sum with it) / S rounded down, less R × (running sum before it) / S rounded down
unfoldable pub second_share_of : ℤ → ℕ → ℕ → ℕ → ℕ
second_share_of r s before u = shared_or r s u (part_of r s (before + u) - part_of r s before)

-- the share of account a of n
unfoldable pub second_share : ℤ → ℕ → (ℕ → ℕ) → ℕ → ℕ
second_share r n uegq a = second_share_of r (spare_of n uegq) (running_sum uegq a) (uegq a)

-- ---- By edition: of account a of n; and, as code has it, of an account with UEGQ u where the accounts before it have `before`

unfoldable pub edition_share : Edition → ℤ → ℕ → (ℕ → ℕ) → ℕ → ℕ
edition_share First r n uegq a = share r n uegq a
edition_share Second r n uegq a = second_share r n uegq a

unfoldable pub share_by : Edition → ℤ → ℕ → ℕ → ℕ → ℕ
share_by First r s before u = share_of r s u
share_by Second r s before u = second_share_of r s before u

-- ---- What the rule says of a share

-- q is not above the rule's Min{Max(R × UEGQ / S, 0), UEGQ}, for S above 0
pub record NotAbove (r : ℤ) (s u q : ℕ) : Type 0 where
  pub quotient : q * s ≤ positive (r *ℤ pos u)
  pub cap : q ≤ u

-- q is the rule's share rounded down: the greatest whole number not above it
pub record RuleShare (r : ℤ) (s u q : ℕ) : Type 0 where
  pub fits : NotAbove r s u q
  pub greatest : (p : ℕ) → NotAbove r s u p → p ≤ q

-- with S the spare generation and max(R, 0) the residual load: the shares q total at most each, and fall short of the smaller by fewer kWh
-- than there are accounts
pub record ShareTotal (q : ℕ → ℕ) (r : ℤ) (n : ℕ) (uegq : ℕ → ℕ) : Type 0 where
  pub spare : sum_ℕ n q ≤ spare_of n uegq
  pub residual : sum_ℕ n q ≤ positive r
  pub short : 0 < n → min (spare_of n uegq) (positive r) < sum_ℕ n q + n

-- the second edition's: the shares q total exactly the smaller of S and max(R, 0), none is above its UEGQ, and each is within 1 kWh of R × UEGQ / S, where
-- that is the rule; and any accounts from the first on get together what one account with all their UEGQ would get by the first edition
pub record EveryKwh (q : ℕ → ℕ) (r : ℤ) (n : ℕ) (uegq : ℕ → ℕ) : Type 0 where
  pub total : sum_ℕ n q ≡ min (spare_of n uegq) (positive r)
  pub cap : (a : ℕ) → q a ≤ uegq a
  pub below : 0 < positive r → positive r < spare_of n uegq → (a : ℕ) → positive r * uegq a < (q a + 1) * spare_of n uegq
  pub above : 0 < positive r → positive r < spare_of n uegq → (a : ℕ) → q a * spare_of n uegq < positive r * uegq a + spare_of n uegq
  pub together : (a : ℕ) → sum_ℕ a q ≡ share_of r (spare_of n uegq) (running_sum uegq a)
