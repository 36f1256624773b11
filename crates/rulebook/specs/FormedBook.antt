-- Document 01, "The book": well formed, said in its own figures (document 02, P2: word 7; P5: word 8); FormedBookLaws joins it with the test. Assumes nothing.
use Rattle.std.specs.Prelude.{◌≡◌, ◌≢◌, List, ℕ, ◌+◌, ◌-◌, ◌*◌, ◌≤◌, ◌<◌, ℤ, pos, nat_abs, length, ◌≤ℤ◌}
use Rattle.integer.specs.Integer.{minus}
use Rattle.integer.specs.Words.{word}
use Rattle.rulebook.specs.declared.Terms.{Terms}
use Rattle.rulebook.specs.Terms.{InTerms}
use Rattle.rulebook.specs.Layout.{ring, slot, window_from, window_to}

-- a day of the window, C being the next day to close
pub record WindowDay (o : Terms) (C d : ℕ) : Type 0 where
  pub from : window_from o C ≤ d
  pub to : d ≤ window_to o C

-- slot v is of one day of the window, or of none
pub data SlotDay (o : Terms) (C v : ℕ) : Type 0 where
  of_day : (d : ℕ) → WindowDay o C d → slot o d ≡ v → ((d' : ℕ) → WindowDay o C d' → slot o d' ≡ v → d' ≡ d) → SlotDay o C v
  of_none : ((d : ℕ) → WindowDay o C d → slot o d ≡ v → ⊥) → SlotDay o C v

-- ---- An interval's words

-- at least low, at most high
pub record Within (low high z : ℤ) : Type 0 where
  pub least : low ≤ℤ z
  pub most : z ≤ℤ high

-- kWh, cents per MWh, kWh either way, kWh of all consumers
abbrev pub IsQuantity : ℤ → Type 0
IsQuantity z = Within (pos 0) (pos 10000000) z

abbrev pub IsPrice : ℤ → Type 0
IsPrice z = Within (minus 1000000) (pos 1000000) z

abbrev pub IsInjection : ℤ → Type 0
IsInjection z = Within (minus 10000000) (pos 10000000) z

abbrev pub IsLoad : ℤ → Type 0
IsLoad z = Within (pos 0) (pos 1000000000) z

-- a flag of 0 to 4, then four pairs of figures: as many as the flag says are in range, the others zero. Vesting: BVQ and BVP, then TVQ and TVP, the flag
-- 1 + tranches; meter: MEP and IEQ, the flag the facilities; 0 if absent
pub record PairsFormed (First Second : ℤ → Type 0) (f : ℕ → ℤ) : Type 0 where
  pub count : ℕ
  pub flag : f 0 ≡ pos count
  pub few : count ≤ 4
  pub there : (k : ℕ) → k < count → First (f (1 + 2 * k)) × Second (f (2 + 2 * k))
  pub zeros : (k : ℕ) → count ≤ k → k < 4 → (f (1 + 2 * k) ≡ pos 0) × (f (2 + 2 * k) ≡ pos 0)

-- a flag, UEGQ, MQ, RVP1, RVP2
pub data ResidualFormed (f : ℕ → ℤ) : Type 0 where
  residual_absent : ((j : ℕ) → j < 5 → f j ≡ pos 0) → ResidualFormed f
  residual_there : f 0 ≡ pos 1 → IsQuantity (f 1) → IsQuantity (f 2) → IsPrice (f 3) → IsPrice (f 4) → ResidualFormed f

-- load, flag
pub data NccFormed (f : ℕ → ℤ) : Type 0 where
  ncc_absent : f 0 ≡ pos 0 → f 1 ≡ pos 0 → NccFormed f
  ncc_there : IsLoad (f 0) → f 1 ≡ pos 1 → NccFormed f

-- the 4 + 24n words of an interval with n accounts
pub record IntervalFormed (n : ℕ) (f : ℕ → ℤ) : Type 0 where
  pub ncc : NccFormed f
  pub padding : (f 2 ≡ pos 0) × (f 3 ≡ pos 0)
  pub vesting : (a : ℕ) → a < n → PairsFormed IsQuantity IsPrice (λ j. f (4 + 24 * a + j))
  pub meter : (a : ℕ) → a < n → PairsFormed IsPrice IsInjection (λ j. f (13 + 24 * a + j))
  pub residual : (a : ℕ) → a < n → ResidualFormed (λ j. f (22 + 24 * a + j))
  pub last : (a : ℕ) → a < n → f (27 + 24 * a) ≡ pos 0

-- ---- The window

-- word m of interval i of slot v
abbrev pub slot_word : Terms → List ℤ → ℕ → ℕ → ℕ → ℤ
slot_word o w v i m = word w (64 + 8 * o.accounts + ((v * 48 + i) * (4 + 24 * o.accounts) + m))

-- each interval of day d by itself; before C the vesting and meter flags of every account and interval are not zero
pub record DayFormed (o : Terms) (w : List ℤ) (C d : ℕ) : Type 0 where
  pub each : (i : ℕ) → i < 48 → IntervalFormed o.accounts (slot_word o w (slot o d) i)
  pub closed : d < C → (i a : ℕ) → i < 48 → a < o.accounts → (slot_word o w (slot o d) i (4 + 24 * a) ≢ pos 0) × (slot_word o w (slot o d) i (13 + 24 * a) ≢ pos 0)

-- the days of the window, and zeros in every slot of none of them
pub record DaysFormed (o : Terms) (w : List ℤ) (C : ℕ) : Type 0 where
  pub each : (d : ℕ) → WindowDay o C d → DayFormed o w C d
  pub others : (v : ℕ) → v < ring o → ((d : ℕ) → WindowDay o C d → slot o d ≡ v → ⊥) → (i m : ℕ) → i < 48 → m < 4 + 24 * o.accounts → slot_word o w v i m ≡ pos 0

-- ---- The book

-- a book with these terms, C the next day to close
pub record FormedBook (o : Terms) (C : ℕ) (w : List ℤ) : Type 0 where
  pub long : 64 + 8 * o.accounts + 48 * (o.lag + o.horizon) * (4 + 24 * o.accounts) ≤ length w
  pub mark : word w 0 ≡ pos 395
  pub accounts : word w 1 ≡ pos o.accounts
  pub lag : word w 2 ≡ pos o.lag
  pub horizon : word w 3 ≡ pos o.horizon
  pub first : word w 4 ≡ pos o.first
  pub next : word w 5 ≡ pos C
  pub mssl : nat_abs (word w 6) ≤ o.accounts * ((C - o.first) * 4800000000000)
  pub change : word w 7 ≡ pos o.change
  pub differences : nat_abs (word w 8) ≤ 500 * o.accounts * (C - o.first)
  pub header_zeros : (n : ℕ) → 9 ≤ n → n < 64 → word w n ≡ pos 0
  pub balances : (a : ℕ) → a < o.accounts → nat_abs (word w (64 + 8 * a)) ≤ (C - o.first) * 4800000000000
  pub balance_zeros : (a j : ℕ) → a < o.accounts → 1 ≤ j → j < 8 → word w (64 + 8 * a + j) ≡ pos 0
  pub terms : InTerms o
  pub begun : o.first ≤ C
  pub ended : C ≤ 36525
  pub days : DaysFormed o w C
