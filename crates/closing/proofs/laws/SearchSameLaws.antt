-- The search by index finds what the rule book's search finds. Assumes nothing.
use Rattle.std.specs.Prelude.{◌≡◌, Bool, List, ℕ, ◌+◌, ◌<◌, ℤ, Some, None, is_some, unwrap_or, option_map}
use Rattle.std.proofs.Math.Path.{refl, ap}
use Rattle.std.proofs.Math.Bool.{true, false, cond}
use Rattle.std.proofs.Common.{arith}
use Rattle.std.proofs.Math.Dec.{T}
use Rattle.integer.proofs.laws.BelowLaws.{first_cong}
use Rattle.rulebook.specs.declared.Section.{Section}
use Rattle.rulebook.specs.declared.Section.TheVariants.{Meter, Residual}
use Rattle.rulebook.specs.declared.Terms.{Terms}
use Rattle.rulebook.specs.DayAmount.{settles_residual, residual_day}
use Rattle.rulebook.specs.Layout.{slot_start, row_word, flag_word, interval_length, account_place, flag_at}
use Rattle.rulebook.specs.Units.{intervals}
use Rattle.rulebook.specs.Close.{absent_at, absent_flag, missing_at, first_missing}
use Rattle.rulebook.specs.Demand3.{Needed, vesting_of, meter_of, ncc_of, residual_of}
use Rattle.rulebook.proofs.laws.SearchLaws.{searched-cong}
use Rattle.closing.specs.Search.{flag_in, flag_absent, absent_in, first_absent}
use Rattle.closing.specs.Slots.{settled_day, settled_start}
use Rattle.closing.proofs.laws.SlotsLaws.{slot-index, vesting-index, meter-index, residual-index}

module _ (o : Terms) (w : List ℤ) (D : ℕ) where
  -- where the slot of the day that is settled starts
  abbrev start : ℕ
  start = unwrap_or (settled_start o D) 0

  start_is : T (settles_residual o D) → start ≡ slot_start o (residual_day o D)
  unfolding settled_day
  start_is t = go (settles_residual o D) t
    where
      go : (b : Bool) → T b → unwrap_or (option_map (slot_start o) (cond b (Some (residual_day o D)) None)) 0 ≡ slot_start o (residual_day o D)
      go true x = refl
      go false x = absurd x

  due_is : is_some (settled_start o D) ≡ settles_residual o D
  unfolding settled_day
  due_is = go (settles_residual o D)
    where
      go : (b : Bool) → is_some (option_map (slot_start o) (cond b (Some (residual_day o D)) None)) ≡ b
      go true = refl
      go false = refl

  module _ (i : ℕ) (hi : i < intervals) where
    -- the index, as the code has it, of a flag that is needed
    flag_same : {s : Section} {a d : ℕ} → Needed o D s a d → flag_in (interval_length o.accounts) (slot_start o D) start i s a ≡ flag_word o s a d i
    flag_same (vesting_of {a = a} h) = omega (arith, slot-index o w D i (account_place a 0), vesting-index o w D a i h hi 0 (omega arith))
    flag_same (meter_of {a = a} h) = omega (arith, slot-index o w D i (account_place a (flag_at Meter + 0)), meter-index o w D a i h hi 0 (omega arith))
    flag_same (ncc_of t) = unfold row_word in rw (start_is t) (omega (arith, slot-index o w (residual_day o D) i 1))
    flag_same (residual_of {a = a} t h) =
        rw (start_is t) (omega (arith, slot-index o w (residual_day o D) i (account_place a (flag_at Residual + 0)), residual-index o w (residual_day o D) a i h hi 0 (omega arith)))

  pub search-same : first_absent w o.accounts (slot_start o D) (settled_start o D) ≡ first_missing o w D
  unfolding first_absent absent_in first_missing missing_at
  search-same =
      rw due_is (first_cong intervals _ _ (λ i hi. searched-cong o D (flag_absent w (interval_length o.accounts) (slot_start o D) start i) (absent_flag o w D i)
      (λ s a n. ap (absent_at w) (flag_same i hi n))))
