-- Laws of fields, read and judged, and of checks in order. Assumes nothing.
use Rattle.std.specs.Prelude.{◌≡◌, refl, List, ℕ, ◌+◌, ◌≤◌, ◌<◌, Ok, Err}
use borrow.Author.Tests.{lt-leb, le-leb}
use Rattle.integer.proofs.laws.BelowLaws.{fold-zero, fold-suc, fold-stop}
use Rattle.rulebook.specs.declared.Refusal.{Refusal}
use Rattle.rulebook.specs.declared.Why.{Why}
use Rattle.rulebook.specs.File.{num}
use Rattle.rulebook.specs.Judging.{Verdict, ◌and_then◌, whole, up_to, number_in, field_in}
use Rattle.files.specs.Outcome.{outcome, field_outcome}

-- ---- outcome

pub outcome-ok : (x : Verdict) (n v : ℕ) → outcome x n ≡ Ok v → (x ≡ Ok tt) × (n ≡ v)
outcome-ok (Ok u) n v e = (refl, cc)
outcome-ok (Err r) n v e = cc

pub outcome-err : (x : Verdict) (n : ℕ) (r : Refusal) → outcome x n ≡ Err r → x ≡ Err r
outcome-err (Ok u) n r e = cc
outcome-err (Err q) n r e = cc

-- ---- up_to

pub up_none : (f : ℕ → Verdict) → up_to 0 f ≡ Ok tt
up_none = fold-zero ◌and_then◌ (Ok tt)

-- one more check that is accepted
pub up_more : (n : ℕ) (f : ℕ → Verdict) → up_to n f ≡ Ok tt → f n ≡ Ok tt → up_to (n + 1) f ≡ Ok tt
up_more n f h t = rw (fold-suc ◌and_then◌ (Ok tt) n f, h, t)

-- the first check that is refused
pub up_stops : (n : ℕ) (f : ℕ → Verdict) (i : ℕ) (r : Refusal) → i < n → up_to i f ≡ Ok tt → f i ≡ Err r → up_to n f ≡ Err r
up_stops n f i r l h t = fold-stop ◌and_then◌ (Ok tt) (Err r) (λ y. refl) n f i l (rw (h, t))

-- ---- A field

module _ (n low high : ℕ) (why : Why) (s : List ℕ) (at : ℕ) where
  -- a field that was read whole or not, judged
  pub field-judged : field_outcome (outcome (whole n s at) (num n s at)) at low high why ≡ outcome (field_in n low high why s at) (num n s at)
  unfolding field_in
  field-judged = by (whole n s at)
    where
      by : (x : Verdict) → field_outcome (outcome x (num n s at)) at low high why ≡ outcome (x and_then number_in low high why (num n s at) at) (num n s at)
      by (Ok u) = refl
      by (Err r) = refl

  pub field-cut : (r : Refusal) → outcome (whole n s at) (num n s at) ≡ Err r → Err r ≡ outcome (field_in n low high why s at) (num n s at)
  unfolding field_in
  field-cut r e = rw (outcome-err (whole n s at) (num n s at) r e)

  module _ (v : ℕ) (e : outcome (whole n s at) (num n s at) ≡ Ok v) where
    pub field-fine : low ≤ v → v ≤ high → Ok v ≡ outcome (field_in n low high why s at) (num n s at)
    unfolding field_in
    field-fine l h =
        let p = outcome-ok (whole n s at) (num n s at) v e in
        rw (p.0, p.1, le-leb low v l, le-leb v high h)

    pub field-low : v < low → Err (record { why = why; at = at }) ≡ outcome (field_in n low high why s at) (num n s at)
    unfolding field_in
    field-low l =
        let p = outcome-ok (whole n s at) (num n s at) v e in
        rw (p.0, p.1, lt-leb low v l)

    pub field-high : low ≤ v → high < v → Err (record { why = why; at = at }) ≡ outcome (field_in n low high why s at) (num n s at)
    unfolding field_in
    field-high l h =
        let p = outcome-ok (whole n s at) (num n s at) v e in
        rw (p.0, p.1, le-leb low v l, lt-leb v high h)
