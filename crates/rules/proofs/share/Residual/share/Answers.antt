-- `share` meets its contract: each return is a case of the rule, and R × UEGQ is at most 1.28 × 10^16.
use Rattle.std.specs.Int.{w64}
use Rattle.std.proofs.Common.{◌≡◌, ◌<◌, sym, inl, inr, ⊎_elim, SFits, rules}
use Rattle.integer.specs.Integer.{positive}
use Rattle.integer.proofs.laws.IntegerLaws.{int}
use Rattle.integer.proofs.laws.BelowLaws.{lt_or_le}
use Rattle.integer.proofs.Bits.{known}
use Rattle.rulebook.proofs.laws.SharesLaws.{share-none, share-full, share_part}
use Rattle.rules.proofs.share.Residual.share.Goals as goal
use Rattle.rules.proofs.share.Residual.share.Goals.{After-unsigned_abs-load}

pub returns-then-self-le0 : goal.returns-then-self-le0
returns-then-self-le0 c =
    let r = c.self.inside in
    let f : SFits w64 r.load = search rules in
    rw (← c.self.view_is)
    (sym (share-none r.load r.spare c.args.u (⊎_elim (λ h. inl (omega (int, known f, h))) (λ h. inr h.1) c.then-self-le0.either)))

-- past both tests R and S are above zero
record Loaded (c : After-unsigned_abs-load) : Type 0 where
  load : c.unsigned_abs-load.result ≡ positive c.self.inside.load
  some : 0 < positive c.self.inside.load
  spare : 0 < c.self.inside.spare

loaded : (c : After-unsigned_abs-load) → Loaded c
loaded c =
    let f : SFits w64 c.self.inside.load = search rules in
    let k = known f in
    record {
      load = omega (int, c.unsigned_abs-load.ensures.value, c.if-self-le0.false);
      some = omega (int, c.if-self-le0.false);
      spare = ⊎_elim (λ h. h) (λ h. absurd (c.if-self-eq0.false (omega int))) (lt_or_le 0 c.self.inside.spare);
    }

pub returns-then-self-load : goal.returns-then-self-load
returns-then-self-load c =
    let r = c.self.inside in
    let l = loaded (goal.at.returns-then-self-load c).After-unsigned_abs-load in
    rw (← c.self.view_is) (sym (share-full r.load r.spare c.args.u l.spare (omega (int, l.load, c.if-self-load.true))))

pub returns-else-self-load : goal.returns-else-self-load
returns-else-self-load c =
    let r = c.self.inside in
    let l = loaded (goal.at.returns-else-self-load c).After-unsigned_abs-load in
    rw (← c.self.view_is, l.load) (sym (share_part r.load r.spare c.args.u l.some (omega (int, l.load, c.if-self-load.false))))
