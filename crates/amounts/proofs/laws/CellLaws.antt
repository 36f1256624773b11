-- Equal parts, equal amounts. Assumes nothing.
use Rattle.std.specs.Prelude.{◌≡◌, ℕ, ℤ, pos, ◌+ℤ◌, ◌-ℤ◌, ◌*ℤ◌}
use Rattle.rulebook.specs.Tranches.{tranche1}

pub priced-cong : (price : ℤ) {v v' : ℤ} {q q' : ℕ} → v ≡ v' → q ≡ q' → (price -ℤ v) *ℤ pos q ≡ (price -ℤ v') *ℤ pos q'
priced-cong price e f = cc

pub tranche-cong : {q q' b b' m m' : ℕ} → q ≡ q' → b ≡ b' → m ≡ m' → tranche1 q b m ≡ tranche1 q' b' m'
tranche-cong e f g = cc

pub sum_cong : {a a' b b' : ℤ} → a ≡ a' → b ≡ b' → a +ℤ b ≡ a' +ℤ b'
sum_cong e f = cc
