-- What the contracts of replay's counts cite. Assumes nothing.
use Rattle.std.specs.Prelude.{ℕ, ◌≤◌, ◌≡◌, List, length, take, ℤ}

-- n counts words at the start of xs. The second part follows from the first; both are stated, so that the proof that Rattle makes of `&xs[..n]` finds them.
abbrev pub Counts : ℕ → List ℤ → Type 0
Counts n xs = (n ≤ length xs) × (n ≡ length (take n xs))
