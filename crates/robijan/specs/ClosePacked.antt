-- Document 02, P4: every statement that a close writes can be written in packed decimal. Assumes nothing.
use Rattle.std.specs.Prelude.{◌≡◌, List, ◌++◌, ℕ, ◌+◌, ◌*◌, ◌≤◌, ℤ, length, take, drop}
use Rattle.rulebook.specs.BookData.{terms_of}
use Rattle.rulebook.specs.Close.{closed}
use Rattle.packed.specs.Packed.{pack_call, unpack_accepted, unpack_call}

-- the N + 1 amounts that a close wrote
abbrev pub amounts_of : List ℤ → List ℤ → List ℤ
amounts_of w statement = take ((terms_of w).accounts + 1) (closed w statement).statement

-- of any lent book and statement: an accepted close's amounts are packed wherever 8 bytes each are lent, and read back wherever there are words for them
pub record ClosePacked (w statement : List ℤ) : Type 0 where
  pub packed : (bytes : List ℕ) → 8 * ((terms_of w).accounts + 1) ≤ length bytes → (pack_call (amounts_of w statement) bytes).number ≡ 0
  pub back : (bytes : List ℕ) (output : List ℤ) → 8 * ((terms_of w).accounts + 1) ≤ length bytes → (terms_of w).accounts + 1 ≤ length output
      → unpack_call (take (8 * ((terms_of w).accounts + 1)) (pack_call (amounts_of w statement) bytes).output) output
      ≡ record { returned = unpack_accepted ((terms_of w).accounts + 1); output = amounts_of w statement ++ drop ((terms_of w).accounts + 1) output }
