-- Document 01, "Program `settle`": what some inputs begin with, and how far they are read. Computed. Assumes nothing.
use Rattle.std.specs.Prelude.{◌≡◌, refl, List, [], ◌∷◌, ℕ, replicate}
use Rattle.rulebook.specs.File.{num}
use Rattle.console.specs.declared.input.Item.TheVariants.{Close, Submit, Bad, End}
use Rattle.console.specs.Input.{opening_terms, file_whole, item_of, wanted}

-- a submission's command, its length, and n bytes
abbrev submission : ℕ → ℕ → ℕ → List ℕ
submission low high n = 0x53 ∷ low ∷ high ∷ replicate n 0

pub record Inputs : Type 0 where
  -- N, L, H and F, its lower byte first; X is 0 on any input
  pub never : (s : List ℕ) → (opening_terms s).change ≡ 0
  pub opening : opening_terms (0x02 ∷ 0x4B ∷ 0x5C ∷ 0x19 ∷ 0x25 ∷ []) ≡ record { accounts = 2; lag = 75; horizon = 92; first = 9497; change = 0 }
  -- commands
  pub none : item_of [] ≡ End
  pub close : item_of (0x43 ∷ 0x53 ∷ []) ≡ Close
  pub unknown : item_of (0x00 ∷ 0x43 ∷ []) ≡ Bad 0
  pub letter : item_of (0x73 ∷ 0x00 ∷ 0x00 ∷ []) ≡ Bad 0
  -- a file of no bytes, of two, and of as many as there may be; one more is too many
  pub empty : item_of (submission 0x00 0x00 0) ≡ Submit 0
  pub short : item_of (submission 0x02 0x00 5) ≡ Submit 2
  pub longest : item_of (submission 0x00 0x40 16384) ≡ Submit 16384
  pub too_long : item_of (submission 0x01 0x40 16385) ≡ Bad 1
  -- cut in the length, or in the file
  pub no_length : item_of (0x53 ∷ 0x00 ∷ []) ≡ Bad 1
  pub cut : item_of (submission 0x02 0x00 1) ≡ Bad 1
  pub longest_cut : item_of (submission 0x00 0x40 16383) ≡ Bad 1
  -- how far it is read: a command alone, a submission's length, its file
  pub wanted_first : wanted [] ≡ 1
  pub wanted_close : wanted (0x43 ∷ []) ≡ 1
  pub wanted_unknown : wanted (0x00 ∷ []) ≡ 1
  pub wanted_length : (wanted (0x53 ∷ []) ≡ 3) × (wanted (0x53 ∷ 0x01 ∷ []) ≡ 3)
  pub wanted_file : wanted (submission 0x02 0x01 0) ≡ 261
  pub wanted_longest : wanted (submission 0x00 0x40 0) ≡ 16387
  pub wanted_too_long : wanted (submission 0x01 0x40 0) ≡ 3

pub inputs : Inputs
unfolding item_of file_whole wanted num
inputs = record {
  never = λ s. refl;
  opening = refl;
  none = refl;
  close = refl;
  unknown = refl;
  letter = refl;
  empty = refl;
  short = refl;
  longest = refl;
  too_long = refl;
  no_length = refl;
  cut = refl;
  longest_cut = refl;
  wanted_first = refl;
  wanted_close = refl;
  wanted_unknown = refl;
  wanted_length = (refl, refl);
  wanted_file = refl;
  wanted_longest = refl;
  wanted_too_long = refl;
}
