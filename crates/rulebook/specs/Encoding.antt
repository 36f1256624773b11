-- Document 01, "A submission file": its four layouts, written out as bytes. Nothing here speaks of a position or of judging. Assumes nothing.
use Rattle.std.specs.Prelude.{cond, ℕ, zero, suc, ◌-◌, ◌/◌, ◌%◌, ℤ, pos, negsuc, length}
use mathlib.Core.List.{List, [], ◌∷◌, ◌++◌, flat_map}
use Rattle.integer.specs.Below.{tabulate}
use Rattle.rulebook.specs.declared.Section.{Section}
use Rattle.rulebook.specs.declared.Section.TheVariants.{Vesting, Meter, Residual, Ncc}
use Rattle.rulebook.specs.Units.{intervals}
use Rattle.rulebook.specs.Sections.{same_section}
use Rattle.rulebook.specs.File.{Figure, BVQ, BVP, TVQ, TVP, MEP, IEQ, UEGQ, MQ, RVP1, RVP2, NccLoad}
use Rattle.rulebook.specs.NamedRows.{NamedRow}

-- ---- Fields

-- a number in n bytes, the lowest first
unfoldable pub bytes : ℕ → ℕ → List ℕ
bytes zero v = []
bytes (suc n) v = v % 256 ∷ bytes n (v / 256)

-- a value from −2 ^ 31 to 2 ^ 31 − 1 in two's complement: below 0, 2 ^ 32 less its size
unfoldable pub twos : ℤ → ℕ
twos (pos n) = n
twos (negsuc n) = 4294967296 - suc n

unfoldable pub value_bytes : ℤ → List ℕ
value_bytes v = bytes 4 (twos v)

-- ---- A row

-- q 0, p 0, q 1, p 1, .. to n − 1
unfoldable pub pairs : (ℕ → Figure) → (ℕ → Figure) → ℕ → List Figure
pairs q p zero = []
pairs q p (suc n) = q 0 ∷ p 0 ∷ pairs (λ t. q (suc t)) (λ t. p (suc t)) n

-- the figures of an interval, in the order in which they are written
unfoldable pub figures : Section → ℕ → List Figure
figures Vesting count = BVQ ∷ BVP ∷ pairs TVQ TVP count
figures Meter count = pairs MEP IEQ count
figures Residual count = UEGQ ∷ MQ ∷ RVP1 ∷ RVP2 ∷ []
figures Ncc count = NccLoad ∷ []

-- what stands before the values: account (1 byte), day (2), count (1)
unfoldable pub heading : Section → ℕ → ℕ → ℕ → List ℕ
heading Vesting account day count = bytes 1 account ++ (bytes 2 day ++ bytes 1 count)
heading Meter account day count = bytes 1 account ++ (bytes 2 day ++ bytes 1 count)
heading Residual account day count = bytes 1 account ++ bytes 2 day
heading Ncc account day count = bytes 2 day

unfoldable pub interval_bytes : NamedRow → ℕ → List ℕ
interval_bytes r i = flat_map (λ g. value_bytes (r.figure i g)) (figures r.section r.count)

unfoldable pub row_bytes : NamedRow → List ℕ
row_bytes r = heading r.section r.account r.day r.count ++ flat_map (interval_bytes r) (tabulate intervals (λ i. i))

-- ---- Sections and file

-- the rows of one section, in their order
unfoldable pub rows_of : Section → List NamedRow → List NamedRow
rows_of sec [] = []
rows_of sec (r ∷ rs) = cond (same_section sec r.section) (r ∷ rows_of sec rs) (rows_of sec rs)

-- a section: the count of its rows in 2 bytes, then the rows
unfoldable pub section_bytes : List NamedRow → List ℕ
section_bytes rs = bytes 2 (length rs) ++ flat_map row_bytes rs

-- the file of these rows
unfoldable pub encoded : List NamedRow → List ℕ
encoded rs =
    section_bytes (rows_of Vesting rs)
    ++ (section_bytes (rows_of Meter rs) ++ (section_bytes (rows_of Residual rs) ++ section_bytes (rows_of Ncc rs)))
