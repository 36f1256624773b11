-- Laws of the encoder: what it writes are bytes, and rows that say the same are written as the same bytes. Assumes nothing.
use Rattle.std.specs.Prelude.{◌≡◌, refl, Bool, true, false, cond, ℕ, zero, suc, ◌/◌, ◌<◌, length}
use Rattle.std.proofs.Common.{ap, ◌∙◌, arith}
use mathlib.Core.List.{List, [], ◌∷◌, ◌++◌, flat_map}
use Rattle.integer.specs.Below.{tabulate}
use Rattle.integer.proofs.laws.BelowLaws.{each_tabulate, each_append}
use Rattle.rulebook.specs.declared.Section.{Section}
use Rattle.rulebook.specs.declared.Section.TheVariants.{Vesting, Meter, Residual, Ncc}
use Rattle.rulebook.specs.Sections.{same_section}
use Rattle.rulebook.specs.NamedRows.{NamedRow}
use Rattle.rulebook.specs.Encoding.{bytes, twos, value_bytes, figures, heading, interval_bytes, row_bytes, rows_of, section_bytes, encoded}
use Rattle.rulebook.specs.Proper.{Bytes, Alike, AllAlike}
use Rattle.rulebook.proofs.laws.ListLaws.{each_map, flat_map-cong}

-- ---- Bytes

bytes_small : (n v : ℕ) → Bytes (bytes n v)
unfolding bytes
bytes_small zero v = tt
bytes_small (suc n) v = (omega arith, bytes_small n (v / 256))

joined_small {ℓ} : {A : Type ℓ} (f : A → List ℕ) (xs : List A) → ((x : A) → Bytes (f x)) → Bytes (flat_map f xs)
unfolding flat_map
joined_small f [] h = tt
joined_small f (x ∷ xs) h = each_append (λ b. b < 256) (f x) (flat_map f xs) (h x) (joined_small f xs h)

both_small : (xs ys : List ℕ) → Bytes xs → Bytes ys → Bytes (xs ++ ys)
both_small = each_append (λ b. b < 256)

heading-small : (sec : Section) (a d c : ℕ) → Bytes (heading sec a d c)
unfolding heading
heading-small Vesting a d c = both_small (bytes 1 a) _ (bytes_small 1 a) (both_small (bytes 2 d) _ (bytes_small 2 d) (bytes_small 1 c))
heading-small Meter a d c = both_small (bytes 1 a) _ (bytes_small 1 a) (both_small (bytes 2 d) _ (bytes_small 2 d) (bytes_small 1 c))
heading-small Residual a d c = both_small (bytes 1 a) _ (bytes_small 1 a) (bytes_small 2 d)
heading-small Ncc a d c = bytes_small 2 d

row_small : (r : NamedRow) → Bytes (row_bytes r)
unfolding row_bytes interval_bytes value_bytes
row_small r =
    both_small (heading r.section r.account r.day r.count) _ (heading-small r.section r.account r.day r.count)
    (joined_small (interval_bytes r) (tabulate 48 (λ i. i)) (λ i. joined_small _ (figures r.section r.count) (λ g. bytes_small 4 (twos (r.figure i g)))))

section-small : (rs : List NamedRow) → Bytes (section_bytes rs)
unfolding section_bytes
section-small rs = both_small (bytes 2 (length rs)) (flat_map row_bytes rs) (bytes_small 2 (length rs)) (joined_small row_bytes rs row_small)

pub encoded-bytes : (rows : List NamedRow) → Bytes (encoded rows)
unfolding encoded
encoded-bytes rows =
    both_small (section_bytes (rows_of Vesting rows)) _ (section-small (rows_of Vesting rows))
    (both_small (section_bytes (rows_of Meter rows)) _ (section-small (rows_of Meter rows))
    (both_small (section_bytes (rows_of Residual rows)) _ (section-small (rows_of Residual rows)) (section-small (rows_of Ncc rows))))

-- ---- Rows alike

interval-alike : (q r : NamedRow) → Alike q r → (i : ℕ) → i < 48 → interval_bytes q i ≡ interval_bytes r i
unfolding interval_bytes
interval-alike q r a i l =
    let e : figures q.section q.count ≡ figures r.section r.count = cc in
    ap (flat_map (λ g. value_bytes (q.figure i g))) e
    ∙ flat_map-cong _ _ (figures r.section r.count) (each_map _ _ (figures r.section r.count) (λ g k. ap value_bytes k) (a.figure i l))

row-alike : (q r : NamedRow) → Alike q r → row_bytes q ≡ row_bytes r
unfolding row_bytes
row-alike q r a =
    let e : heading q.section q.account q.day q.count ≡ heading r.section r.account r.day r.count = cc in
    let f = flat_map-cong (interval_bytes q) (interval_bytes r) (tabulate 48 (λ i. i)) (each_tabulate _ 48 (λ i. i) (interval-alike q r a)) in
    rw (e, f)

of_alike : (sec : Section) (xs ys : List NamedRow) → AllAlike xs ys → AllAlike (rows_of sec xs) (rows_of sec ys)
unfolding AllAlike rows_of
of_alike sec [] [] a = tt
of_alike sec [] (r ∷ rs) a = absurd a
of_alike sec (q ∷ qs) [] a = absurd a
of_alike sec (q ∷ qs) (r ∷ rs) a = rw (ap (same_section sec) a.0.section) (by (same_section sec r.section) (of_alike sec qs rs a.1))
  where
    by : (b : Bool) → AllAlike (rows_of sec qs) (rows_of sec rs) → AllAlike (cond b (q ∷ rows_of sec qs) (rows_of sec qs)) (cond b (r ∷ rows_of sec rs) (rows_of sec rs))
    by true f = (a.0, f)
    by false f = f

rows_alike : (xs ys : List NamedRow) → AllAlike xs ys → (length xs ≡ length ys) × (flat_map row_bytes xs ≡ flat_map row_bytes ys)
unfolding AllAlike flat_map
rows_alike [] [] a = (refl, refl)
rows_alike [] (r ∷ rs) a = absurd a
rows_alike (q ∷ qs) [] a = absurd a
rows_alike (q ∷ qs) (r ∷ rs) a = let f = rows_alike qs rs a.1 in (ap suc f.0, rw (row-alike q r a.0, f.1))

section-alike : (xs ys : List NamedRow) → AllAlike xs ys → section_bytes xs ≡ section_bytes ys
unfolding section_bytes
section-alike xs ys a = let f = rows_alike xs ys a in rw (f.0, f.1)

pub alike-bytes : (xs ys : List NamedRow) → AllAlike xs ys → encoded xs ≡ encoded ys
unfolding encoded
alike-bytes xs ys a =
    let v = section-alike _ _ (of_alike Vesting xs ys a) in
    let m = section-alike _ _ (of_alike Meter xs ys a) in
    let r = section-alike _ _ (of_alike Residual xs ys a) in
    let n = section-alike _ _ (of_alike Ncc xs ys a) in
    rw (v, m, r, n)
