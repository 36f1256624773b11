-- Reading as far as the bytes at hand tell gives an item's bytes, and these tell the item. Assumes nothing.
use Rattle.std.specs.Prelude.{◌≡◌, refl, Bool, true, false, cond, ◌&&◌, ℕ, zero, suc, ◌+◌, ◌≤◌, ◌<◌, leb, length, take}
use Rattle.std.proofs.Common.{sym, ap, ◌∙◌, arith, length-take-le, take_all, take-take}
use Rattle.std.proofs.Math.Logic.{⊎_elim}
use mathlib.Core.List.{List, []}
use borrow.Author.Tests.{eqb-true, eqb-false, eq-eqb, ne_eqb, le-leb, lt-leb}
use Rattle.std.proofs.Math.Dec.{eqb}
use Rattle.std.proofs.Math.ListN.{get_or, length-take}
use Rattle.std.proofs.Math.Seq.{get_or-take}
use Rattle.integer.proofs.laws.BelowLaws.{either, lt_or_le}
use Rattle.integer.specs.Words.{part}
use Rattle.integer.proofs.laws.WordsLaws.{part-part}
use Rattle.rulebook.specs.File.{num}
use Rattle.console.specs.declared.input.Item.TheVariants.{Close, Submit}
use Rattle.console.specs.Input.{opening_bytes, opening_terms, submit_command, longest_file, file_length, file_whole, item_of, wanted, item_bytes}
use Rattle.console.proofs.laws.InputLaws.{whole-cut, whole_is, wanted-command, wanted-none, wanted-length, wanted-file, submit-wanted, close-wanted, submit-fits}

-- ---- Tests alike

same_leb : (a b c d : ℕ) → (a ≤ b → c ≤ d) → (c ≤ d → a ≤ b) → leb a b ≡ leb c d
same_leb a b c d f g =
    ⊎_elim (λ (h : a < suc b). le-leb a b (omega arith) ∙ sym (le-leb c d (f (omega arith))))
    (λ (h : suc b ≤ a). lt-leb a b (omega arith) ∙ sym (⊎_elim (λ (k : d < c). lt-leb c d k) (λ (k : c ≤ d). let x = g k in absurd (omega arith)) (lt_or_le d c)))
    (lt_or_le a (suc b))

same_none : (a b : ℕ) → (a ≡ 0 → b ≡ 0) → (b ≡ 0 → a ≡ 0) → eqb a 0 ≡ eqb b 0
same_none a b f g =
    ⊎_elim (λ h. h ∙ sym (eq-eqb b 0 (f (eqb-true a 0 h)))) (λ h. h ∙ sym (ne_eqb b 0 (λ e. eqb-false a 0 h (g e)))) (either (eqb a 0))

-- ---- How far to read, at least

least-of : (t : Bool) (a b n : ℕ) → n ≤ a → n ≤ b → n ≤ cond t a b
least-of true a b n h k = h
least-of false a b n h k = k

pub wanted-least : (s : List ℕ) → 1 ≤ wanted s
unfolding wanted
wanted-least s = least-of (eqb (get_or s 0 0) submit_command) _ 1 1 (least-of (leb 3 (length s) && leb (file_length s) longest_file) (3 + file_length s) 3 1 (omega arith) (omega arith)) (omega arith)

wanted-submit : (s : List ℕ) → get_or s 0 0 ≡ submit_command → 3 ≤ wanted s
unfolding wanted
wanted-submit s h =
    rw (eq-eqb (get_or s 0 0) submit_command h) (least-of (leb 3 (length s) && leb (file_length s) longest_file) (3 + file_length s) 3 3 (omega arith) (omega arith))

-- ---- What is taken of the input

module _ (s : List ℕ) (m : ℕ) where
  take-command : 0 < m → get_or (take m s) 0 0 ≡ get_or s 0 0
  take-command h = get_or-take m s 0 0 h

  take_none : 0 < m → eqb (length (take m s)) 0 ≡ eqb (length s) 0
  take_none h = same_none (length (take m s)) (length s) (λ e. omega (arith, length-take m s)) (λ e. omega (arith, length-take m s))

  module _ (h : 3 ≤ m) where
    take-length_there : leb 3 (length (take m s)) ≡ leb 3 (length s)
    take-length_there = same_leb 3 (length (take m s)) 3 (length s) (λ k. omega (arith, length-take m s)) (λ k. omega (arith, length-take m s))

    take-file_length : file_length (take m s) ≡ file_length s
    unfolding num
    take-file_length = rw (get_or-take m s 1 0 (omega arith), get_or-take m s 2 0 (omega arith))

    wanted-take : wanted (take m s) ≡ wanted s
    unfolding wanted
    wanted-take = rw (take-command (omega arith), take-file_length, take-length_there)

    take_whole : get_or s 0 0 ≡ submit_command → wanted s ≤ m → file_whole (take m s) ≡ file_whole s
    take_whole c w =
        ⊎_elim (λ (k : length s < 3). whole-cut (take m s) (omega (arith, length-take m s)) ∙ sym (whole-cut s k))
        (λ (k : 3 ≤ length s).
        whole_is (take m s) (omega (arith, length-take m s))
        ∙ rw take-file_length
        (⊎_elim
        (λ (l : longest_file < file_length s). rw (lt-leb (file_length s) longest_file l) (sym (whole_is s k ∙ rw (lt-leb (file_length s) longest_file l) refl)))
        (λ (l : file_length s ≤ longest_file).
        let e = wanted-file s c k l in
        ap (λ (t : Bool). leb (file_length s) longest_file && t) (same_leb (3 + file_length s) (length (take m s)) (3 + file_length s) (length s) (λ x. omega (arith, length-take m s)) (λ x. omega (arith, length-take m s)))
        ∙ sym (whole_is s k))
        (lt_or_le longest_file (file_length s))))
        (lt_or_le (length s) 3)

  item-take : 0 < m → wanted s ≤ m → item_of (take m s) ≡ item_of s
  unfolding item_of
  item-take p w =
      ⊎_elim
      (λ (k : eqb (get_or s 0 0) submit_command ≡ true).
      let c = eqb-true (get_or s 0 0) submit_command k in
      let h : 3 ≤ m = omega (arith, wanted-submit s c) in
      rw (take_none p, take-command p, take_whole h c w, take-file_length h))
      (λ (k : eqb (get_or s 0 0) submit_command ≡ false). rw (take_none p, take-command p, k))
      (either (eqb (get_or s 0 0) submit_command))

-- ---- The opening's bytes

module _ (s : List ℕ) where
  pub opening-length : leb opening_bytes (length (take opening_bytes s)) ≡ leb opening_bytes (length s)
  opening-length =
      same_leb opening_bytes (length (take opening_bytes s)) opening_bytes (length s) (λ k. omega (arith, length-take opening_bytes s)) (λ k. omega (arith, length-take opening_bytes s))

  pub opening-read : opening_terms (take opening_bytes s) ≡ opening_terms s
  unfolding num
  opening-read =
      rw (get_or-take 5 s 0 0 (omega arith), get_or-take 5 s 1 0 (omega arith), get_or-take 5 s 2 0 (omega arith), get_or-take 5 s 3 0 (omega arith), get_or-take 5 s 4 0 (omega arith))

-- ---- An item's bytes

-- the three reads give the bytes that the item wants, and these tell it
module _ (s : List ℕ) where
  pub bytes-wanted : item_bytes s ≡ take (wanted s) s
  unfolding item_bytes
  bytes-wanted =
      rw (wanted-none [] refl)
      (⊎_elim
      (λ (k : eqb (get_or s 0 0) submit_command ≡ true).
      let c = eqb-true (get_or s 0 0) submit_command k in
      rw (wanted-length (take 1 s) (take-command s 1 (omega arith) ∙ c) (omega (arith, length-take 1 s)), wanted-take s 3 (omega arith)))
      (λ (k : eqb (get_or s 0 0) submit_command ≡ false).
      let c : get_or s 0 0 ≡ submit_command → ⊥ = eqb-false (get_or s 0 0) submit_command k in
      let e : wanted (take 1 s) ≡ 1 = wanted-command (take 1 s) (λ e. c (sym (take-command s 1 (omega arith)) ∙ e)) in
      rw (e, e, wanted-command s c))
      (either (eqb (get_or s 0 0) submit_command)))

  pub item-read : item_of (item_bytes s) ≡ item_of s
  item-read = rw bytes-wanted (item-take s (wanted s) (omega (arith, wanted-least s)) (omega arith))

  pub wanted_read : wanted (item_bytes s) ≡ wanted s
  wanted_read =
      rw bytes-wanted
      (⊎_elim
      (λ (k : eqb (get_or s 0 0) submit_command ≡ true). wanted-take s (wanted s) (wanted-submit s (eqb-true (get_or s 0 0) submit_command k)))
      (λ (k : eqb (get_or s 0 0) submit_command ≡ false).
      let c : get_or s 0 0 ≡ submit_command → ⊥ = eqb-false (get_or s 0 0) submit_command k in
      wanted-command (take (wanted s) s) (λ e. c (sym (take-command s (wanted s) (omega (arith, wanted-least s))) ∙ e)) ∙ sym (wanted-command s c))
      (either (eqb (get_or s 0 0) submit_command)))

  -- an item that is whole has all the bytes that it wants
  pub close-whole : item_of s ≡ Close → length (item_bytes s) ≡ wanted s
  close-whole e = rw bytes-wanted (length-take-le (wanted s) s (omega (arith, close-wanted s e)))

  pub submit-whole : (n : ℕ) → item_of s ≡ Submit n → length (item_bytes s) ≡ wanted s
  submit-whole n e = rw bytes-wanted (length-take-le (wanted s) s (omega (arith, submit-wanted s n e, submit-fits s n e)))

  -- the file among them
  pub submit-read : (n : ℕ) → item_of s ≡ Submit n → part (item_bytes s) 3 n ≡ part s 3 n
  submit-read n e = rw bytes-wanted (part-part s 0 (wanted s) 3 n (omega (arith, submit-wanted s n e)))

-- ---- Reading on

-- what is read as far as the first m bytes tell is no more than all of it tells
pub wanted-grows : (s : List ℕ) (m : ℕ) → length s ≤ wanted (take m s) → length s ≤ wanted s
wanted-grows s zero h = omega (arith, wanted-none (take 0 s) refl, wanted-least s)
wanted-grows s (suc m) h =
    ⊎_elim
    (λ (k : eqb (get_or s 0 0) submit_command ≡ true).
    let c = eqb-true (get_or s 0 0) submit_command k in
    ⊎_elim
    (λ (l : suc m < 3).
    omega (arith, wanted-length (take (suc m) s) (take-command s (suc m) (omega arith) ∙ c) (omega (arith, length-take (suc m) s)), wanted-submit s c))
    (λ (l : 3 ≤ suc m). omega (arith, wanted-take s (suc m) l))
    (lt_or_le (suc m) 3))
    (λ (k : eqb (get_or s 0 0) submit_command ≡ false).
    let c : get_or s 0 0 ≡ submit_command → ⊥ = eqb-false (get_or s 0 0) submit_command k in
    omega (arith, wanted-command (take (suc m) s) (λ e. c (sym (take-command s (suc m) (omega arith)) ∙ e)), wanted-least s))
    (either (eqb (get_or s 0 0) submit_command))

-- bytes that are no more than an item has are an item's
pub bytes-own : (s : List ℕ) → length s ≤ wanted s → item_bytes s ≡ s
bytes-own s h = bytes-wanted s ∙ take_all (wanted s) s h

-- the first n bytes, when the first m of them were kept and n goes as far as these tell
pub within_on : (before after : List ℕ) (m n : ℕ) → m ≤ n → n ≤ length after → take m after ≡ take m before → n ≤ wanted (take m before) → n ≤ wanted (take n after)
within_on before after m n h l e w =
    let k = length-take-le n after l in
    let same = take-take m n after h ∙ e in
    let g = wanted-grows (take n after) m (rw (k, same) w) in
    omega (arith, g, k)
