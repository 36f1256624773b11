-- Laws of texts put into lent bytes. Assumes nothing.
use Rattle.std.specs.Prelude.{◌≡◌, refl, List, [], ◌∷◌, ◌++◌, ℕ, suc, ◌+◌, ◌≤◌, ◌<◌, length, set, take, drop}
use Rattle.std.proofs.Common.{sym, ap, ◌∙◌, add-one, arith, length-append, length-set, length-take-le, append_assoc, drop-drop}
use Rattle.std.proofs.lemmas.List.Edits.{sets, sets-eq}
use Rattle.std.proofs.Math.Seq.{take-append_seam}
use Rattle.console.specs.Written.{written, Put}

-- ---- One text after another

pub written-append : (bytes : List ℕ) (at : ℕ) (a b : List ℕ) → written bytes at (a ++ b) ≡ written (written bytes at a) (at + length a) b
unfolding written
written-append bytes at [] b = ap (λ (k : ℕ). written bytes k b) (omega arith)
written-append bytes at (x ∷ a) b =
    written-append (set bytes at x) (at + 1) a b ∙ ap (λ (k : ℕ). written (written (set bytes at x) (at + 1) a) k b) (omega arith)

pub put_none : (bytes : List ℕ) (at : ℕ) → at ≤ length bytes → Put bytes at [] bytes at
unfolding written
put_none bytes at h = record { bytes = refl; past = omega arith; within = h }

pub put_one : (bytes : List ℕ) (at : ℕ) (b : ℕ) → at < length bytes → Put bytes at (b ∷ []) (set bytes at b) (at + 1)
unfolding written
put_one bytes at b h = record { bytes = refl; past = refl; within = rw length-set (omega arith) }

-- a text, and then another from where the first ended
pub put_then : {a b c : List ℕ} {at m n : ℕ} {s t : List ℕ} → Put a at s b m → Put b m t c n → Put a at (s ++ t) c n
put_then {a} {b} {c} {at} {m} {n} {s} {t} p q =
    record {
      bytes = q.bytes ∙ rw (p.bytes, p.past) (sym (written-append a at s t));
      past = rw length-append (omega (arith, p.past, q.past));
      within = q.within;
    }

-- ---- What stands in the bytes

pub length-written : (bytes : List ℕ) (at : ℕ) (text : List ℕ) → length (written bytes at text) ≡ length bytes
unfolding written
length-written bytes at [] = refl
length-written bytes at (b ∷ text) = length-written (set bytes at b) (at + 1) text ∙ length-set bytes at b

written-sets : (bytes : List ℕ) (at : ℕ) (text : List ℕ) → written bytes at text ≡ sets bytes at text
unfolding written
written-sets bytes at [] = refl
written-sets bytes at (b ∷ text) = rw add-one (written-sets (set bytes at b) (suc at) text)

-- the text, with what stood before and after it
pub written_is : (bytes : List ℕ) (at : ℕ) (text : List ℕ) → at + length text ≤ length bytes → written bytes at text ≡ take at bytes ++ text ++ drop (at + length text) bytes
written_is bytes at text room = written-sets bytes at text ∙ sets-eq text bytes at room

-- a text put at the front is what the bytes begin with
pub written-front : (bytes text : List ℕ) → length text ≤ length bytes → take (length text) (written bytes 0 text) ≡ text
written-front bytes text room =
    ap (take (length text)) (written_is bytes 0 text (omega arith)) ∙ take-append_seam text (drop (0 + length text) bytes)

-- and up to the text's end, what stood before it and the text
pub take-written : (bytes : List ℕ) (at : ℕ) (text : List ℕ) → at + length text ≤ length bytes → take (at + length text) (written bytes at text) ≡ take at bytes ++ text
take-written bytes at text room =
    let front = take at bytes ++ text in
    let rest = drop (at + length text) bytes in
    let l : at + length text ≡ length front = rw (length-append, length-take-le at bytes (omega arith)) refl in
    ap (take (at + length text)) (written_is bytes at text room) ∙ ap (λ (k : ℕ). take k (front ++ rest)) l ∙ take-append_seam front rest

-- a text that is copied over as many bytes is put
copied : (bytes : List ℕ) (at n : ℕ) (text : List ℕ) → at + length text ≤ length bytes → n ≡ length text → take at bytes ++ (text ++ drop n (drop at bytes)) ≡ written bytes at text
copied bytes at n text room e =
    rw (e, drop-drop) (sym (append_assoc (take at bytes) text (drop (at + length text) bytes)) ∙ sym (written_is bytes at text room))

pub put_copied : (bytes : List ℕ) (at n : ℕ) (text : List ℕ) → at + length text ≤ length bytes → n ≡ length text → Put bytes at text (take at bytes ++ (text ++ drop n (drop at bytes))) (at + length text)
put_copied bytes at n text room e =
    let is = copied bytes at n text room e in
    record { bytes = is; past = refl; within = rw (is, length-written) room }
