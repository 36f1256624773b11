-- Laws of lines: a line is its word and one part after another. Assumes nothing.
use Rattle.std.specs.Prelude.{◌≡◌, refl, List, [], ◌∷◌, ◌++◌, map, ℕ, ◌+◌, ◌<◌, ℤ, pos, length, take, Err}
use Rattle.std.proofs.Common.{sym, ap, ◌∙◌, append-nil, append_assoc, add-one, take-suc}
use Rattle.integer.specs.Words.{word}
use Rattle.rulebook.specs.declared.CloseError.{CloseError}
use Rattle.rulebook.specs.declared.CloseError.TheVariants.{BookIllFormed, Finished, NoRoom, DatumMissing}
use Rattle.rulebook.specs.Numbers.{of_close}
use Rattle.console.specs.Lines.{space, line_feed, spaced, line_of, close_word, answer_line, close_line}

-- ---- Parts

-- a part is put, then what follows it
spaced-more : (p : List ℕ) (ps : List (List ℕ)) (t : List ℕ) → spaced (p ∷ ps) ++ t ≡ (space ∷ p) ++ (spaced ps ++ t)
unfolding spaced
spaced-more p ps t = ap (λ (s : List ℕ). space ∷ s) (append_assoc p (spaced ps) t)

spaced-none : (t : List ℕ) → spaced [] ++ t ≡ t
unfolding spaced
spaced-none t = refl

-- one part more
spaced-one_more : (f : ℤ → List ℕ) (xs : List ℤ) (z : ℤ) → spaced (map f (xs ++ (z ∷ []))) ≡ spaced (map f xs) ++ (space ∷ f z)
unfolding spaced
spaced-one_more f [] z = ap (λ (t : List ℕ). space ∷ t) (append-nil (f z))
spaced-one_more f (x ∷ xs) z =
    ap (λ (t : List ℕ). space ∷ (f x ++ t)) (spaced-one_more f xs z)
    ∙ ap (λ (t : List ℕ). space ∷ t) (sym (append_assoc (f x) (spaced (map f xs)) (space ∷ f z)))

pub spaced-take : (f : ℤ → List ℕ) (xs : List ℤ) (i : ℕ) → i < length xs → spaced (map f (take (i + 1) xs)) ≡ spaced (map f (take i xs)) ++ (space ∷ f (word xs i))
spaced-take f xs i h = rw (add-one, take-suc xs i (pos 0)) (spaced-one_more f (take i xs) (word xs i))

pub spaced-map_none : (f : ℤ → List ℕ) → spaced (map f []) ≡ []
unfolding spaced
spaced-map_none f = refl

-- ---- A line's parts, put one after another

pub put-one : (w a : List ℕ) → (([] ++ w) ++ (space ∷ a)) ++ (line_feed ∷ []) ≡ line_of w (a ∷ [])
unfolding line_of
put-one w a = rw (spaced-more a [], spaced-none) (append_assoc w (space ∷ a) (line_feed ∷ []))

pub put-two : (w a b : List ℕ) → ((([] ++ w) ++ (space ∷ a)) ++ (space ∷ b)) ++ (line_feed ∷ []) ≡ line_of w (a ∷ b ∷ [])
unfolding line_of
put-two w a b = rw (spaced-more a (b ∷ []), spaced-more b [], spaced-none) (rw (append_assoc, append_assoc) refl)

-- three numbers, then some amounts
pub put-more : (w a b c : List ℕ) (ps : List (List ℕ)) (line : List ℕ) → line ≡ ((([] ++ w) ++ (space ∷ a)) ++ (space ∷ b)) ++ (space ∷ c)
    → (line ++ spaced ps) ++ (line_feed ∷ []) ≡ line_of w (a ∷ b ∷ c ∷ ps)
unfolding line_of
put-more w a b c ps line e = rw (e, spaced-more a (b ∷ c ∷ ps), spaced-more b (c ∷ ps), spaced-more c ps) (rw (append_assoc, append_assoc, append_assoc, append_assoc) refl)

pub put-none : (line : List ℕ) → line ≡ line ++ spaced []
unfolding spaced
put-none line = sym (append-nil line)

-- one amount more
pub put-next : (f : ℤ → List ℕ) (xs : List ℤ) (i : ℕ) (start line : List ℕ) → i < length xs → line ≡ start ++ spaced (map f (take i xs))
    → line ++ (space ∷ f (word xs i)) ≡ start ++ spaced (map f (take (i + 1) xs))
put-next f xs i start line h e = rw (e, spaced-take f xs i h) (append_assoc start (spaced (map f (take i xs))) (space ∷ f (word xs i)))

-- a close that is refused has its number and position
pub refused-line : (e : CloseError) (amounts : List ℤ) → close_line (of_close (Err e)) amounts ≡ answer_line close_word (of_close (Err e))
unfolding close_line
refused-line BookIllFormed amounts = refl
refused-line Finished amounts = refl
refused-line NoRoom amounts = refl
refused-line (DatumMissing at) amounts = refl
