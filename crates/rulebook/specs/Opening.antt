-- Document 01, "The book": opening. Assumes nothing.
use Rattle.std.specs.Prelude.{cond, not, List, [], ◌∷◌, ℤ, pos, ltb, length, Ok, Err}
use Rattle.integer.specs.Words.{word}
use Rattle.rulebook.specs.Answers.{OpenAnswer}
use Rattle.rulebook.specs.declared.Terms.{Terms}
use Rattle.rulebook.specs.declared.OpenError.TheVariants.{BadTerms, TooShort}
use Rattle.rulebook.specs.Terms.{terms_fit}
use Rattle.rulebook.specs.Layout.{book_mark, size, stored}

-- 395, N, L, H, F, C = F, the MSSL's balance, X, the rounding differences' sum
abbrev pub header : Terms → List ℤ
header o = pos book_mark ∷ pos o.accounts ∷ pos o.lag ∷ pos o.horizon ∷ pos o.first ∷ pos o.first ∷ pos 0 ∷ pos o.change ∷ pos 0 ∷ []

-- every word of the size is written: the header's, and zeros
unfoldable pub new_book : Terms → List ℤ → List ℤ
new_book o w = stored w 0 (size o) (word (header o))

-- what an opening answers, and the words that it leaves
pub record Opening : Type 0 where
  pub answer : OpenAnswer
  pub words : List ℤ

unfoldable pub opened : Terms → List ℤ → Opening
opened o w =
    cond (not (terms_fit o)) (record { answer = Err BadTerms; words = w })
    (cond (ltb (length w) (size o)) (record { answer = Err TooShort; words = w })
    (record { answer = Ok tt; words = new_book o w }))
