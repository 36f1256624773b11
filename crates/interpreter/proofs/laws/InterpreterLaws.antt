-- What is to be shown of an opening and of an item, for each way that they go. Assumes nothing.
use Rattle.std.specs.Prelude.{◌≡◌, Bool, List, [], Ok, Err, ℕ, ◌+◌, ◌≤◌, ◌<◌, eqb, ℤ, length, take}
use Rattle.std.proofs.Math.Path.{refl}
use Rattle.std.proofs.Common.{eq-eqb, ne_eqb, le-leb}
use Rattle.std.proofs.Math.Bool.{true, false, cond}
use native.Mathlib.Omega.{arith}
use Rattle.std.proofs.lemmas.Bool.{lt-leb}
use Rattle.integer.specs.Words.{part}
use Rattle.rulebook.specs.Answers.{OpenAnswer}
use Rattle.rulebook.specs.declared.OpenError.{OpenError}
use Rattle.rulebook.specs.declared.OpenError.TheVariants.{BadTerms, TooShort}
use Rattle.rulebook.specs.Submit.{submitted}
use Rattle.rulebook.specs.Close.{closed}
use Rattle.rulebook.specs.Numbers.{accepted, numbered, of_open, of_submit, of_close}
use Rattle.rulebook.specs.Promises.{OpenPromise}
use Rattle.rulebook.proofs.laws.StartLaws.{opening-told}
use Rattle.console.specs.declared.input.Item.TheVariants.{Close, Submit, Bad, End}
use Rattle.console.specs.Input.{opening_bytes, opening_terms, item_of, wanted}
use Rattle.console.proofs.laws.InputLaws.{close-wanted, submit-wanted, submit-fits}
use Rattle.console.proofs.laws.ReadingLaws.{wanted-least}
use Rattle.console.specs.Lines.{open_line, submit_line, close_line, bad_line}
use Rattle.interpreter.specs.declared.Next.{Next}
use Rattle.interpreter.specs.Interpreter.{Turn, opened_by, beginning, new_statement, turn_of, turn, handed, Hands, Begins, Performs}

opened-answer : (answer : OpenAnswer) → (of_open answer).number ≡ accepted → of_open answer ≡ numbered accepted 0
opened-answer (Ok tt) e = refl
opened-answer (Err BadTerms) e = absurd (omega arith)
opened-answer (Err TooShort) e = absurd (omega arith)

-- no refusal has the number 0
pub refused-answer : (e : OpenError) → (of_open (Err e)).number ≡ accepted → ⊥
refused-answer BadTerms h = omega arith
refused-answer TooShort h = omega arith

-- `more` is false
ended : {A : Type 0} → false ≡ true → A
ended e = let z : ◌≡◌ {A = ℕ} 0 1 = cc in absurd (omega arith)

-- what a turn hands on, where the line is as it says
hands : {from : ℕ} {s line : List ℕ} (t : Turn) → line ≡ t.line → t.accounts ≤ 32 → from < t.position → (t.more ≡ true → t.position ≤ from + length s)
    → Hands from s t (handed t) t.book line
hands t p few further within = record { printed = p; book_left = refl; goes_on = refl; few = few; further = further; within = within }

-- what an opening hands on, and what an item does
abbrev past_opening : ℕ → Next
past_opening accounts = record { accounts = accounts; position = opening_bytes }

abbrev past_item : ℕ → ℕ → List ℕ → Next
past_item accounts position s = record { accounts = accounts; position = position + wanted s }

module _ (book : List ℤ) (s : List ℕ) where
  -- ---- An opening

  pub begins-cut : {line : List ℕ} → length s < opening_bytes → line ≡ bad_line 0 → Begins book s (Err (past_opening 0)) book line
  unfolding beginning
  begins-cut h p = rw (lt-leb opening_bytes (length s) h) (hands _ p (omega arith) (omega arith) (λ m. ended m))

  module _ {book' : List ℤ} {line : List ℕ} (h : opening_bytes ≤ length s) {answer : OpenAnswer} (o : OpenPromise (opening_terms s) book answer book') (p : line ≡ open_line (of_open answer)) where
    -- by whether the terms were accepted
    begins : {taken : Bool} → eqb (of_open answer).number accepted ≡ taken → (taken ≡ true → (opening_terms s).accounts ≤ 32)
        → Begins book s (cond taken (Ok (past_opening (cond taken (opening_terms s).accounts 0))) (Err (past_opening (cond taken (opening_terms s).accounts 0)))) book' line
    unfolding beginning opened_by
    begins {taken} e f =
        rw (le-leb opening_bytes (length s) h, ← o.answered, e, o.book_after)
        (hands _ p (at_most taken f) (omega arith) (λ m. omega arith))
      where
        at_most : (b : Bool) → (b ≡ true → (opening_terms s).accounts ≤ 32) → cond b (opening_terms s).accounts 0 ≤ 32
        at_most true g = g refl
        at_most false g = omega arith

    -- ---- accepted: N is at most 32
    pub begins-opened : (of_open answer).number ≡ accepted → Begins book s (Ok (past_opening (opening_terms s).accounts)) book' line
    begins-opened e =
        begins (eq-eqb (of_open answer).number accepted e)
        (λ m. ((opening-told (opening_terms s) book book' answer o).taken.0 (opened-answer answer e)).0.accounts_to)

    pub begins-refused : ((of_open answer).number ≡ accepted → ⊥) → Begins book s (Err (past_opening 0)) book' line
    begins-refused e = begins (ne_eqb (of_open answer).number accepted e) (λ m. ended m)

  -- ---- An item

  module _ (accounts position : ℕ) (few : accounts ≤ 32) where
    further : position < position + wanted s
    further = omega (arith, wanted-least s)

    pub performs_close : {book' : List ℤ} {line : List ℕ} → item_of s ≡ Close → book' ≡ (closed book new_statement).words → line ≡ close_line (of_close (closed book new_statement).answer) (take (accounts + 1) (closed book new_statement).statement)
        → Performs accounts position book s (Ok (past_item accounts position s)) book' line
    unfolding turn turn_of
    performs_close i b p = rw (i, b) (hands _ p few further (λ m. omega (arith, close-wanted s i)))

    pub performs_submit : {book' : List ℤ} {line : List ℕ} (n : ℕ) → item_of s ≡ Submit n → book' ≡ (submitted book (part s 3 n)).words → line ≡ submit_line (of_submit (submitted book (part s 3 n)).answer)
        → Performs accounts position book s (Ok (past_item accounts position s)) book' line
    unfolding turn turn_of
    performs_submit n i b p = rw (i, b) (hands _ p few further (λ m. omega (arith, submit-wanted s n i, submit-fits s n i)))

    pub performs_bad : {line : List ℕ} (k : ℕ) → item_of s ≡ Bad k → line ≡ bad_line (position + k) → Performs accounts position book s (Err (past_item accounts position s)) book line
    unfolding turn turn_of
    performs_bad k i p = rw i (hands _ p few further (λ m. ended m))

    pub performs_end : item_of s ≡ End → Performs accounts position book s (Err (past_item accounts position s)) book []
    unfolding turn turn_of
    performs_end i = rw i (hands _ refl few further (λ m. ended m))
