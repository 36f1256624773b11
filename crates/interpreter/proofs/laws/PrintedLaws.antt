-- What is printed for an item, told from what the input holds at its position; on a book in the state of a history, by what that history tells.
-- Assumes nothing.
use Rattle.std.specs.Prelude.{◌≡◌, List, [], ◌++◌, ℕ, suc, ◌+◌, ℤ, take, drop}
use Rattle.std.proofs.Math.Path.{refl}
use Rattle.std.proofs.Common.{append-nil}
use Rattle.integer.specs.Words.{part}
use Rattle.rulebook.specs.declared.Terms.{Terms}
use Rattle.rulebook.specs.Terms.{InTerms}
use Rattle.rulebook.specs.Submit.{submitted}
use Rattle.rulebook.specs.Close.{closed}
use Rattle.rulebook.specs.History.{Event}
use Rattle.rulebook.specs.Companion.{submit_told, close_told}
use Rattle.rulebook.specs.Ledger.{State}
use Rattle.rulebook.proofs.laws.CompanionProof.{submit-tells, close-tells}
use Rattle.console.specs.declared.input.Item.TheVariants.{Close, Submit, Bad, End}
use Rattle.console.specs.Input.{item_of, wanted}
use Rattle.console.specs.Lines.{submit_line, close_line, bad_line}
use Rattle.interpreter.specs.Interpreter.{new_statement, turn_of, turn, printed_from}

-- ---- Where the run ends

module _ (n accounts position : ℕ) (book : List ℤ) (s : List ℕ) where
  pub printed-bad : (k : ℕ) → item_of (drop position s) ≡ Bad k → printed_from (suc n) accounts position book s ≡ bad_line (position + k)
  unfolding printed_from turn turn_of
  printed-bad k e = rw e (append-nil (bad_line (position + k)))

  pub printed-end : item_of (drop position s) ≡ End → printed_from (suc n) accounts position book s ≡ []
  unfolding printed_from turn turn_of
  printed-end e = rw e refl

-- ---- Where it goes on

module _ (o : Terms) (t : InTerms o) (past : List Event) (book : List ℤ) (h : State o past book) (n position : ℕ) (s : List ℕ) where
  pub printed-submit : (k : ℕ) → item_of (drop position s) ≡ Submit k → printed_from (suc n) o.accounts position book s
      ≡ submit_line (submit_told o past (part (drop position s) 3 k))
      ++ printed_from n o.accounts (position + wanted (drop position s)) (submitted book (part (drop position s) 3 k)).words s
  unfolding printed_from turn turn_of
  printed-submit k e = rw (e, (submit-tells o t past book h (part (drop position s) 3 k)).answered)

  pub printed-close : item_of (drop position s) ≡ Close → printed_from (suc n) o.accounts position book s
      ≡ close_line (close_told o past new_statement) (take (o.accounts + 1) (closed book new_statement).statement)
      ++ printed_from n o.accounts (position + wanted (drop position s)) (closed book new_statement).words s
  unfolding printed_from turn turn_of
  printed-close e = rw (e, (close-tells o t past book h new_statement).answered)
