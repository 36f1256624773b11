-- Document 01, "Program `settle`": what it does with its input, item by item. Assumes nothing.
use Rattle.std.specs.Prelude.{◌≡◌, Bool, true, false, cond, List, [], ◌++◌, ℕ, zero, suc, ◌+◌, ◌≤◌, ◌<◌, eqb, leb, ℤ, pos, length, take, drop, replicate, Result, Ok, Err}
use Rattle.integer.specs.Words.{part}
use Rattle.rulebook.specs.declared.Terms.{Terms}
pub use Rattle.rulebook.specs.Shares.{most_accounts}
use Rattle.rulebook.specs.Opening.{Opening, opened}
use Rattle.rulebook.specs.Submit.{submitted}
use Rattle.rulebook.specs.Close.{closed}
use Rattle.rulebook.specs.Numbers.{accepted, of_open, of_submit, of_close}
use Rattle.console.specs.declared.input.Item.{Item}
use Rattle.console.specs.declared.input.Item.TheVariants.{Close, Submit, Bad, End}
use Rattle.interpreter.specs.declared.Next.{Next}
use Rattle.console.specs.Input.{opening_bytes, opening_terms, item_of, wanted}
use Rattle.console.specs.Lines.{open_line, submit_line, close_line, bad_line}

-- ---- A turn

-- the line printed, the book after it, and what the next turn needs: how many accounts the book has, the next item's position in the input, and
-- whether the input is read on
pub record Turn : Type 0 where
  pub line : List ℕ
  pub book : List ℤ
  pub accounts : ℕ
  pub position : ℕ
  pub more : Bool

-- ---- The opening

-- a book that is not opened has no accounts, and nothing more is read
unfoldable pub opened_by : Terms → Opening → Turn
opened_by o r =
    let taken = eqb (of_open r.answer).number accepted in
    record { line = open_line (of_open r.answer); book = r.words; accounts = cond taken o.accounts 0; position = opening_bytes; more = taken }

unfoldable pub beginning : List ℤ → List ℕ → Turn
beginning book s =
    cond (leb opening_bytes (length s)) (opened_by (opening_terms s) (opened (opening_terms s) book))
    (record { line = bad_line 0; book = book; accounts = 0; position = opening_bytes; more = false })

-- ---- An item after it

-- a lent statement with room for every book's
abbrev pub new_statement : List ℤ
new_statement = replicate (suc most_accounts) (pos 0)

-- the item at a position; s is the input from there on
unfoldable pub turn_of : ℕ → ℕ → List ℤ → List ℕ → Item → Turn
turn_of accounts position book s Close =
    let c = closed book new_statement in
    let text = close_line (of_close c.answer) (take (accounts + 1) c.statement) in
    record { line = text; book = c.words; accounts = accounts; position = position + wanted s; more = true }
turn_of accounts position book s (Submit n) =
    let c = submitted book (part s 3 n) in
    record { line = submit_line (of_submit c.answer); book = c.words; accounts = accounts; position = position + wanted s; more = true }
turn_of accounts position book s (Bad k) =
    record { line = bad_line (position + k); book = book; accounts = accounts; position = position + wanted s; more = false }
turn_of accounts position book s End = record { line = []; book = book; accounts = accounts; position = position + wanted s; more = false }

unfoldable pub turn : ℕ → ℕ → List ℤ → List ℕ → Turn
turn accounts position book s = turn_of accounts position book s (item_of s)

-- ---- The run

-- what is printed on the input s from a position on, of at most n items
unfoldable pub printed_from : ℕ → ℕ → ℕ → List ℤ → List ℕ → List ℕ
printed_from zero accounts position book s = []
printed_from (suc n) accounts position book s =
    let t = turn accounts position book (drop position s) in
    t.line ++ cond t.more (printed_from n t.accounts t.position t.book s) []

abbrev pub book_words : ℕ
book_words = 5072

-- the program's book
abbrev pub new_words : List ℤ
new_words = replicate book_words (pos 0)

-- what the program prints on an input
unfoldable pub printed : List ℕ → List ℕ
printed s =
    let t = beginning new_words s in
    t.line ++ cond t.more (printed_from (length s) t.accounts t.position t.book s) []

-- ---- What the calls promise

-- what a turn hands to the next
abbrev pub next_of : Turn → Next
next_of t = record { accounts = t.accounts; position = t.position }

-- `Ok` where the input is read on, `Err` where the run ended
abbrev pub handed : Turn → Result Next Next
handed t = cond t.more (Ok (next_of t)) (Err (next_of t))

-- a turn that began at `from` and had the bytes s leaves its line and its book, and hands on; and for the next one: a book has at most 32 accounts,
-- each item at least a byte, and the input goes at least as far as the item that was done
pub record Hands (from : ℕ) (s : List ℕ) (t : Turn) (r : Result Next Next) (book_after : List ℤ) (line_after : List ℕ) : Type 0 where
  pub printed : line_after ≡ t.line
  pub book_left : book_after ≡ t.book
  pub goes_on : r ≡ handed t
  pub few : t.accounts ≤ most_accounts
  pub further : from < t.position
  pub within : t.more ≡ true → t.position ≤ from + length s

abbrev pub Begins : List ℤ → List ℕ → Result Next Next → List ℤ → List ℕ → Type 0
Begins book s = Hands 0 s (beginning book s)

abbrev pub Performs : ℕ → ℕ → List ℤ → List ℕ → Result Next Next → List ℤ → List ℕ → Type 0
Performs accounts position book s = Hands position s (turn accounts position book s)
