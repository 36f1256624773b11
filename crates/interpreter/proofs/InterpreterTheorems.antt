-- A run as the program makes it, reading item by item, prints what `printed` says of the whole input. Assumes nothing.
use Rattle.std.proofs.Math.Path.{◌≡◌, refl}
use Rattle.std.proofs.Common.{sym, ap, ◌∙◌, arith, length-drop, drop-drop}
use Rattle.std.specs.Prelude.{Bool, false, cond, List, [], ◌++◌, ℕ, zero, suc, ◌+◌, ◌≤◌, leb, ℤ, take, drop}
use Rattle.std.proofs.Math.Bool.{true}
use Rattle.std.proofs.Math.ListN.{length}
use Rattle.console.specs.declared.input.Item.{Item}
use Rattle.console.specs.declared.input.Item.TheVariants.{Close, Submit, Bad, End}
use Rattle.console.specs.Input.{opening_bytes, opening_terms, item_of, wanted, item_bytes}
use Rattle.console.proofs.laws.InputLaws.{item-end}
use Rattle.console.proofs.laws.ReadingLaws.{wanted-least, opening-length, opening-read, item-read, wanted_read, close-whole, submit-whole, submit-read}
use Rattle.interpreter.specs.Interpreter.{opened_by, beginning, turn_of, turn, printed_from, new_words, printed}

-- ---- The run

-- the bytes of an item are read from the rest of the input, the item is performed on them, its line is printed, and the next is read after them
unfoldable pub ran_from : ℕ → ℕ → ℕ → List ℤ → List ℕ → List ℕ
ran_from zero accounts position book rest = []
ran_from (suc n) accounts position book rest =
    let t = turn accounts position book (item_bytes rest) in
    t.line ++ cond t.more (ran_from n t.accounts t.position t.book (drop (length (item_bytes rest)) rest)) []

-- the opening's bytes first
unfoldable pub ran : List ℕ → List ℕ
ran s =
    let t = beginning new_words (take opening_bytes s) in
    t.line ++ cond t.more (ran_from (length s) t.accounts t.position t.book (drop opening_bytes s)) []

-- ---- An item, told from the bytes read

module _ (accounts position : ℕ) (book : List ℤ) (s : List ℕ) where
  same_turn : (i : Item) → item_of s ≡ i → turn_of accounts position book (item_bytes s) i ≡ turn_of accounts position book s i
  unfolding turn_of
  same_turn Close e = rw (wanted_read s)
  same_turn (Submit n) e = rw (wanted_read s, submit-read s n e)
  same_turn (Bad k) e = rw (wanted_read s)
  same_turn End e = rw (wanted_read s)

  -- it does the same
  pub turn-read : turn accounts position book (item_bytes s) ≡ turn accounts position book s
  unfolding turn
  turn-read = rw (item-read s) (same_turn (item_of s) refl)

  -- where the run goes on, they are all that the item has
  pub read_whole : (turn accounts position book s).more ≡ true → length (item_bytes s) ≡ wanted s
  unfolding turn turn_of
  read_whole = by (item_of s) refl
    where
      by : (i : Item) → item_of s ≡ i → (turn_of accounts position book s i).more ≡ true → length (item_bytes s) ≡ wanted s
      by Close e m = close-whole s e
      by (Submit n) e m = submit-whole s n e
      by (Bad k) e m = let z : ◌≡◌ {A = ℕ} 0 1 = cc in absurd (omega arith)
      by End e m = let z : ◌≡◌ {A = ℕ} 0 1 = cc in absurd (omega arith)

  -- the book has as many accounts, and the next one stands after them, where the run ends too
  turn-stands : ((turn accounts position book s).accounts ≡ accounts) × ((turn accounts position book s).position ≡ position + wanted s)
  unfolding turn turn_of
  turn-stands = by (item_of s)
    where
      by : (i : Item) → ((turn_of accounts position book s i).accounts ≡ accounts) × ((turn_of accounts position book s i).position ≡ position + wanted s)
      by Close = (refl, refl)
      by (Submit n) = (refl, refl)
      by (Bad k) = (refl, refl)
      by End = (refl, refl)

  pub turn-accounts : (turn accounts position book s).accounts ≡ accounts
  turn-accounts = turn-stands.0

  pub turn-position : (turn accounts position book s).position ≡ position + wanted s
  turn-position = turn-stands.1

-- ---- What is printed

where_more : (t : Bool) (a b : List ℕ) → (t ≡ true → a ≡ b) → cond t a [] ≡ cond t b []
where_more true a b h = h refl
where_more false a b h = refl

ran-from : (n accounts position : ℕ) (book : List ℤ) (s : List ℕ) → ran_from n accounts position book (drop position s) ≡ printed_from n accounts position book s
unfolding ran_from printed_from
ran-from zero accounts position book s = refl
ran-from (suc n) accounts position book s =
    let rest = drop position s in
    let t = turn accounts position book rest in
    rw (turn-read accounts position book rest)
    (ap (λ (r : List ℕ). t.line ++ r)
    (where_more t.more _ _ (λ m. rw (read_whole accounts position book rest m, drop-drop, ← turn-position accounts position book rest) (ran-from n t.accounts t.position t.book s))))

begin-read : (book : List ℤ) (s : List ℕ) → beginning book (take opening_bytes s) ≡ beginning book s
unfolding beginning
begin-read book s = rw (opening-length s, opening-read s)

-- an opening has as many accounts as its first byte says, and none where it was cut short or refused; the first item stands after five bytes
module _ (book : List ℤ) (s : List ℕ) where
  begin-stands : ((beginning book s).accounts ≡ cond (beginning book s).more (opening_terms s).accounts 0) × ((beginning book s).position ≡ opening_bytes)
  unfolding beginning opened_by
  begin-stands = by (leb opening_bytes (length s)) refl
    where
      by : (b : Bool) → leb opening_bytes (length s) ≡ b → ((beginning book s).accounts ≡ cond (beginning book s).more (opening_terms s).accounts 0) × ((beginning book s).position ≡ opening_bytes)
      by true e = rw e (refl, refl)
      by false e = rw e (refl, refl)

  pub begin-accounts : (beginning book s).accounts ≡ cond (beginning book s).more (opening_terms s).accounts 0
  begin-accounts = begin-stands.0

  pub begin-position : (beginning book s).position ≡ opening_bytes
  begin-position = begin-stands.1

pub ran-printed : (s : List ℕ) → ran s ≡ printed s
unfolding ran printed
ran-printed s =
    let t = beginning new_words s in
    rw (begin-read new_words s)
    (ap (λ (r : List ℕ). t.line ++ cond t.more r []) (ap (λ (k : ℕ). ran_from (length s) t.accounts t.position t.book (drop k s)) (sym (begin-position new_words s)) ∙ ran-from (length s) t.accounts t.position t.book s))

-- ---- The bound on the number of items cuts nothing off: each has a byte

none_left : (n accounts position : ℕ) (book : List ℤ) (s : List ℕ) → length s ≤ position → printed_from n accounts position book s ≡ []
unfolding printed_from turn turn_of
none_left zero accounts position book s h = refl
none_left (suc n) accounts position book s h = rw (item-end (drop position s) (omega (arith, length-drop position s))) refl

pub printed-enough : (m n accounts position : ℕ) (book : List ℤ) (s : List ℕ) → length s ≤ position + m → length s ≤ position + n → printed_from m accounts position book s ≡ printed_from n accounts position book s
unfolding printed_from
printed-enough zero n accounts position book s h k = rw (none_left n accounts position book s (omega arith))
printed-enough (suc m) zero accounts position book s h k = none_left (suc m) accounts position book s (omega arith)
printed-enough (suc m) (suc n) accounts position book s h k =
    let rest = drop position s in
    let t = turn accounts position book rest in
    let p = turn-position accounts position book rest in
    let w = wanted-least rest in
    ap (λ (r : List ℕ). t.line ++ r)
    (where_more t.more _ _ (λ e. printed-enough m n t.accounts t.position t.book s (omega (arith, p, w)) (omega (arith, p, w))))
