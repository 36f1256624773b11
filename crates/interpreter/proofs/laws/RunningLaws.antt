-- A run stands at the opening's turn, and each step brings it to the next. Assumes nothing.
use Rattle.std.specs.Prelude.{◌≡◌, Bool, true, false, cond, List, ℕ, ℤ, Result, Ok, Err, IfOk, ◌≤◌}
use Rattle.std.proofs.Common.{refl, ap, arith}
use Rattle.interpreter.specs.declared.Next.{Next}
use Rattle.interpreter.specs.Interpreter.{most_accounts, Turn, beginning, turn, next_of, handed, Hands, Begins}
use Rattle.interpreter.specs.Running.{Reached, begun, next, Stands, Steps}

-- a turn that hands on `Ok` goes on, with its accounts and position
pub handed-ok : (t : Turn) (q : Next) → Ok q ≡ handed t → (t.more ≡ true) × (q ≡ next_of t)
handed-ok t q e = by t.more refl e
  where
    by : (b : Bool) → t.more ≡ b → ◌≡◌ {A = Result Next Next} (Ok q) (cond b (Ok (next_of t)) (Err (next_of t))) → (t.more ≡ true) × (q ≡ next_of t)
    by true m h = (m, cc)
    by false m h = absurd (let z : ◌≡◌ {A = ℕ} 0 1 = cc in omega arith)

-- and one that hands on `Err` ends, and tells them too
pub handed-err : (t : Turn) (q : Next) → Err q ≡ handed t → (t.more ≡ false) × (q ≡ next_of t)
handed-err t q e = by t.more refl e
  where
    by : (b : Bool) → t.more ≡ b → ◌≡◌ {A = Result Next Next} (Err q) (cond b (Ok (next_of t)) (Err (next_of t))) → (t.more ≡ false) × (q ≡ next_of t)
    by true m h = absurd (let z : ◌≡◌ {A = ℕ} 0 1 = cc in omega arith)
    by false m h = (m, cc)

-- what is handed on has no more accounts than a book
pub handed-few : (t : Turn) (r : Result Next Next) → r ≡ handed t → t.accounts ≤ most_accounts → IfOk r (λ (q : Next). q.accounts ≤ most_accounts)
handed-few t r e h = rw e (by t.more)
  where
    by : (b : Bool) → IfOk (cond b (Ok (next_of t)) (Err (next_of t))) (λ (q : Next). q.accounts ≤ most_accounts)
    by true = h
    by false = tt

-- and where the turn's next item stands within the input, so does it
pub handed-within : (t : Turn) (r : Result Next Next) {n : ℕ} → r ≡ handed t → (t.more ≡ true → t.position ≤ n) → IfOk r (λ (q : Next). q.position ≤ n)
handed-within t r {n} e h = rw e (by t.more h)
  where
    by : (b : Bool) → (b ≡ true → t.position ≤ n) → IfOk (cond b (Ok (next_of t)) (Err (next_of t))) (λ (q : Next). q.position ≤ n)
    by true g = g refl
    by false g = tt

-- nor is it before where the turn's next item stands
pub handed-at : (t : Turn) (q : Next) → Ok q ≡ handed t → q.position ≡ t.position
handed-at t q e = ap (λ (n : Next). n.position) (handed-ok t q e).1

module _ (Read : ℕ → List ℕ → Type 0) {start : List ℤ} {opening : List ℕ} where
  -- the figures of a turn that was reached
  stands_at : (from : ℕ) (s : List ℕ) (t : Turn) {line_after : List ℕ} {book_after : List ℤ} {r : Result Next Next} → Reached Read start opening t → Hands from s t r book_after line_after
      → Stands Read start opening r book_after line_after
  stands_at from s t h p = record {
    left = record { last = t; reached = h; book_left = p.book_left; printed = p.printed };
    goes_on = p.goes_on;
  }

  pub stands-begun : {line_after : List ℕ} {book_after : List ℤ} {r : Result Next Next} → Begins start opening r book_after line_after → Stands Read start opening r book_after line_after
  stands-begun p = stands_at 0 opening (beginning start opening) begun p

  pub stands-next : {book : List ℤ} {line line_after : List ℕ} {book_after : List ℤ} {q : Next} {r : Result Next Next} → Stands Read start opening (Ok q) book line
      → Steps Read q.accounts q.position book r book_after line_after → Stands Read start opening r book_after line_after
  stands-next {book} {q = q} h p =
      let g = handed-ok h.left.last q h.goes_on in
      stands_at q.position p.read (turn q.accounts q.position book p.read)
      (rw (g.1, h.left.book_left) (next p.read h.left.reached g.0 (rw g.1 at p.item))) p.done
