-- What an accepted close leaves. Assumes nothing.
use Rattle.std.specs.Prelude.{◌≡◌, ◌≢◌, ◌⊎◌, Bool, cond, List, ℤ, ◌+ℤ◌, set}
use Rattle.std.proofs.Math.Path.{refl, ap, subst}
use Rattle.std.proofs.Common.{sym, ◌∙◌, inl, inr, not-suc-le-zero, add-suc}
use Rattle.std.proofs.Math.Bool.{true, false}
use Prim.Native.Nat.{ℕ, zero, suc, ◌+◌, ◌-◌, ◌*◌, ◌/◌, ◌%◌, ◌≤◌, ◌<◌}
use Rattle.std.proofs.Math.Nat.{add-mul, mul_assoc, add-mod_right}
use native.Mathlib.Omega.{arith}
use Rattle.std.proofs.Math.Decide.{ℕ_discrete, dec_le}
use Rattle.std.proofs.Math.IntN.{pos}
use Rattle.std.proofs.Math.Dec.{T, leb→le, le→leb}
use Rattle.std.proofs.Math.Arith.{digits_lt}
use Rattle.std.proofs.Math.ListN.{length, length-set}
use Rattle.std.proofs.Math.Seq.{get_or-set_same, get_or-set_other}
use Rattle.integer.specs.Words.{word}
use Rattle.integer.proofs.laws.WordsLaws.{row_of}
use Rattle.rulebook.specs.declared.Section.{Section}
use Rattle.rulebook.specs.declared.Terms.{Terms}
use Rattle.rulebook.specs.DayAmount.{settles_residual}
use Rattle.rulebook.specs.Sections.{accounts_of}
use Rattle.rulebook.specs.Layout.{stored, width, place, interval_size, slot_length, ring, base, size, slot, interval_word, slot_start, row_word, interval_words, account_words, mark_word, accounts_word, lag_word, horizon_word, first_day_word, next_day_word, mssl_word, change_day_word, differences_word, balance_word, balance_padding, header_padding, InWindow}
use Rattle.rulebook.specs.WindowWalk.{window_slot}
use Rattle.rulebook.specs.Close.{posted, posted_to_mssl, day_difference, balances_grown_by, balances_grown, sums_grown, slot_blanked, day_closed}
use Rattle.rulebook.specs.Ledger.{Ledger, HoldsLedger, Padding}
use Rattle.rulebook.proofs.laws.TestLaws.{below_suc}
use Rattle.rulebook.proofs.laws.LayoutLaws.{days-apart, interval-apart, interval-inside, row_inside, slot-inside, remainder}
use Rattle.rulebook.proofs.laws.WordLaws.{stored-in, stored-out, length-stored}
use Rattle.rulebook.proofs.laws.LedgerLaws.{padding-fits}

-- ---- Balances grown by any amounts

module _ (w : List ℤ) (f : ℕ → ℤ) where
  pub length-grown : (n : ℕ) → length (balances_grown_by w f n) ≡ length w
  unfolding balances_grown_by
  length-grown zero = refl
  length-grown (suc n) = length-set (balances_grown_by w f n) _ _ ∙ length-grown n

  pub grown-out : (n m : ℕ) → ((a : ℕ) → a < n → m ≡ balance_word a → ⊥) → word (balances_grown_by w f n) m ≡ word w m
  unfolding balances_grown_by
  grown-out zero m h = refl
  grown-out (suc n) m h = get_or-set_other (balances_grown_by w f n) (balance_word n) m _ (pos 0) (h n (omega arith)) ∙ grown-out n m (λ a x. h a (omega arith))

  pub grown-in : (n a : ℕ) → a < n → balance_word a < length w → word (balances_grown_by w f n) (balance_word a) ≡ word w (balance_word a) +ℤ f a
  unfolding balances_grown_by
  grown-in zero a h l = absurd (not-suc-le-zero h)
  grown-in (suc n) a h l = go (λ x. grown-in n a x l) (below_suc h)
    where
      go : (a < n → word (balances_grown_by w f n) (balance_word a) ≡ word w (balance_word a) +ℤ f a) → (a < n) ⊎ (a ≡ n)
          → word (balances_grown_by w f (suc n)) (balance_word a) ≡ word w (balance_word a) +ℤ f a
      go ih (inl x) = get_or-set_other (balances_grown_by w f n) (balance_word n) (balance_word a) _ (pos 0) (omega arith) ∙ ih x
      go ih (inr x) = rw x (get_or-set_same (balances_grown_by w f n) (balance_word n) _ (pos 0) (omega (arith, length-grown n)))

-- amounts that agree
pub grown-cong : (w : List ℤ) (f g : ℕ → ℤ) (n : ℕ) → ((a : ℕ) → a < n → f a ≡ g a) → balances_grown_by w f n ≡ balances_grown_by w g n
unfolding balances_grown_by
grown-cong w f g zero h = refl
grown-cong w f g (suc n) h = rw (grown-cong w f g n (λ a l. h a (omega arith)), h n (omega arith))

-- ---- The close

module _ (o : Terms) where
  pub base-fits : base o ≤ size o
  unfolding size
  base-fits = omega arith

  pub window-next : (k u : ℕ) → window_slot o k (suc u) ≡ window_slot o (suc k) u
  unfolding window_slot
  window-next k u = ap (λ (y : ℕ). y % ring o) (omega arith)

  -- a slot's words stand one after the other
  pub slot-form : (t i m : ℕ) → interval_word o t i m ≡ base o + (t * (48 * interval_size o) + (i * interval_size o + m))
  unfolding interval_word
  slot-form t i m = omega (arith, add-mul (t * 48) i (interval_size o), mul_assoc t 48 (interval_size o))

  in_slot : {i m : ℕ} → i < 48 → m < interval_size o → i * interval_size o + m < 48 * interval_size o
  in_slot hi hm = digits_lt hi hm

  -- r's slot blanked
  module _ (v : List ℤ) (t : ℕ) where
    blank : List ℤ
    blank = stored v (interval_word o t 0 0) (48 * interval_size o) (λ m. pos 0)

    pub blank-in : (i m : ℕ) → i < 48 → m < interval_size o → size o ≤ length v → t < ring o
        → word (stored v (interval_word o t 0 0) (48 * interval_size o) (λ m. pos 0)) (interval_word o t i m) ≡ pos 0
    blank-in i m hi hm l ht =
        let e : interval_word o t 0 0 + (i * interval_size o + m) ≡ interval_word o t i m = omega (arith, slot-form t 0 0, slot-form t i m) in
        let b = interval-inside o ht hi hm in
        rw (← e) (stored-in v (interval_word o t 0 0) (48 * interval_size o) (λ m. pos 0) (i * interval_size o + m) (omega arith) (in_slot hi hm))

    -- every word that is not of it is kept
    pub blank-out : (n : ℕ) → ((i m : ℕ) → i < 48 → m < interval_size o → n ≢ interval_word o t i m)
        → word (stored v (interval_word o t 0 0) (48 * interval_size o) (λ m. pos 0)) n ≡ word v n
    blank-out n out = stored-out v (interval_word o t 0 0) (48 * interval_size o) (λ m. pos 0) n (λ j hj e.
        let q = row_of j 48 (interval_size o) hj in
        out (j / interval_size o) (j % interval_size o) q.2 q.1 (omega (arith, q.0, slot-form t 0 0, slot-form t (j / interval_size o) (j % interval_size o))))

  module _ (w : List ℤ) (D : ℕ) where
    abbrev grown : List ℤ
    grown = balances_grown o w D o.accounts

    abbrev credit : ℤ
    credit = word w mssl_word +ℤ posted_to_mssl o w D

    abbrev rounded : ℤ
    rounded = word w differences_word +ℤ day_difference o w D

    -- the words before r's slot is blanked
    unfoldable pub counted : List ℤ
    counted = set (sums_grown o w D) next_day_word (pos (suc D))

    pub length-sums : length (sums_grown o w D) ≡ length w
    unfolding sums_grown
    length-sums = simp length-set (length-grown w (posted o w D) o.accounts)

    pub sums-out : (m : ℕ) → m ≢ mssl_word → m ≢ differences_word → ((a : ℕ) → a < o.accounts → m ≢ balance_word a) → word (sums_grown o w D) m ≡ word w m
    unfolding sums_grown
    sums-out m f g h = get_or-set_other (set grown mssl_word credit) differences_word m rounded (pos 0) g
        ∙ get_or-set_other grown mssl_word m credit (pos 0) f ∙ grown-out w (posted o w D) o.accounts m h

    length-counted : length counted ≡ length w
    unfolding counted
    length-counted = simp (length-set, length-sums)

    pub counted_next : base o ≤ length w → word counted next_day_word ≡ pos (suc D)
    unfolding counted base
    counted_next l = get_or-set_same (sums_grown o w D) next_day_word (pos (suc D)) (pos 0) (omega (arith, length-sums))

    -- but for the next day's, the sums' words
    counted-sum : (m : ℕ) → m ≢ next_day_word → word counted m ≡ word (sums_grown o w D) m
    unfolding counted
    counted-sum m f = get_or-set_other (sums_grown o w D) next_day_word m (pos (suc D)) (pos 0) f

    pub counted-mssl : base o ≤ length w → word counted mssl_word ≡ word w mssl_word +ℤ posted_to_mssl o w D
    unfolding sums_grown base
    counted-mssl l = counted-sum mssl_word (omega arith) ∙ get_or-set_other (set grown mssl_word credit) differences_word mssl_word rounded (pos 0) (omega arith)
        ∙ get_or-set_same grown mssl_word credit (pos 0) (omega (arith, length-grown w (posted o w D) o.accounts))

    pub counted-difference : base o ≤ length w → word counted differences_word ≡ word w differences_word +ℤ day_difference o w D
    unfolding sums_grown base
    counted-difference l = counted-sum differences_word (omega arith)
        ∙ get_or-set_same (set grown mssl_word credit) differences_word rounded (pos 0) (omega (arith, length-set grown mssl_word credit, length-grown w (posted o w D) o.accounts))

    pub counted-balance : base o ≤ length w → (a : ℕ) → a < o.accounts → word counted (balance_word a) ≡ word w (balance_word a) +ℤ posted o w D a
    unfolding sums_grown base
    counted-balance l a h = counted-sum (balance_word a) (omega arith) ∙ get_or-set_other (set grown mssl_word credit) differences_word (balance_word a) rounded (pos 0) (omega arith)
        ∙ get_or-set_other grown mssl_word (balance_word a) credit (pos 0) (omega arith) ∙ grown-in w (posted o w D) o.accounts a h (omega arith)

    pub counted-out : (m : ℕ) → m ≢ next_day_word → m ≢ mssl_word → m ≢ differences_word → ((a : ℕ) → a < o.accounts → m ≢ balance_word a) → word counted m ≡ word w m
    counted-out m f g d h = counted-sum m f ∙ sums-out m g d h

    counted-slot : (t i m : ℕ) → word counted (interval_word o t i m) ≡ word w (interval_word o t i m)
    unfolding interval_word base
    counted-slot t i m = counted-out (interval_word o t i m) (omega arith) (omega arith) (omega arith) (λ a x e. omega arith)

    -- what the close leaves outside r's slot, below the intervals, in r's slot, and in every other
    pub closed-elsewhere : (n : ℕ) → (T (settles_residual o D) → (i m : ℕ) → i < 48 → m < interval_size o → n ≢ interval_word o (slot o (D - o.lag)) i m)
        → word (day_closed o w D) n ≡ word counted n
    unfolding day_closed slot_blanked counted slot_start interval_size
    closed-elsewhere n out = go (settles_residual o D) out
      where
        go : (b : Bool) → (T b → (i m : ℕ) → i < 48 → m < interval_size o → n ≢ interval_word o (slot o (D - o.lag)) i m)
            → word (cond b (stored counted (slot_start o (D - o.lag)) (slot_length o.accounts) (λ m. pos 0)) counted) n ≡ word counted n
        go true f = blank-out counted (slot o (D - o.lag)) n (f tt)
        go false f = refl

    pub closed-front : (n : ℕ) → n < base o → word (day_closed o w D) n ≡ word counted n
    unfolding interval_word
    closed-front n h = closed-elsewhere n (λ t i m hi hm e. omega arith)

    closed-length : length (day_closed o w D) ≡ length w
    unfolding day_closed slot_blanked counted slot_start interval_size
    closed-length = go (settles_residual o D) ∙ length-counted
      where
        go : (b : Bool) → length (cond b (stored counted (slot_start o (D - o.lag)) (slot_length o.accounts) (λ m. pos 0)) counted) ≡ length counted
        go true = length-stored counted _ _ _
        go false = refl

    pub closed_in : (i m : ℕ) → i < 48 → m < interval_size o → size o ≤ length w → zero < ring o → T (settles_residual o D)
        → word (day_closed o w D) (interval_word o (slot o (D - o.lag)) i m) ≡ pos 0
    unfolding day_closed slot_blanked counted slot_start interval_size
    closed_in i m hi hm l p h = go (settles_residual o D) h
      where
        go : (b : Bool) → T b → word (cond b (stored counted (slot_start o (D - o.lag)) (slot_length o.accounts) (λ m. pos 0)) counted)
            (interval_word o (slot o (D - o.lag)) i m) ≡ pos 0
        go true x = blank-in counted (slot o (D - o.lag)) i m hi hm (omega (arith, length-counted)) (slot-inside o (D - o.lag) p)
        go false x = absurd x

    closed-out : (t i m : ℕ) → i < 48 → m < interval_size o → (T (settles_residual o D) → t ≡ slot o (D - o.lag) → ⊥)
        → word (day_closed o w D) (interval_word o t i m) ≡ word w (interval_word o t i m)
    closed-out t i m hi hm f = closed-elsewhere (interval_word o t i m) (λ x i' m' hi' hm' e. f x (interval-apart o t (slot o (D - o.lag)) hi hi' hm hm' e).0) ∙ counted-slot t i m

-- a close of the words that hold a ledger
module _ (o : Terms) (p : zero < ring o) (before : Ledger) (w : List ℤ) (h : HoldsLedger o before w) where
  abbrev k : ℕ
  k = before.closed

  -- one closed day more, each balance grown by what is posted, and the differences by the day's
  abbrev pub after_close : Ledger
  after_close = record {
    closed = suc k;
    entries = before.entries;
    balance = λ a. before.balance a +ℤ posted o w (o.first + k) a;
    mssl = before.mssl +ℤ posted_to_mssl o w (o.first + k);
    differences = before.differences +ℤ day_difference o w (o.first + k);
  }

  residual-begun : T (settles_residual o (o.first + k)) → o.lag ≤ k
  unfolding settles_residual
  residual-begun t = let x = leb→le (o.first + o.lag) (o.first + k) t in omega arith

  begun-residual : o.lag ≤ k → T (settles_residual o (o.first + k))
  unfolding settles_residual
  begun-residual x = le→leb (o.first + o.lag) (o.first + k) (omega arith)

  residual-day : o.lag ≤ k → InWindow o k (o.first + k - o.lag)
  unfolding ring
  residual-day x = omega arith

  -- the slot of the day that a close of C opens is the slot of r
  reopened : o.lag ≤ k → slot o (o.first + k + o.horizon) ≡ slot o (o.first + k - o.lag)
  unfolding slot ring
  reopened x =
      let e : o.first + k + o.horizon - o.first ≡ (o.first + k - o.lag - o.first) + (o.lag + o.horizon) = omega arith in
      rw e (add-mod_right (o.first + k - o.lag - o.first) (o.lag + o.horizon))

  opened-early : slot o (o.first + k + o.horizon) ≡ window_slot o k 0
  unfolding slot window_slot
  opened-early = ap (λ (x : ℕ). x % ring o) (omega arith)

  module _ (unsent : (s : Section) (a i j : ℕ) → before.entries s a (o.first + k + o.horizon) i j ≡ pos 0) where
    closed-held : (s : Section) (a d i j : ℕ) → InWindow o (suc k) d → a < accounts_of s o.accounts → i < 48 → j < width s
        → word (day_closed o w (o.first + k)) (row_word o s a d i j) ≡ before.entries s a d i j
    unfolding row_word interval_size
    closed-held s a d i j x ha hi hj = go (below_suc {i = d} {n = o.first + k + o.horizon} (omega arith))
      where
        m : ℕ
        m = place s a j

        hm : m < interval_words + account_words * o.accounts
        hm = row_inside o.accounts s a j ha hj

        fresh : d ≡ o.first + k + o.horizon → Dec (o.lag ≤ k) → word (day_closed o w (o.first + k)) (interval_word o (slot o d) i m) ≡ pos 0
        fresh e (yes b) = rw (e, reopened b) (closed_in o w (o.first + k) i m hi hm h.long p (begun-residual b))
        fresh e (no b) = closed-out o w (o.first + k) (slot o d) i m hi hm (λ t. absurd (b (residual-begun t)))
            ∙ rw (e, opened-early) (h.early 0 i m (omega arith) hi hm)

        go : (d < o.first + k + o.horizon) ⊎ (d ≡ o.first + k + o.horizon) → word (day_closed o w (o.first + k)) (interval_word o (slot o d) i m) ≡ before.entries s a d i j
        go (inl y) =
            let z : InWindow o k d = omega arith in
            closed-out o w (o.first + k) (slot o d) i m hi hm
            (λ t e. let q = days-apart o k d (o.first + k - o.lag) z (residual-day (residual-begun t)) e in omega (arith, residual-begun t))
            ∙ h.held s a d i j z ha hi hj
        go (inr y) = fresh y (dec_le o.lag k) ∙ rw y (sym (unsent s a i j))

    closed-padding : (t i m : ℕ) → t < ring o → i < 48 → Padding o.accounts m → word (day_closed o w (o.first + k)) (interval_word o t i m) ≡ pos 0
    closed-padding t i m ht hi hm = go (ℕ_discrete t (slot o (o.first + k - o.lag))) (dec_le o.lag k)
      where
        out : (T (settles_residual o (o.first + k)) → t ≡ slot o (o.first + k - o.lag) → ⊥) → word (day_closed o w (o.first + k)) (interval_word o t i m) ≡ pos 0
        out f = closed-out o w (o.first + k) t i m hi (padding-fits o m hm) f ∙ h.padding t i m ht hi hm

        go : Dec (t ≡ slot o (o.first + k - o.lag)) → Dec (o.lag ≤ k) → word (day_closed o w (o.first + k)) (interval_word o t i m) ≡ pos 0
        go (yes e) (yes b) = rw e (closed_in o w (o.first + k) i m hi (padding-fits o m hm) h.long p (begun-residual b))
        go (yes e) (no b) = out (λ x y. b (residual-begun x))
        go (no e) b = out (λ x y. e y)

    -- what an accepted close leaves holds that
    pub day-held : HoldsLedger o after_close (day_closed o w (o.first + k))
    unfolding base
    day-held = record {
      long = omega (arith, closed-length o w D, h.long);
      mark = front mark_word (omega arith) (omega arith) (omega arith) (omega arith) (omega arith) ∙ h.mark;
      accounts = front accounts_word (omega arith) (omega arith) (omega arith) (omega arith) (omega arith) ∙ h.accounts;
      lag = front lag_word (omega arith) (omega arith) (omega arith) (omega arith) (omega arith) ∙ h.lag;
      horizon = front horizon_word (omega arith) (omega arith) (omega arith) (omega arith) (omega arith) ∙ h.horizon;
      first = front first_day_word (omega arith) (omega arith) (omega arith) (omega arith) (omega arith) ∙ h.first;
      next = closed-front o w D next_day_word (omega arith) ∙ counted_next o w D longer ∙ ap pos (sym (add-suc o.first k));
      mssl = closed-front o w D mssl_word (omega arith) ∙ counted-mssl o w D longer ∙ ap (λ (x : ℤ). x +ℤ posted_to_mssl o w D) h.mssl;
      differences = closed-front o w D differences_word (omega arith) ∙ counted-difference o w D longer ∙ ap (λ (x : ℤ). x +ℤ day_difference o w D) h.differences;
      change = front change_day_word (omega arith) (omega arith) (omega arith) (omega arith) (omega arith) ∙ h.change;
      header_zeros = λ n x. front (header_padding n) (omega arith) (omega arith) (omega arith) (omega arith) (λ a y e. omega arith) ∙ h.header_zeros n x;
      balances = λ a x. closed-front o w D (balance_word a) (omega arith) ∙ counted-balance o w D longer a x ∙ ap (λ (y : ℤ). y +ℤ posted o w D a) (h.balances a x);
      balance_zeros = λ a j x y. front (balance_padding a j) (omega arith) (omega arith) (omega arith) (omega arith)
          (λ b z e. let q = remainder a b {m = 8} {r = 1 + j} {r' = 0} (omega arith) (omega arith) (omega arith) in omega arith) ∙ h.balance_zeros a j x y;
      held = closed-held;
      early = λ u i m x hi hm. closed-out o w D (window_slot o (suc k) u) i m hi hm (λ t e. omega (arith, residual-begun t))
          ∙ subst (λ (y : ℕ). word w (interval_word o y i m) ≡ pos 0) (later u) (h.early (suc u) i m (omega arith) hi hm);
      padding = closed-padding;
    }
      where
        D : ℕ
        D = o.first + k

        longer : base o ≤ length w
        longer = omega (arith, base-fits o, h.long)

        later : (u : ℕ) → window_slot o k (suc u) ≡ window_slot o (suc k) u
        later u = window-next o k u

        front : (n : ℕ) → n < base o → n ≢ next_day_word → n ≢ mssl_word → n ≢ differences_word → ((a : ℕ) → a < o.accounts → n ≡ balance_word a → ⊥) → word (day_closed o w D) n ≡ word w n
        front n b f g d c = closed-front o w D n b ∙ counted-out o w D n f g d c
