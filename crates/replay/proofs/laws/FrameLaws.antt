-- Laws of frames: first words that were lent and came back, the words beyond behind them. Assumes nothing.
use Rattle.std.specs.Prelude.{◌≡◌, List, ◌++◌, ℕ, ◌≤◌, ℤ, length, take, drop}
use Rattle.std.proofs.Common.{sym, ap, subst, ◌∙◌, arith, length-append, length-drop, take_at, drop_at, length-take-le}
use Rattle.rulebook.specs.declared.Edition.{Edition}
use Rattle.rulebook.specs.Close.{closed}
use Rattle.rulebook.specs.Calls.{share_call}
use Rattle.packed.specs.Packed.{pack_call, unpack_call}
use Rattle.replay.specs.Fields.{words_in, ListRead}
use Rattle.replay.specs.Frames.{Lent, Submits, Closes, SubmittedFrom, ClosedWith, SharedFrom, PackedFrom, UnpackedFrom}

-- n first words, or bytes, of xs came back as ys
module _ {A : Type 0} (n : ℕ) (xs ys : List A) (within : n ≤ length xs) (same : length (ys ++ drop n xs) ≡ length xs) where
  back : length ys ≡ n
  back = omega (arith, length-append ys (drop n xs), length-drop n xs)

  pub first_back : take n (ys ++ drop n xs) ≡ ys
  first_back = take_at ys (drop n xs) n back

  pub beyond-back : drop n (ys ++ drop n xs) ≡ drop n xs
  beyond-back = drop_at ys (drop n xs) n back

  pub counts-back : (n ≤ length (ys ++ drop n xs)) × (n ≡ length (take n (ys ++ drop n xs)))
  counts-back = (omega arith, sym (length-take-le n (ys ++ drop n xs) (omega arith)))

module _ (n : ℕ) (xs ys : List ℤ) (within : n ≤ length xs) (same : length (ys ++ drop n xs) ≡ length xs) where
  pub lent_of : (Left : List ℤ → List ℤ → Type 0) → Left (take n xs) ys → Lent Left xs (ys ++ drop n xs)
  lent_of Left l =
      record { count = n; within = within; left = subst (Left (take n xs)) (sym (first_back n xs ys within same)) l; beyond = beyond-back n xs ys within same }

  pub closed-with_of : (book after : List ℤ)
      → (after ≡ (closed book (take n xs)).words) × (ys ≡ (closed book (take n xs)).statement) → ClosedWith book xs after (ys ++ drop n xs)
  closed-with_of book after e =
      record { count = n; within = within; book-words = e.0; statement-words = first_back n xs ys within same ∙ e.1; beyond = beyond-back n xs ys within same }

  pub listed_of : (bytes : List ℕ) → ys ≡ words_in (length (take n xs)) bytes → ListRead n xs (ys ++ drop n xs) bytes
  listed_of bytes e =
      record {
        counts = counts-back n xs ys within same;
        words = first_back n xs ys within same ∙ e ∙ ap (λ k. words_in k bytes) (length-take-le n xs within);
        beyond = beyond-back n xs ys within same;
      }

  pub shared_of : {k : Edition} {r s : ℤ} (m : ℕ) (uegqs uegqsAfter : List ℤ)
      → r ≡ s → m ≤ length uegqsAfter → drop m uegqsAfter ≡ drop m uegqs → ys ≡ (share_call k r (take m uegqsAfter) (take n xs)).output
      → SharedFrom k s uegqs xs uegqsAfter (ys ++ drop n xs)
  shared_of {k} m uegqs uegqsAfter e h b w =
      record {
        listed = m;
        listed-within = h;
        listed-beyond = b;
        count = n;
        within = within;
        words = first_back n xs ys within same ∙ w ∙ ap (λ x. (share_call k x (take m uegqsAfter) (take n xs)).output) e;
        beyond = beyond-back n xs ys within same;
      }

  pub unpacked_of : (fields : List ℕ) → ys ≡ (unpack_call fields (take n xs)).output → UnpackedFrom fields xs (ys ++ drop n xs)
  unpacked_of fields e = record { count = n; within = within; read = first_back n xs ys within same ∙ e; beyond = beyond-back n xs ys within same }

-- bytes xs, read over others before, of which n came back as ys
pub packed-of : (n : ℕ) (before xs ys : List ℕ) → n ≤ length xs → length (ys ++ drop n xs) ≡ length xs → (m : ℕ) (words wordsAfter : List ℤ)
    → m ≤ length wordsAfter → drop m wordsAfter ≡ drop m words → drop n xs ≡ drop n before → ys ≡ (pack_call (take m wordsAfter) (take n xs)).output
    → PackedFrom words before wordsAfter (ys ++ drop n xs)
packed-of n before xs ys within same m words wordsAfter h b k w =
    record {
      listed = m;
      listed-within = h;
      listed-beyond = b;
      count = n;
      within = (counts-back n xs ys within same).0;
      lent = take n xs;
      lent-count = length-take-le n xs within;
      written = first_back n xs ys within same ∙ w;
      beyond = beyond-back n xs ys within same ∙ k;
    }

-- some statement was there
pub closes-of : {book space after spaceAfter : List ℤ} → ClosedWith book space after spaceAfter → Closes book after
closes-of {space = space} w = record { statement = take w.count space; words = w.book-words }

-- some file was there
pub submits_of : {book after : List ℤ} {space spaceAfter : List ℕ} → SubmittedFrom book after space spaceAfter → Submits book after
submits_of {spaceAfter = spaceAfter} s = record { file = take s.count spaceAfter; words = s.book-words }
