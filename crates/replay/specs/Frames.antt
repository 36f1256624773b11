-- What a frame leaves of the book: one word written, or what the library promises of the words lent to it. The fields themselves are what the
-- input has, so a promise says that there are some. Assumes nothing.
use Rattle.std.specs.Prelude.{◌≡◌, Bool, List, ◌≢◌, ℕ, ◌≤◌, ℤ, length, set, take, drop}
use Rattle.rulebook.specs.declared.Terms.{Terms}
use Rattle.rulebook.specs.declared.Edition.{Edition}
use Rattle.rulebook.specs.Opening.{opened}
use Rattle.rulebook.specs.Submit.{submitted}
use Rattle.rulebook.specs.Close.{closed}
use Rattle.rulebook.specs.Calls.{share_call}
use Rattle.packed.specs.Packed.{pack_call, unpack_call}
use Rattle.replay.specs.Commands.{starts}

-- ---- The first words of a list, lent

-- so many first words are left as `Left` says, the words beyond kept
pub record Lent (Left : List ℤ → List ℤ → Type 0) (before after : List ℤ) : Type 0 where
  pub count : ℕ
  pub within : count ≤ length before
  pub left : Left (take count before) (take count after)
  pub beyond : drop count after ≡ drop count before

-- ---- What a call leaves of the words lent to it

-- some terms, and what an opening by them leaves
pub record Opens (before after : List ℤ) : Type 0 where
  pub terms : Terms
  pub words : after ≡ (opened terms before).words

-- some file, and what its submission leaves
pub record Submits (before after : List ℤ) : Type 0 where
  pub file : List ℕ
  pub words : after ≡ (submitted before file).words

-- some statement, and what a close leaves
pub record Closes (before after : List ℤ) : Type 0 where
  pub statement : List ℤ
  pub words : after ≡ (closed before statement).words

-- ---- The book, frame by frame

-- one word written; none by an index past the end
pub record Poked (before after : List ℤ) : Type 0 where
  pub index : ℕ
  pub value : ℤ
  pub words : after ≡ set before index value

-- one frame, by the byte that starts it: P, O, S, C, and any other, which leaves the book as it was
pub data Framed (command : ℕ) (before after : List ℤ) : Type 0 where
  poking : command ≡ 80 → Poked before after → Framed command before after
  opening : command ≡ 79 → Lent Opens before after → Framed command before after
  submission : command ≡ 83 → Lent Submits before after → Framed command before after
  closing : command ≡ 67 → Lent Closes before after → Framed command before after
  kept : command ≢ 80 → command ≢ 79 → command ≢ 83 → command ≢ 67 → after ≡ before → Framed command before after

-- a frame that was read, and whether its byte starts one
pub record Stepped (more : Bool) (before after : List ℤ) : Type 0 where
  pub command : ℕ
  pub framed : Framed command before after
  pub more_is : more ≡ starts command

-- frames, one after another; since the input may write any word, this says of the whole what it says of each, and no more
pub data Ran (start : List ℤ) : List ℤ → Type 0 where
  begun : Ran start start
  next : {book after : List ℤ} {more : Bool} → Ran start book → Stepped more book after → Ran start after

-- ---- Words and bytes lent beside the book

-- a submission of the first bytes of a space, as they were read into it
pub record SubmittedFrom (book book_after : List ℤ) (space spaceAfter : List ℕ) : Type 0 where
  pub count : ℕ
  pub within : count ≤ length spaceAfter
  pub book-words : book_after ≡ (submitted book (take count spaceAfter)).words
  pub beyond : drop count spaceAfter ≡ drop count space

-- a close with the first words of a space as its statement
pub record ClosedWith (book space book_after spaceAfter : List ℤ) : Type 0 where
  pub count : ℕ
  pub within : count ≤ length space
  pub book-words : book_after ≡ (closed book (take count space)).words
  pub statement-words : take count spaceAfter ≡ (closed book (take count space)).statement
  pub beyond : drop count spaceAfter ≡ drop count space

-- shares, of an edition, of the UEGQ that were read to the start of one space, in the first words of another
pub record SharedFrom (e : Edition) (r : ℤ) (uegqs space uegqsAfter spaceAfter : List ℤ) : Type 0 where
  pub listed : ℕ
  pub listed-within : listed ≤ length uegqsAfter
  pub listed-beyond : drop listed uegqsAfter ≡ drop listed uegqs
  pub count : ℕ
  pub within : count ≤ length space
  pub words : take count spaceAfter ≡ (share_call e r (take listed uegqsAfter) (take count space)).output
  pub beyond : drop count spaceAfter ≡ drop count space

-- a statement that was read to the start of one space, in packed decimal in the first bytes of another, as they were read
pub record PackedFrom (words : List ℤ) (bytes : List ℕ) (wordsAfter : List ℤ) (bytesAfter : List ℕ) : Type 0 where
  pub listed : ℕ
  pub listed-within : listed ≤ length wordsAfter
  pub listed-beyond : drop listed wordsAfter ≡ drop listed words
  pub count : ℕ
  pub within : count ≤ length bytesAfter
  pub lent : List ℕ
  pub lent-count : length lent ≡ count
  pub written : take count bytesAfter ≡ (pack_call (take listed wordsAfter) lent).output
  pub beyond : drop count bytesAfter ≡ drop count bytes

-- the amounts of fields, in the first words of a space
pub record UnpackedFrom (fields : List ℕ) (words wordsAfter : List ℤ) : Type 0 where
  pub count : ℕ
  pub within : count ≤ length words
  pub read : take count wordsAfter ≡ (unpack_call fields (take count words)).output
  pub beyond : drop count wordsAfter ≡ drop count words
