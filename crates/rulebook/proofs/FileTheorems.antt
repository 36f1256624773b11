-- What is proved of submission files, in one place. It speaks of the four layouts written out (Encoding), of the rows that a book can take (Proper),
-- of the table's conditions at a file's fields (FileTable), and of the rule book's own form and judge (File, Judging). Assumes nothing.
use Rattle.std.specs.Prelude.{◌≡◌, false, List, ◌↔◌, ℕ, ◌<◌, T, ℤ, Ok}
use Rattle.rulebook.specs.declared.Terms.{Terms}
use Rattle.rulebook.specs.Terms.{InTerms}
use Rattle.rulebook.specs.BookData.{terms_of, next_day}
use Rattle.rulebook.specs.WellFormed.{well_formed}
use Rattle.rulebook.specs.File.{Row, end_pos}
use Rattle.rulebook.specs.Judging.{limits_of, judged}
use Rattle.rulebook.specs.Submit.{submitted}
use Rattle.rulebook.specs.Numbers.{accepted, not_well_formed, numbered, of_verdict, of_submit}
use Rattle.rulebook.specs.NamedRows.{NamedRow, named, named_rows}
use Rattle.rulebook.specs.Encoding.{encoded}
use Rattle.rulebook.specs.Proper.{Bytes, ProperRows, AllAlike, LackingZero}
use Rattle.rulebook.specs.Checks.{NoneStrikes, FirstStrikes}
use Rattle.rulebook.specs.FileTable.{fields_of, EndToEnd, checks}
use Rattle.rulebook.proofs.examples.EncodingExamples.{Written, written}
use Rattle.rulebook.proofs.laws.IntervalLaws.{lacking-zero}
use Rattle.rulebook.proofs.laws.EncodingLaws.{encoded-bytes, alike-bytes}
use Rattle.rulebook.proofs.laws.WholeLaws.{taken-whole}
use Rattle.rulebook.proofs.laws.EncodedFileLaws.{encoded-accepted}
use Rattle.rulebook.proofs.laws.AcceptedLaws.{accepted-proper, accepted-exactly}
use Rattle.rulebook.proofs.laws.StrikeLaws.{refused-exactly, accepted-clear}
use Rattle.rulebook.proofs.laws.AdjoinLaws.{fields_adjoin}
use Rattle.rulebook.proofs.laws.SubmitTableLaws.{submit-ill_formed, submit-refused, submit-accepted}

-- a book's terms are o, C is its next day to close
pub record FileTheorems : Type 0 where
  -- taken whole: the rows of an accepted file, written out, are the file
  pub taken_whole : (o : Terms) (C : ℕ) (file : List ℕ) → Bytes file → judged (limits_of o C) file ≡ (Ok tt) → encoded (named_rows file) ≡ file
  -- its rows are proper: of an account, the day open, counts and figures in range, each key once
  pub rows_proper : (o : Terms) → InTerms o → (C : ℕ) (file : List ℕ) → Bytes file → judged (limits_of o C) file ≡ (Ok tt) → ProperRows o C (named_rows file)
  -- conversely the file of proper rows is accepted, and its rows are those
  pub file_accepted : (o : Terms) → InTerms o → (C : ℕ) (rows : List NamedRow) → ProperRows o C rows
      → (judged (limits_of o C) (encoded rows) ≡ (Ok tt)) × AllAlike (named_rows (encoded rows)) rows
  -- rows that say the same are the same bytes, so that nothing is lost by "alike"; and what is written are bytes
  pub alike_bytes : (rows others : List NamedRow) → AllAlike rows others → encoded rows ≡ encoded others
  pub encoded_bytes : (rows : List NamedRow) → Bytes (encoded rows)
  -- so a file of bytes is accepted exactly if it is the file of proper rows
  pub accepted_exactly : (o : Terms) → InTerms o → (C : ℕ) (file : List ℕ) → Bytes file
      → (judged (limits_of o C) file ≡ (Ok tt)) ↔ ((rows : List NamedRow) × ProperRows o C rows × (encoded rows ≡ file))
  -- a figure that a row lacks reads zero
  pub lacking_zero : (row : Row) (i : ℕ) → LackingZero (named row) i
  -- numbers 4 to 8: a file is refused with number n at position p exactly if, of the table's conditions at the file's fields in order, n's is the first
  -- that strikes, at the field that starts at p
  pub refused_exactly : (o : Terms) → InTerms o → (C : ℕ) (file : List ℕ) (n p : ℕ) → 0 < n
      → (of_verdict (judged (limits_of o C) file) ≡ numbered n p) ↔ FirstStrikes (checks o C file) n p
  -- and accepted exactly if none strikes
  pub accepted_clear : (o : Terms) → InTerms o → (C : ℕ) (file : List ℕ) → (judged (limits_of o C) file ≡ (Ok tt)) ↔ NoneStrikes (checks o C file)
  -- so a submission to a lent book returns 3 exactly where the book is not well formed, and else by the table
  pub submit_ill_formed : (w : List ℤ) (file : List ℕ) → (of_submit (submitted w file).answer ≡ numbered not_well_formed 0) ↔ (well_formed w ≡ false)
  pub submit_refused : (w : List ℤ) (file : List ℕ) → T (well_formed w) → (n p : ℕ) → 0 < n
      → (of_submit (submitted w file).answer ≡ numbered n p) ↔ FirstStrikes (checks (terms_of w) (next_day w) file) n p
  pub submit_accepted : (w : List ℤ) (file : List ℕ) → T (well_formed w)
      → (of_submit (submitted w file).answer ≡ numbered accepted 0) ↔ NoneStrikes (checks (terms_of w) (next_day w) file)
  -- the fields stand end to end from 0
  pub fields_adjoin : (file : List ℕ) → EndToEnd 0 (fields_of file) (end_pos file)
  -- rows written out by hand
  pub written : Written

pub file-theorems : FileTheorems
file-theorems = record {
  taken_whole = λ o C. taken-whole (limits_of o C);
  rows_proper = accepted-proper;
  file_accepted = encoded-accepted;
  alike_bytes = alike-bytes;
  encoded_bytes = encoded-bytes;
  accepted_exactly = accepted-exactly;
  lacking_zero = lacking-zero;
  refused_exactly = refused-exactly;
  accepted_clear = accepted-clear;
  submit_ill_formed = submit-ill_formed;
  submit_refused = submit-refused;
  submit_accepted = submit-accepted;
  fields_adjoin = fields_adjoin;
  written = written;
}
