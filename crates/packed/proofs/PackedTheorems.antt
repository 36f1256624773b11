-- What is proved of packed decimal, in one place. Assumes nothing.
use Rattle.std.specs.Prelude.{List, ℕ, ℤ}
use Rattle.packed.specs.PackedTable.{PackTable, WrittenBytes, UnpackTable, ReadExactly, WrittenRead, ReadWritten, OneField}
use Rattle.packed.proofs.examples.PackedExamples.{FieldFigures, field-figures, WrittenFigures, written-figures, ReadFigures, read-figures}
use Rattle.packed.proofs.laws.PackTableLaws.{pack-table}
use Rattle.packed.proofs.laws.UnpackTableLaws.{unpack-table}
use Rattle.packed.proofs.laws.WrittenBytesLaws.{written-bytes}
use Rattle.packed.proofs.laws.ThereAndBackLaws.{written_read, read-written, read-exactly, one_field}

pub record PackedTheorems : Type 0 where
  -- of any amounts and output: 1 and 10 exactly when, and every byte that is written
  pub packing : (amounts : List ℤ) (output : List ℕ) → PackTable amounts output
  -- where each digit stands
  pub written_bytes : (amounts : List ℤ) → WrittenBytes amounts
  -- of any bytes and output: 1, 10 and 16, each with its position, exactly if its check is the first that strikes
  pub unpacking : (s : List ℕ) (output : List ℤ) → UnpackTable s output
  -- accepted are the fields of statements, and nothing else
  pub read_exactly : (s : List ℕ) (output : List ℤ) → ReadExactly s output
  -- there and back, from either side
  pub written_read : (amounts : List ℤ) (bytes : List ℕ) (output : List ℤ) → WrittenRead amounts bytes output
  pub read_written : (s : List ℕ) (output : List ℤ) (bytes : List ℕ) → ReadWritten s output bytes
  -- one field for each amount, one amount for each field
  pub one_field : OneField
  -- fields in figures; statements written and read, each refusal
  pub field_figures : FieldFigures
  pub written_figures : WrittenFigures
  pub read_figures : ReadFigures

pub packed-theorems : PackedTheorems
packed-theorems = record {
  packing = pack-table;
  written_bytes = written-bytes;
  unpacking = unpack-table;
  read_exactly = read-exactly;
  written_read = written_read;
  read_written = read-written;
  one_field = one_field;
  field_figures = field-figures;
  written_figures = written-figures;
  read_figures = read-figures;
}
