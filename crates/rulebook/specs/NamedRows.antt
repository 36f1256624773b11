-- Document 01, "A submission file": rows with their figures by interval and name, and the rows of a file so read. Assumes nothing.
use Rattle.std.specs.Prelude.{List, map, ℕ, ℤ}
use Rattle.rulebook.specs.declared.Section.{Section}
use Rattle.rulebook.specs.File.{Row, Figure, figure_of, file_rows}

-- what a row names, and its figures; the count is of tranches or facilities. An NCC row has account 0, rows without a count have 0
pub record NamedRow : Type 0 where
  pub section : Section
  pub account : ℕ
  pub day : ℕ
  pub count : ℕ
  pub figure : ℕ → Figure → ℤ

-- a row as the form reads it, with the figures that the history takes from it
abbrev pub named : Row → NamedRow
named r = record { section = r.section; account = r.account; day = r.day; count = r.count; figure = figure_of r }

-- the rows of a file, in file order
unfoldable pub named_rows : List ℕ → List NamedRow
named_rows file = map named (file_rows file)
