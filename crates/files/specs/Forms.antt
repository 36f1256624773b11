-- The form of a section's rows, as the code has it. Assumes nothing.
use Rattle.rulebook.specs.declared.Section.{Section}
use Rattle.rulebook.specs.Sections.{least_count, most_count}
use Rattle.rulebook.specs.File.{account_bytes, count_bytes}
use Rattle.files.specs.declared.sections.RowForm.{RowForm}

abbrev pub row_form : Section → RowForm
row_form sec = record { account_bytes = account_bytes sec; count_bytes = count_bytes sec; least_count = least_count sec; most_count = most_count sec }
