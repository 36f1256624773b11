-- A row's values, judged in the part of the file that they stand in. Assumes nothing.
use Rattle.std.specs.Prelude.{List, ℕ, ◌*◌}
use Rattle.rulebook.specs.declared.Section.{Section}
use Rattle.rulebook.specs.declared.Why.TheVariants.{NotWhole, OutOfRange}
use Rattle.rulebook.specs.Sections.{value_in_range}
use Rattle.rulebook.specs.File.{value_width, value_pos, value_at}
use Rattle.rulebook.specs.Judging.{Verdict, require, is_whole, ◌and_then◌}

-- value k of a row whose values are `part`, which starts at the file's position `from`
unfoldable pub value_in : Section → List ℕ → ℕ → ℕ → Verdict
value_in sec part from k =
    require (is_whole value_width part (value_width * k)) NotWhole (value_pos from k)
    and_then require (value_in_range sec k (value_at part (value_width * k))) OutOfRange (value_pos from k)
