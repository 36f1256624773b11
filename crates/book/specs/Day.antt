-- A day of the window, closed or open. Assumes nothing.
use Rattle.std.specs.Prelude.{Bool, true, false}
use Rattle.book.specs.declared.day.Day.{Day}
use Rattle.book.specs.declared.day.Day.TheVariants.{Closed, Open}

abbrev pub is_closed : Day → Bool
is_closed Closed = true
is_closed Open = false
