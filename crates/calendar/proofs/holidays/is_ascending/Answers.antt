-- `is_ascending` meets its contract: each entry and the next are in order.
use Rattle.std.proofs.Common.{rules}
use Rattle.std.specs.Int.Signed.{lt_z}
use Rattle.std.proofs.lemmas.List.Sorted.{answers_always}
use Rattle.calendar.proofs.laws.HolidayLaws.{sorted_ascends}
use Rattle.calendar.proofs.holidays.is_ascending.Goals as goal

pub returns : goal.returns
returns c = sorted_ascends c.args.days.now c.is_sorted_by.result (c.is_sorted_by.ensures.cases lt_z (answers_always _ _ _ (λ f a r g h. search rules)))
