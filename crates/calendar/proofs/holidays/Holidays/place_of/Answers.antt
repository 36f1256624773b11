-- `Holidays::place_of` meets its contract: the list ascends, so the test parts it.
use Rattle.std.proofs.Common.{rules, ltb}
use Rattle.integer.specs.Integer.{positive}
use Rattle.std.proofs.lemmas.List.Sorted.{IsPartitionPoint-from_clause}
use Rattle.calendar.proofs.laws.HolidayLaws.{parted, first_from}
use Rattle.calendar.proofs.holidays.Holidays.place_of.Goals as goal

pub invariant_of-result : goal.invariant_of-result
invariant_of-result c =
    let h = c.args.self.now in
    let d = c.args.day in
    record {
      first = first_from h.days.now h.proper d c.partition_point.result c.partition_point.ensures.bound
          (IsPartitionPoint-from_clause (λ z. ltb (positive z) d) h.days.now c.partition_point.result c.partition_point.ensures.partitioned (parted h.days.now h.proper d) (λ a r f h. search rules));
    }
