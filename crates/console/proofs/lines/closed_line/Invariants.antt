-- The amounts so far stand behind the three numbers, each in at most 21 bytes.
use Rattle.std.specs.Prelude.{◌≡◌, ◌++◌, ◌+◌, ◌*◌, ◌≤◌, length, map, take}
use Rattle.console.specs.Decimal.{signed_decimal}
use Rattle.console.specs.Lines.{spaced}
use Rattle.console.proofs.lines.closed_line.Given as goal

abbrev pub invariant-loop-amount : goal.invariant-loop-amount
invariant-loop-amount o l = record {
  put : l.line ≡ l.initial.line ++ spaced (map signed_decimal (take l.amount-index l.amounts));
  short : length l.line ≤ 68 + 21 * l.amount-index;
}
