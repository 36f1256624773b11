-- What is computed here, in one place. Assumes nothing.
use Rattle.computed.specs.TableExamples.{Table, table, Refusals, refusals, ThreeAccounts, three-accounts}
use Rattle.computed.specs.JudgingExamples.{FileWindows, file-windows, Keys, keys}
use Rattle.computed.specs.CrossingExamples.{Crossing, crossing}

pub record Computed : Type 0 where
  -- the files of the table of numbers, and further refusals
  pub table : Table
  pub refusals : Refusals
  pub three_accounts : ThreeAccounts
  -- files at the ends of their windows, with accounts and keys
  pub windows : FileWindows
  pub keys : Keys
  -- a list of calls that crosses X
  pub crossing : Crossing

pub computed : Computed
computed = record {
  table = table;
  refusals = refusals;
  three_accounts = three-accounts;
  windows = file-windows;
  keys = keys;
  crossing = crossing;
}
