-- chapters, in the order of reading
pub mod Units
pub mod ReferencePrice
pub mod Shares
pub mod Tranches
pub mod Profile
pub mod DayAmount
pub mod Terms
pub mod Sections
pub mod Layout
pub mod BookData
pub mod WellFormed
pub mod FormedBook
pub mod RowPairs
pub mod WindowWalk
pub mod Answers
pub mod Opening
pub mod File
pub mod Judging
pub mod Submit
pub mod Close
pub mod Numbers
pub mod Checks
pub mod Calls
-- submission files written out, the rows that a book can take, the table at a file's fields
pub mod NamedRows
pub mod Encoding
pub mod Proper
pub mod FileTable
-- demand 3: histories, promises, statements
pub mod History
pub mod Promises
pub mod Demand3
pub mod Companion
pub mod SearchOrder
pub mod CloseTable
pub mod ProfileTable
pub mod Leaves
pub mod Bounds
-- between the words and the history: what each call keeps
pub mod Ledger
