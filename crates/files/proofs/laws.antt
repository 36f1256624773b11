-- laws, in the order in which they lean on each other
pub mod FieldsLaws
pub mod ValuesLaws
pub mod MarksLaws
pub mod RowsLaws
