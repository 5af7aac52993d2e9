pub mod Signed
pub mod Rows
pub mod Totals
pub mod Csv
pub mod Refusals
