pub mod Lateness
pub mod Totals
pub mod Orders
pub mod Differences
pub mod Reports
pub mod inner
