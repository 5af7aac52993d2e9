pub mod Messages
pub mod Scan
pub mod Settling
pub mod Statuses
pub mod Insertion
pub mod Gathering
