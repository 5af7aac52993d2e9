pub mod Fields
pub mod Blank
pub mod Status
pub mod Root
pub mod Events
pub mod Settle
pub mod MadeReady
pub mod inner
