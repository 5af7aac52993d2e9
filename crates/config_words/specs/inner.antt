pub mod Resetting
