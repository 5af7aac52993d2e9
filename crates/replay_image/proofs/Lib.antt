pub mod Stamps
pub mod ReadBack
pub mod Examples
pub mod MomentStores
