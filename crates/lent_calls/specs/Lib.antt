pub mod Chain
pub mod LentDemand3
