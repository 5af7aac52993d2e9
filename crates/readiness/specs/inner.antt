pub mod Earliest
pub mod Phases
pub mod OneSlot
