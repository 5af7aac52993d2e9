pub mod SlotAfterSlot
