pub mod Slots
pub mod Held
pub mod Rows
pub mod First
pub mod Laws
