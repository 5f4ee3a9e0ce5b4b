pub mod Growing
pub mod Lent
pub mod Reading
pub mod Valves
pub mod Windows
