pub mod Joint
pub mod Telling
pub mod Least
pub mod Common
pub mod Sets
