pub mod Answers
pub mod Atoms
pub mod HeapLaw
pub mod Heap
pub mod Valve
