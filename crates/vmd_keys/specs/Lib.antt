pub mod Names
pub mod Keys
pub mod Rowed
pub mod Heap
pub mod HeapLaws
pub mod NameLaws
pub mod Examples
