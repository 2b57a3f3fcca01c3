pub mod KeyLists
pub mod Meaning
pub mod Different
