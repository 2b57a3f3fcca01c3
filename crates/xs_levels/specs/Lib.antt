pub mod Table
pub mod Films
pub mod Stocked
pub mod Loading
