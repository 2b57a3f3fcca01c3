pub mod Grammar
pub mod Parts
pub mod Commands
pub mod FirstFault
