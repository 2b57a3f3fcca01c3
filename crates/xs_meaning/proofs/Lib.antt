pub mod Agree
pub mod Lists
mod Tints
mod SheetRanges
pub mod KeyLemmas
mod ChosenKeys
mod Blurs
mod DrawingPixels
mod Vanishing
mod SameValue
pub mod Depth
mod Offsets
mod LeafOffsets
mod TableLemmas
mod ExtentLemmas
mod Canonical
mod SamePixels
mod UnusedStyles
mod ChosenCells
mod OwnDrawings
mod StyleKeys
mod DroppedStyles
mod FrameOrder
