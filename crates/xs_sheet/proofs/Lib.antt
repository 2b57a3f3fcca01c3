mod BestKeys
mod Lines
mod Offsets
mod ShownCells
