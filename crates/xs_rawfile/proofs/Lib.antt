mod Blocks
mod Boxes
mod Faults
mod Holding
mod ReadBack
mod Scanning
