mod ChainMarks
mod Searches
mod Levels
mod PathLengths
mod Cycles
