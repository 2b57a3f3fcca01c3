mod Marks
mod KeysInForce
mod ShownStyles
mod ClearEnds
mod KeyedTints
mod MoreTints
