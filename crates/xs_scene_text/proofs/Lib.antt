mod Again
mod Nodes
mod Objects
mod Shallow
