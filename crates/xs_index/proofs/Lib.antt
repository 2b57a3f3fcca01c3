mod Orders
mod Chosen
