mod Bytes
mod Blank
mod Pasting
mod Places
mod Points
