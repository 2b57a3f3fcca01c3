mod Numbers
mod Bounds
mod InRange
mod ReadBack
mod FirstFault
mod UnknownCommand
