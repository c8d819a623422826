mod Opened
mod Ropes
mod Stacked
