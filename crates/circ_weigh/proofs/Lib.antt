mod Counting
mod Leaves
mod Summing
