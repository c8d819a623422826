mod Holding
mod Judged
mod Steps
