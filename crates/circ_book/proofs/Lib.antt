pub mod Below
mod Meeting
mod Reading
