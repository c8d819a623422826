mod Earlier
mod Extending
mod Held
mod Writings
