pub mod Grammar
pub mod FirstBad
pub mod Machine
pub mod Reading
pub mod Parts
pub mod Shown
pub mod Now
pub mod Feeding
