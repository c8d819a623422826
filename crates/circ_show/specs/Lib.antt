pub mod Lines
pub mod Brackets
pub mod TheoryText
pub mod GoalsText
pub mod Observed
pub mod SortMarks
pub mod PlacesText
pub mod EntryText
