mod Steps
mod SortMarks
mod Texts
mod AttributeWords
