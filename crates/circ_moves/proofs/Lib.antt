pub mod SetAside
pub mod Contents
pub mod Regroupings
pub mod Joins
pub mod Making
pub mod OverRests
