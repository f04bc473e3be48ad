pub mod BodyLaws
pub mod Entry
pub mod EntryLaws
pub mod Limits
pub mod Place
pub mod PlaceLaws
pub mod Read
