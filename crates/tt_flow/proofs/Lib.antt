pub mod Cuts
pub mod Given
pub mod Kept
pub mod Taken
