pub mod Order
pub mod Said
