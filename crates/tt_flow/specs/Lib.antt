pub mod LineBuf
pub mod Lines
pub mod Memory
pub mod Pieces
pub mod PutsLine
pub mod Script
