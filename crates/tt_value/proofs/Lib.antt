pub mod KindLemmas
pub mod RowAnswers
pub mod TenLemmas
pub mod Utf8
pub mod ValueLemmas
pub mod WriteLemmas
