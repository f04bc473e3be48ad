pub mod RecoveryLemmas
pub mod ReplayLemmas
