pub mod FaultLemmas
pub mod LineLemmas
pub mod OpenLemmas
pub mod RunLemmas
pub mod SettingsLemmas
pub mod TopLemmas
