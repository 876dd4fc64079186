pub mod MadeLemmas
pub mod EditLemmas
pub mod ScriptLemmas
