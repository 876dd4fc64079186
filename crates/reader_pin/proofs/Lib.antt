pub mod SoloLemmas
pub mod AloneLemmas
pub mod Errors
pub mod SightLemmas
pub mod SharedLemmas
pub mod PublishLemmas
