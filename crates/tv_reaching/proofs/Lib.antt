pub mod ValueLemmas
pub mod NextLemmas
pub mod RunLemmas
pub mod CertificateLemmas
