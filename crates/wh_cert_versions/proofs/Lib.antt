pub mod CertificateLemmas
