-- Laws on the calls.
pub mod CertificateLaws
pub mod WalkBegins
pub mod ByStrengths
pub mod Answers
pub mod BegunInNumbers
