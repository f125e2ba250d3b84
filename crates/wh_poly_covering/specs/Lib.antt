pub mod CoveringFaults
pub mod Lines
pub mod EvidenceView
