pub mod Asking
pub mod Headed
pub mod NumberedSides
pub mod Numberings
pub mod Sharing
pub mod SidesAsPairs
pub mod SidesInScope
