pub mod ReadEnd
pub mod ItemsRead
pub mod Handing
pub mod Feeding
pub mod Portions
pub mod Gathering
