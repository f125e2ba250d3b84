pub mod TypeMachine
pub mod TermMachine
pub mod PolyMachine
pub mod TypeViews
pub mod PolyViews
pub mod TermViews
