pub mod YesMachine
pub mod LineMachine
pub mod LineViews
pub mod YesViews
