pub mod CallsEach
pub mod Views
