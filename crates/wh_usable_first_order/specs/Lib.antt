pub mod FirstOrder
