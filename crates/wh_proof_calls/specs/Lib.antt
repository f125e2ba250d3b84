pub mod MarkedCalls
pub mod CallOrders
pub mod Bodies
pub mod Sides
pub mod ShownCalls
