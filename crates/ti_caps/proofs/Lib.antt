pub mod Order
pub mod Same
pub mod Table
pub mod Named
pub mod KeyTable
pub mod NameOrder
pub mod KindOrder
