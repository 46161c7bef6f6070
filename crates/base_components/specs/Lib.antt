pub mod Graph
pub mod Leading
pub mod Components
pub mod Laws
pub mod inside
