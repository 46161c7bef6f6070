pub mod UserDefined
pub mod Extension
pub mod Reading
pub mod View
pub mod ExtensionParts
pub mod Laws
pub mod inside
