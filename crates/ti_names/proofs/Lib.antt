pub mod Places
pub mod Search
pub mod Cover
pub mod Named
pub mod VariableTables
pub mod ByVariable
pub mod CodeTables
pub mod ByCode
