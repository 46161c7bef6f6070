pub mod Fitting
pub mod HeldBlocks
pub mod HeldTexts
pub mod ListEdits
pub mod LocalCuts
pub mod PartsExchanged
pub mod SmallExchanges
pub mod TextLists
