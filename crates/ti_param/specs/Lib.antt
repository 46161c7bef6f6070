pub mod inside
pub mod Expansion
pub mod Meaning
pub use Rattle.ti_formats.specs.Codes
pub use Rattle.ti_formats.specs.Formats
pub use Rattle.ti_formats.specs.Limits
pub use Rattle.ti_printing.specs.Padding
pub use Rattle.ti_printing.specs.Printf
