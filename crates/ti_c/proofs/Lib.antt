pub mod StringEnds
