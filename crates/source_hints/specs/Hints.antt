-- All hints on a block.
use Rattle.std.specs.Prelude.{ℕ, Bool, List, if◌then◌else◌}
use Rattle.source_block_hints.specs.Blocks.{block_hints}
use Rattle.source_hints.specs.Merging.{merged}
use Rattle.source_hints.specs.Unknown.{unknown_names}
use Rattle.source_block_hints.specs.declared.hint.Hint.{Hint}

-- the hints on a block in the order in which they begin, with those on unknown names if it may have
-- user-defined capabilities: without, these are faults
abbrev pub hints_of : Bool → List ℕ → List Hint
hints_of user_defined block = if user_defined then merged (block_hints block) (unknown_names block) else block_hints block
