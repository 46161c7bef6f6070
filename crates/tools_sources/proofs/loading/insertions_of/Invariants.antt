use Rattle.std.proofs.Common.{◌≡◌, ◌++◌, length, map}
use Rattle.ti_source.specs.Cutting.{blocks_from_head}
use Rattle.base_meaning.specs.Edits.{change_of}
use Rattle.tools_sources.specs.inside.Loading.{insertions}
use Rattle.tools_sources.proofs.loading.insertions_of.Given as goal

-- the insertions of what was cut off and of what is left are those of all blocks
abbrev pub invariant-loop-text : goal.invariant-loop-text
invariant-loop-text l = map change_of l.edits.items ++ insertions (length l.edits.items) l.cut.blocks ≡ insertions 0 (blocks_from_head 10 l.source)
