use Rattle.std.proofs.Common.{ap, ◌∙◌, map}
use Rattle.ti_source.specs.Items.{piece_of}
use Rattle.ti_source.specs.Walking.{block_items}
use Rattle.source_format.specs.inside.Steps.{with_end}
use Rattle.source_format.proofs.Stepping.{ended_entries}
use Rattle.source_format.proofs.entries.entries_of.Goals as goal

pub returns : goal.returns
returns c = c.in_ok-end_last.ensures ∙ ap with_end c.in_ok-entries.ensures ∙ ended_entries (map piece_of (block_items c.args.block.now))
