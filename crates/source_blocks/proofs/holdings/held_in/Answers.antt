use Rattle.std.proofs.Common.{ap, length, ◌∙◌}
use Rattle.ti_layout.specs.Values.{Contents}
use Rattle.ti_layout.specs.View.{names_of, view_contents}
use Rattle.ti_layout.proofs.OneReading.{not_both, one_entry}
use Rattle.source_blocks.specs.Holdings.{holding}
use Rattle.source_blocks.proofs.holdings.held_in.Goals as goal

pub unreachable-requires : goal.unreachable-requires
unreachable-requires c = not_both c.args.bytes.now c.requires.0 c.requires.1 c.in-Err.field-0 c.requires.2 c.in-Err.ensures.refused

pub returns : goal.returns
returns c names contents reads =
    c.counts.ensures
    ∙ ap (λ (k : Contents). holding k (length c.args.bytes.now))
    (one_entry c.args.bytes.now (names_of c.in-Ok.view) names (view_contents c.in-Ok.view) contents c.in-Ok.ensures.found reads).1
