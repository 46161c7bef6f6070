use Rattle.std.proofs.Common.{List, ℕ, Some, ap, sym, ◌∙◌}
use Rattle.base_meaning.specs.Owner.{owner, readings}
use Rattle.source_document.specs.Documents.{held}
use Rattle.source_blocks.proofs.Spotting.{owner_found}
use Rattle.source_blocks.proofs.holdings.entry_named.Goals as goal

pub entry_at-requires : goal.entry_at-requires
entry_at-requires c =
    owner_found (held c.args.document.now) c.args.name.now (Some c.in-Some.at)
    (sym c.in-Some.is ∙ c.owner.ensures ∙ ap (λ (blocks : List (List ℕ)). owner (readings blocks) c.args.name.now) c.database.ensures)
