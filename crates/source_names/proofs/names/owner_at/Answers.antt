use Rattle.std.proofs.Common.{List, ℕ, ap, ◌∙◌}
use Rattle.base_meaning.specs.Owner.{owner, readings}
use Rattle.source_spans.specs.Subjects.{subject_seen}
use Rattle.source_document.specs.Documents.{held}
use Rattle.source_blocks.proofs.Spotting.{owner_found}
use Rattle.source_names.specs.Names.{name_of}
use Rattle.source_names.proofs.names.owner_at.Goals as goal

pub returns-in-Some-clause-within : goal.returns-in-Some-clause-within
returns-in-Some-clause-within c =
    let name = name_of (subject_seen c.in-Some.touched.subject) in
    let found = c.owner_of.ensures ∙ ap (λ (blocks : List (List ℕ)). owner (readings blocks) name) c.database.ensures in
    owner_found (held c.args.document.now) name c.owner_of.result found
