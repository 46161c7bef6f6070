use Rattle.std.proofs.Common.{List, ◌++◌, ap, map, sym, ◌∙◌}
use Rattle.std.proofs.lemmas.List.{append-nil}
use Rattle.ti_source.specs.Reading.{item_of}
use Rattle.base_meaning.specs.Reaching.{any_use}
use Rattle.source_document.specs.Diagnostics.{text_at}
use Rattle.source_spans.specs.declared.parts.Part.{Part}
use Rattle.source_blocks.proofs.Outlines.{items_read}
use Rattle.source_names.specs.Names.{is_sought}
use Rattle.source_names.specs.inside.Seeking.{sought_seen}
use Rattle.source_names.proofs.UsesRead.{uses_fail}
use Rattle.source_names.proofs.names.push_uses_at.Goals as goal

pub returns : goal.returns
returns c =
    let blocks = c.args.database.now in
    let test = is_sought blocks (sought_seen c.args.sought) in
    let read = items_read blocks c.args.at (map item_of c.items.result.now) c.requires c.items.ensures in
    let none = ap (any_use test) read ∙ sym c.any_sought_use.ensures ∙ c.if-any_sought_use.false in
    sym (append-nil c.args.parts.now.items) ∙ ap (λ (t : List Part). c.args.parts.now.items ++ t) (sym (uses_fail test (text_at blocks c.args.at) none))
