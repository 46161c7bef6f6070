use Rattle.std.proofs.Common.{sym, ap, ◌∙◌}
use Rattle.ti_layout.specs.Values.{contents, entries_of}
use Rattle.ti_layout.proofs.Fronts.{contents-append}
use Rattle.ti_layout.proofs.mentions.Mentions.into_table.Goals as goal

pub returns : goal.returns
returns c d valid =
    let inside = c.self.inside in
    c.in_ok-settle.ensures.merged d valid ∙ sym (contents-append inside.table (entries_of inside.recent.items) d) ∙ ap (λ es. contents es d) c.self.view_is
