use Rattle.std.proofs.Common.{eqb-true, sym, ap, ◌∙◌}
use Rattle.ti_layout.specs.Values.{contents}
use Rattle.ti_layout.proofs.FirstMentions.{behind_nothing, no_items}
use Rattle.ti_layout.proofs.mentions.merge_all.Goals as goal

pub returns-then-is_empty : goal.returns-then-is_empty
returns-then-is_empty c d valid =
    let held = c.entries.result.now in
    let none = no_items held (eqb-true _ _ (sym c.is_empty.ensures ∙ c.if-is_empty.true)) in
    ap (λ es. contents es d) c.of_entries-added.ensures ∙ c.in_ok-first_mentions.ensures.said d valid
    ∙ behind_nothing c.args.table.now held d _ none c.entries.ensures.entries
