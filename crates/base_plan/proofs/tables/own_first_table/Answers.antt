use Rattle.std.proofs.Common.{◌∙◌, ap}
use Rattle.std.specs.Option.{option_or}
use Rattle.std.proofs.lemmas.Result.{IfOk-weaker}
use Rattle.ti_source.specs.Reading.{reading_of}
use Rattle.ti_layout.specs.Values.{contents}
use Rattle.ti_layout.specs.Laws.{without_cancel}
use Rattle.base_meaning.proofs.MentionMerging.{own_first_table}
use Rattle.base_slots.specs.Slots.{blocks_of}
use Rattle.base_plan.proofs.tables.own_first_table.Goals as goal

pub returns : goal.returns
returns g c =
    let bs = blocks_of c.args.known.now.slots.now in
    let used = contents c.in_ok-used.used in
    let own = contents c.in_ok-own.own in
    IfOk-weaker c.into_table-2.result _ _
    (λ table same. own_first_table bs (reading_of c.args.block.now) own used (contents table) c.requires.1.1.1.1 c.requires.1.1.0
    c.in_ok-own.ensures c.in_ok-used.ensures
    (λ k valid. same k valid ∙ (c.in_ok-merge_values.ensures k valid ∙ ap (λ o. option_or (own k) (without_cancel o)) (c.in_ok-inherited.ensures k valid))))
    c.into_table-2.ensures
