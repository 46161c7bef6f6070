use Rattle.std.proofs.Common.{sym, ap, ◌∙◌}
use Rattle.std.specs.Option.{option_or}
use Rattle.std.proofs.lemmas.Result.{on_ok_weaker}
use Rattle.ti_layout.specs.Values.{contents, entries_of}
use Rattle.ti_layout.proofs.Fronts.{contents-append}
use Rattle.ti_layout.proofs.FirstMentions.{added_all}
use Rattle.ti_layout.proofs.mentions.Mentions.merge.Goals as goal

pub returns : goal.returns
returns c =
    let inside = c.self.inside in
    on_ok_weaker c.merge.result (λ merged d valid.
    added_all _ _ d c.in_ok-settle.ensures.none ∙ merged d
    ∙ ap (λ o. option_or o (contents c.args.used.now d))
    (c.in_ok-settle.ensures.merged d valid ∙ sym (contents-append inside.table (entries_of inside.recent.items) d)
    ∙ ap (λ es. contents es d) c.self.view_is)) c.merge.ensures.merged
