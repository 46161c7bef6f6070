use Rattle.std.proofs.Common.{◌<◌, [], length, Some, None, cond, refl, sym, ap, ◌∙◌, subst}
use Rattle.std.specs.Option.{option_or}
use Rattle.std.proofs.lemmas.List.{length-map}
use Rattle.ti_caps.specs.Tables.{same_capability}
use Rattle.ti_layout.specs.Values.{Mention, Agrees, contents, content_of, entries_of}
use Rattle.ti_layout.proofs.FirstMentions.{front_more, nothing_behind, or_assoc}
use Rattle.ti_layout.proofs.Walked.{item_read}
use Rattle.ti_layout.proofs.mentions.insert_each.Goals as goal

pub loop-mention-init : goal.loop-mention-init
loop-mention-init c d = nothing_behind c.args.table.now [] d refl

pub set_if_absent-requires : goal.set_if_absent-requires
set_if_absent-requires c =
    let ms = c.args.mentions.now in
    let i = c.loop-mention.mention-index in
    let x = c.mention-item.result in
    let e : Mention = (x.0, content_of x.1) in
    let within : i < length (entries_of ms) = rw length-map c.loop-mention-test.true in
    rw c.in_ok-copy_of.ensures (subst (λ (y : Mention). Agrees y.0 y.1) (item_read ms i x c.loop-mention-test.true c.mention-item.is)
    (c.requires.agree i e within))

pub loop-mention-preserved : goal.loop-mention-preserved
loop-mention-preserved c d =
    let ms = c.args.mentions.now in
    let i = c.loop-mention.mention-index in
    let x = c.mention-item.result in
    let said = cond (same_capability x.0 d) (Some (content_of x.1)) None in
    let given = rw c.in_ok-copy_of.ensures at (c.in_ok-set_if_absent.ensures.given d) in
    given
    ∙ ap (λ o. option_or o said) (c.loop-mention.invariant d)
    ∙ or_assoc (contents c.args.table.now d) _ said
    ∙ ap (λ o. option_or (contents c.args.table.now d) o) (sym (front_more ms i x c.loop-mention-test.true (sym c.mention-item.is) d))
