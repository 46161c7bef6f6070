use Rattle.std.proofs.Common.{◌≡◌, ◌∙◌, ◌++◌, ℕ, List, Option, ap, map, string_bytes, sym}
use Rattle.source_types.specs.declared.severities.Severity.{Severity}
use Rattle.source_remarks.specs.Remarks.{remark_seen}
use Rattle.source_settings.specs.Settings.{settings_seen}
use Rattle.source_settings.specs.Published.{SeenPublished, message_on, published_as, published_seen, told}
use Rattle.source_settings.specs.inside.Told.{told_by}
use Rattle.source_settings.proofs.Publishing.{published-more}
use Rattle.source_settings.proofs.published.published_of.Goals as goal

pub loop-remark-preserved : goal.loop-remark-preserved
loop-remark-preserved c =
    let settings = settings_seen c.args.settings.now in
    let text = c.args.allowances.now in
    let remark = remark_seen c.remark-item.result in
    let messages : map string_bytes c.as_slice-in-loop-remark.result.now ≡ map message_on settings.names =
    ap (map string_bytes) c.as_slice-in-loop-remark.ensures.value ∙ c.in_ok-messages.ensures
    ∙ ap (λ (names : List _). map message_on (map string_bytes names)) c.as_slice.ensures.value in
    let severity : c.told-severity.result ≡ told settings text remark =
    c.told-severity.ensures ∙ ap (λ (said : List (List ℕ)). told_by settings.changes said text remark) messages in
    c.in_ok-push_told.ensures
    ∙ ap (λ (grave : Option Severity). map published_seen c.loop-remark.all.items ++ published_as remark grave) severity
    ∙ ap (λ (done : List SeenPublished). done ++ published_as remark (told settings text remark)) c.loop-remark.invariant
    ∙ sym (published-more remark_seen settings text c.args.remarks.now c.loop-remark.remark-index c.remark-item.result c.loop-remark-test.true c.remark-item.is)
