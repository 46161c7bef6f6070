use Rattle.std.proofs.Common.{◌∙◌, ap}
use Rattle.std.specs.Option.{option_map}
use Rattle.ti_layout.specs.Values.{content_of, content_seen}
use Rattle.user_changing.specs.Changes.{edits_of}
use Rattle.user_changing.proofs.Holding.{given_agrees}
use Rattle.user_changing.proofs.tables.give.Goals as goal

pub set-requires : goal.set-requires
set-requires c =
    given_agrees (edits_of c.args.changes.now) c.args.cap c.args.entry.now c.as_bytes.result.now (option_map content_seen c.get.result)
    (option_map content_seen c.after.result) (content_seen c.in-Some.content) (content_of c.in_ok-value-in-Some.value) c.requires.changes
    (c.every_name_is_found.ensures c.args.cap c.requires.valid) (c.as_bytes.ensures.value ∙ c.name.ensures) c.get.ensures c.after.ensures
    (ap (option_map content_seen) c.in-Some.is) c.in_ok-value-in-Some.ensures
