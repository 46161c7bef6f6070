use Rattle.std.proofs.lemmas.Result.{on_ok_weaker}
use Rattle.user_values.specs.Tables.{entries_seen}
use Rattle.user_values.specs.inside.Entries.{held_seen}
use Rattle.user_values.proofs.Searching.{adds_more, put_more}
use Rattle.user_values.proofs.entries.put.Goals as goal

pub returns-in-Some-clause-added : goal.returns-in-Some-clause-added
returns-in-Some-clause-added c =
    let held = c.args.held.now in
    let new = entries_seen c.put_in.new.list.value.items in
    on_ok_weaker c.put_in.result
    (λ more. adds_more (held_seen held) new c.args.at c.args.entry.now.value
    (put_more held c.in-Some.list new c.args.at c.in_ok-copy.copy.value c.args.entry.now.value c.in-Some.is c.in_ok-copy.ensures more) c.requires.gap)
    c.put_in.ensures.ok
