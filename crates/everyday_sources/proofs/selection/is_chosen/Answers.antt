use Rattle.std.proofs.Common.{◌==◌, rules, tests, map}
use Rattle.std.specs.Rc.{rc_slice_items}
use Rattle.std.proofs.lemmas.Iterator.Search.{any_from_yields_List}
use Rattle.std.proofs.lemmas.Iterator.Splits.{YieldsList-from_slice_split}
use Rattle.base_meaning.specs.Owner.{is_among}
use Rattle.everyday_sources.proofs.selection.is_chosen.Goals as goal

pub returns-in-Some : goal.returns-in-Some
returns-in-Some c =
    rw c.in-Some.is
    (any_from_yields_List (λ name. is_among name (map rc_slice_items c.args.names.now)) _ _ _ c.any.ensures.ran
    (YieldsList-from_slice_split _ (λ b. b == 44) c.in-Some.entries.now c.split.ensures.rest c.split.ensures.done c.split.ensures.closure
    (λ x r q k. search (rules, tests)))
    (λ x r q k. search (rules, tests)))
