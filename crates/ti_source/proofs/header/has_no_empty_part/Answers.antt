use Rattle.std.proofs.Common.{◌==◌, not, length, rules, tests}
use Rattle.std.proofs.lemmas.Iterator.Search.{all_from_yields_List}
use Rattle.std.proofs.lemmas.Iterator.Splits.{YieldsList-from_slice_split}
use Rattle.ti_source.proofs.header.has_no_empty_part.Goals as goal

pub returns : goal.returns
returns c =
    all_from_yields_List (λ part. not (length part == 0)) _ _ _ c.all.ensures.ran
    (YieldsList-from_slice_split _ (λ b. b == 124) c.args.field.now c.split.ensures.rest c.split.ensures.done c.split.ensures.closure
    (λ x r q k. search (rules, tests)))
    (λ x r q k. search (rules, tests))
