use Rattle.std.proofs.Common.{rules, tests}
use Rattle.std.proofs.lemmas.Iterator.Consumers.{YieldsList-at, YieldsList-from_filter, map_from_collect}
use Rattle.std.proofs.lemmas.Iterator.Splits.{YieldsList-from_slice_split}
use Rattle.tools_tput.specs.Runs.{has_bytes}
use Rattle.everyday_tput.specs.Numbers.{is_space}
use Rattle.everyday_tput.specs.Runs.{words_of}
use Rattle.everyday_tput.proofs.words.split_words.Goals as goal

pub returns : goal.returns
unfolding words_of
returns c = map_from_collect _ c.collect.ensures.ran
    (YieldsList-from_filter _ has_bytes
    (YieldsList-at c.filter.ensures.source
    (YieldsList-from_slice_split _ is_space c.args.line.now c.split.ensures.rest c.split.ensures.done c.split.ensures.closure
    (λ x r q k. search (rules, tests))))
    c.filter.ensures.closure (λ x r q k. search (rules, tests)))
