use Rattle.std.proofs.Common.{ap, map, sym, take, ◌∙◌}
use Rattle.std.proofs.lemmas.List.{take-map}
use Rattle.ti_param.specs.Meaning.{argument_of}
use Rattle.source_strings.proofs.examples.shown_of.Goals as goal

pub returns : goal.returns
returns c =
    sym (take-map argument_of c.parameter_count.result c.args.samples.now)
    ∙ ap (λ n. take n (map argument_of c.args.samples.now)) c.parameter_count.ensures.count
