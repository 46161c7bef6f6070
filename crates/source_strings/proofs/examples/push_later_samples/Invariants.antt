use Rattle.std.proofs.Common.{◌≡◌, ◌++◌, drop, map}
use Rattle.std.specs.String.{string_bytes}
use Rattle.ti_param.specs.Meaning.{argument_of}
use Rattle.source_strings.specs.Examples.{later_samples}
use Rattle.source_strings.proofs.examples.push_later_samples.Given as goal

abbrev pub invariant-loop-sample : goal.invariant-loop-sample
invariant-loop-sample l = string_bytes l.text ++ later_samples (map argument_of (drop l.sample-index l.samples)) ≡ string_bytes l.fn.text
    ++ later_samples (map argument_of l.samples)
