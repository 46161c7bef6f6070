use Rattle.std.proofs.Common.{ap}
use Rattle.ti_source.specs.Reading.{Reading}
use Rattle.source_spans.proofs.faulty.FaultFinder.of.Goals as goal

pub before_first-requires : goal.before_first-requires
before_first-requires c = record {
  one = c.requires;
  items = ap (λ (r : Reading). r.items) c.in_ok-parsed.ensures.computed;
  faults = ap (λ (r : Reading). r.faults) c.in_ok-parsed.ensures.computed;
}
