use Rattle.std.proofs.Common.{map, sym}
use Rattle.std.proofs.lemmas.Iterator.Adapters.{position_from-zero}
use Rattle.source_spans.specs.Parts.{part_of}
use Rattle.source_spans.specs.Subjects.{is_on}
use Rattle.source_spans.proofs.touching.ordinal_on.Goals as goal

pub loop-at-init : goal.loop-at-init
loop-at-init c = sym (position_from-zero (is_on c.args.offset) (map (part_of c.args.text.now) c.args.parts.now))
