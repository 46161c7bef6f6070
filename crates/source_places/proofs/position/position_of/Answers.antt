use Rattle.std.proofs.Common.{length, ap, ◌∙◌, arith}
use Rattle.std.proofs.Math.Nat.{min-le_right}
use Rattle.source_places.specs.Position.{position_of}
use Rattle.source_places.proofs.PastLines.{place_within}
use Rattle.source_places.proofs.position.position_of.Goals as goal

pub returns-clause-place : goal.returns-clause-place
returns-clause-place c = c.place_from.ensures.place ∙ ap (position_of c.args.text.now) c.min-within.ensures ∙ place_within c.args.text.now c.args.offset

pub returns-clause-line : goal.returns-clause-line
returns-clause-line c = omega (arith, c.place_from.ensures.line, c.min-within.ensures, min-le_right c.args.offset (length c.args.text.now))
