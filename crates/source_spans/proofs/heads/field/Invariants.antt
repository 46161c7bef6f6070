use Rattle.source_spans.proofs.Fielding.{IsSpanBy, IsTextBy}
use Rattle.source_spans.proofs.heads.field.Given as goal

-- the field so far, where it is, and what is left of the block
abbrev pub invariant-loop-at : goal.invariant-loop-at
invariant-loop-at l = record {
  text : IsTextBy l.block l.text.items l.comment l.before l.joining l.at;
  span : IsSpanBy l.block l.span l.comment l.before l.joining l.at;
}
