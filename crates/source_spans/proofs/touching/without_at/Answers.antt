use Rattle.std.proofs.Common.{arith}
use Rattle.std.proofs.lemmas.Bool.{eq-eqb, ne_eqb}
use Rattle.source_spans.proofs.Marking.{at_is_cut, at_is_none, at_of_none}
use Rattle.source_spans.proofs.touching.without_at.Goals as goal
use Rattle.source_spans.proofs.touching.without_at.Goals.{else-part-via-then-part+else-text-part-eq64, else-part-via-else-part}

pub returns-then-text-part-eq64-clause-part : goal.returns-then-text-part-eq64-clause-part
returns-then-text-part-eq64-clause-part c =
    at_is_cut c.args.text.now c.args.part.start c.args.part.end (0, 0) (omega arith) (omega arith) (eq-eqb _ _ c.if-text-part-eq64.true)

pub returns-else-part-clause-part : goal.returns-else-part-clause-part
returns-else-part-clause-part c =
    elim c.else-part.branch [
      | else-part-via-then-part+else-text-part-eq64 w ↦ at_is_none c.args.text.now c.args.part.start c.args.part.end (0, 0) (omega arith) (omega arith)
          (ne_eqb _ _ w.if-text-part-eq64.false)
      | else-part-via-else-part w ↦ at_of_none c.args.text.now c.args.part.start c.args.part.end (omega arith)
    ]
