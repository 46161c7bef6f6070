-- each step appends the spelling of one byte
use Rattle.std.proofs.Common.{◌≡◌, ◌-◌, length, eqb, ap, sym, ◌∙◌, arith}
use Rattle.std.specs.Prelude.{◌||◌}
use Rattle.std.proofs.lemmas.Bool.{eq-eqb, ne_eqb, or_left}
use Rattle.ti_spelling.proofs.WritingLaws.{writes_on}
use Rattle.ti_spelling.proofs.writing.write_escaped.Goals as goal
use Rattle.ti_spelling.proofs.writing.write_escaped.Goals.{then-i-eq0, else-i-eq0}

pub loop-i-preserved : goal.loop-i-preserved
loop-i-preserved c =
    let edge : c.if-i-eq0.edge ≡ (eqb c.loop-i.i 0 || eqb c.loop-i.i (length c.args.value.now - 1)) = elim c.if-i-eq0.branch [
      | then-i-eq0 w ↦ w.edge-is ∙ eq-eqb _ _ w.if-i-eq0.true ∙ sym (or_left _ _ (eq-eqb _ _ w.if-i-eq0.true))
      | else-i-eq0 w ↦ w.edge-is ∙ sym (ap (λ first. first || eqb c.loop-i.i (length c.args.value.now - 1)) (ne_eqb _ _ w.if-i-eq0.false))
    ] in
    record {
      done = rw (c.write_byte.ensures.items, edge)
          (writes_on c.loop-i.text.items c.args.value.now _ c.loop-i.before c.loop-i.i c.loop-i-test.true c.loop-i.invariant.done);
      len = omega (arith, c.write_byte.ensures.len, c.loop-i.invariant.len);
      capacity = omega (arith, c.write_byte.ensures.capacity, c.loop-i.invariant.capacity);
    }
