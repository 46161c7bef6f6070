use Rattle.std.proofs.Common.{◌≡◌, ap, sym, ◌∙◌, arith, length, true, false, inl, inr}
use Rattle.std.proofs.lemmas.Result.{err_from_is_err_and}
use Rattle.ti_param.specs.Meaning.{meaning, top_number, is_zero}
use Rattle.ti_param.proofs.Running.{literal-done, operation-done, operation-full, if-done, end-done, then-taken, then-after_part, else-after_part, run-end, tokens_run}
use Rattle.ti_param.proofs.Running.{error-kept}
use Rattle.ti_param.proofs.Wrapping.{is-zero, not-zero}
use Rattle.ti_param.proofs.expansion.run.Goals as goal

pub loop-place-preserved-in-Continue-1 : goal.loop-place-preserved-in-Continue-1
loop-place-preserved-in-Continue-1 c = record {
  left = literal-done _ _ _ _ _ _ c.in-Some.ensures.token c.in-Literal.is c.in_ok-write-in-Literal.ensures ∙ c.loop-place.invariant.left;
  stop = c.in-Some.ensures.stop ∙ c.loop-place.invariant.stop;
  fewer = omega (arith, ap length c.in-Some.ensures.token, c.loop-place.invariant.fewer);
}

pub loop-place-preserved-in-Continue-branch-2 : goal.loop-place-preserved-in-Continue-branch-2
loop-place-preserved-in-Continue-branch-2 c = record {
  left = operation-done _ _ _ _ _ _ c.in-Some.ensures.token c.in-Operation.is c.in_ok-perform-in-Operation.ensures ∙ c.loop-place.invariant.left;
  stop = c.in-Some.ensures.stop ∙ c.loop-place.invariant.stop;
  fewer = omega (arith, ap length c.in-Some.ensures.token, c.loop-place.invariant.fewer);
}

pub returns-in_err-perform-in-Operation-clause-ran : goal.returns-in_err-perform-in-Operation-clause-ran
returns-in_err-perform-in-Operation-clause-ran c = λ t tree.
    let p = err_from_is_err_and c.from_residual-in_err-perform-in-Operation.result c.from_residual-in_err-perform-in-Operation.ensures.1 in
    rw (p.1, p.2) (error-kept c.in_err-perform-in-Operation.field-0.0 _ _ _ (meaning t c.args.machine.now)
    (λ place full. sym (tokens_run _ t tree c.args.machine.now) ∙ sym c.loop-place.invariant.left
    ∙ operation-full _ _ _ _ _ place c.in-Some.ensures.token c.in-Operation.is full)
    c.in_err-perform-in-Operation.ensures)

pub loop-place-preserved-in-If : goal.loop-place-preserved-in-If
loop-place-preserved-in-If c = record {
  left = elim c.in-If.is [
    | inl token ↦ if-done _ _ _ c.loop-place.machine c.in-Some.ensures.token token ∙ c.loop-place.invariant.left
    | inr token ↦ end-done _ _ _ c.loop-place.machine c.in-Some.ensures.token token ∙ c.loop-place.invariant.left
  ];
  stop = c.in-Some.ensures.stop ∙ c.loop-place.invariant.stop;
  fewer = omega (arith, ap length c.in-Some.ensures.token, c.loop-place.invariant.fewer);
}

pub loop-place-preserved-then-pop_number-eq0 : goal.loop-place-preserved-then-pop_number-eq0
loop-place-preserved-then-pop_number-eq0 c =
    let zero : is_zero (top_number c.loop-place.machine) ≡ true =
    ap is_zero (sym c.pop_number.ensures.value) ∙ is-zero c.pop_number.result (record { sfits = c.pop_number.type_inv }) c.if-pop_number-eq0.true in
    record {
      left = then-after_part _ _ _ _ _ _ c.in-Some.ensures.token c.in-Then.is zero c.pop_number.ensures.rest c.skip.ensures.tokens
          ∙ c.loop-place.invariant.left;
      stop = c.skip.ensures.stop ∙ c.in-Some.ensures.stop ∙ c.loop-place.invariant.stop;
      fewer = omega (arith, ap length c.in-Some.ensures.token, c.skip.ensures.fewer, c.loop-place.invariant.fewer);
    }

pub loop-place-preserved-else-pop_number-eq0 : goal.loop-place-preserved-else-pop_number-eq0
loop-place-preserved-else-pop_number-eq0 c =
    let other : is_zero (top_number c.loop-place.machine) ≡ false =
    ap is_zero (sym c.pop_number.ensures.value) ∙ not-zero c.pop_number.result c.if-pop_number-eq0.false in
    record {
      left = then-taken _ _ _ _ _ c.in-Some.ensures.token c.in-Then.is other c.pop_number.ensures.rest ∙ c.loop-place.invariant.left;
      stop = c.in-Some.ensures.stop ∙ c.loop-place.invariant.stop;
      fewer = omega (arith, ap length c.in-Some.ensures.token, c.loop-place.invariant.fewer);
    }

pub loop-place-preserved : goal.loop-place-preserved
loop-place-preserved c = record {
  left = else-after_part _ _ _ _ _ c.in-Some.ensures.token c.in-Else.is c.skip-in-Else.ensures.tokens ∙ c.loop-place.invariant.left;
  stop = c.skip-in-Else.ensures.stop ∙ c.in-Some.ensures.stop ∙ c.loop-place.invariant.stop;
  fewer = omega (arith, ap length c.in-Some.ensures.token, c.skip-in-Else.ensures.fewer, c.loop-place.invariant.fewer);
}

pub returns-clause-ran : goal.returns-clause-ran
returns-clause-ran c = λ t tree.
    sym (tokens_run _ t tree c.args.machine.now) ∙ sym c.loop-place.invariant.left ∙ run-end _ _ c.in_default.ensures.token
