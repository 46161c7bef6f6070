use Rattle.std.proofs.Common.{◌≡◌, sym, subst, ◌∙◌}
use Rattle.std.specs.Prelude.{Some, None, Ok, Err}
use Rattle.std.proofs.lemmas.Result.{err_from_is_err_and}
use Rattle.ti_param.specs.declared.errors.ParamError.TheVariants.{BadFormat}
use Rattle.ti_formats.specs.Formats.{AreTokensOf}
use Rattle.ti_formats.specs.inside.Formats.{stuck_place}
use Rattle.ti_param.proofs.Ending.{Runs, refused-bad_format, run-bad_format, run-stack_full, run-memory, done-expands, done-bad_format}
use Rattle.ti_formats.proofs.OneTree.{reading_stop}
use Rattle.ti_param.proofs.expansion.expand_output.Goals as goal

-- ---- the format is stuck

stuck : (c : goal.After-drop-machine-inside) → stuck_place c.args.format.now ≡ Some c.in-Some.place
stuck c =
    sym (reading_stop _ _ c.new-lexer.ensures.reading) ∙ sym c.run-ran.ensures.stop ∙ sym c.in-Some.ensures.place

pub returns-in-Some-clause-bad_format : goal.returns-in-Some-clause-bad_format
returns-in-Some-clause-bad_format c = refused-bad_format c.args.format.now (BadFormat c.in-Some.place) (stuck c)

-- ---- the run has failed

whole-in_err : (c : goal.After-drop-machine-inside-in_err-ran) → stuck_place c.args.format.now ≡ None
whole-in_err c =
    sym (reading_stop _ _ c.new-lexer.ensures.reading) ∙ sym c.run-ran.ensures.stop ∙ sym c.in_default.ensures.place

runs-in_err : (c : goal.After-drop-machine-inside-in_err-ran) → Runs c.args.format.now c.new-machine.result (Err c.in_err-ran.field-0.0) c.run-ran.new.machine
runs-in_err c = λ t tree.
    c.in_err-ran.ensures.ran t (subst (λ ts. AreTokensOf ts t) (sym (c.new-lexer.ensures.reading.whole t tree).1) tree.parses)

pub returns-in_err-ran-clause-bad_format : goal.returns-in_err-ran-clause-bad_format
returns-in_err-ran-clause-bad_format c =
    let p = err_from_is_err_and c.from_residual.result c.from_residual.ensures.1 in
    rw (p.1, p.2) (run-bad_format _ _ _ _ (whole-in_err c) (runs-in_err c))

pub returns-in_err-ran-clause-stack_full : goal.returns-in_err-ran-clause-stack_full
returns-in_err-ran-clause-stack_full c =
    let p = err_from_is_err_and c.from_residual.result c.from_residual.ensures.1 in
    rw (p.1, p.2) (run-stack_full _ _ _ _ _ _ (whole-in_err c) c.new-machine.ensures (runs-in_err c))

pub returns-in_err-ran-clause-memory : goal.returns-in_err-ran-clause-memory
returns-in_err-ran-clause-memory c = λ _. run-memory c.args.format.now (whole-in_err c)

-- ---- all was run

whole : (c : goal.After-finish) → stuck_place c.args.format.now ≡ None
whole c =
    sym (reading_stop _ _ c.new-lexer.ensures.reading) ∙ sym c.run-ran.ensures.stop ∙ sym c.in_default.ensures.place

runs : (c : goal.After-finish) → Runs c.args.format.now c.new-machine.result (Ok c.in_ok-ran.field-0) c.run-ran.new.machine
runs c = λ t tree.
    c.in_ok-ran.ensures.ran t (subst (λ ts. AreTokensOf ts t) (sym (c.new-lexer.ensures.reading.whole t tree).1) tree.parses)

pub returns-clause-ok : goal.returns-clause-ok
returns-clause-ok c = done-expands _ _ _ _ _ _ _ (whole c) c.new-machine.ensures (runs c) c.finish.ensures.output c.finish.ensures.statics

pub returns-clause-bad_format : goal.returns-clause-bad_format
returns-clause-bad_format c = done-bad_format c.args.format.now _ (whole c)
