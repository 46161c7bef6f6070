use Rattle.std.proofs.Common.{List, ap, map, refl, sym, subst, ◌∙◌}
use Rattle.std.specs.Prelude.{ℕ, ℤ, Some}
use Rattle.std.proofs.lemmas.Result.{IfOk-weaker}
use Rattle.ti_param.specs.Expansion.{Expands, Overflows}
use Rattle.ti_param.specs.Meaning.{argument_of, no_variables}
use Rattle.source_strings.specs.Examples.{given_by}
use Rattle.source_strings.specs.Spelled.{spelled}
use Rattle.source_strings.proofs.Expanded.{expands_computed, overflows_computed, stuck_computed}
use Rattle.source_strings.proofs.examples.given_for.Goals as goal

pub returns-in-Ok : goal.returns-in-Ok
returns-in-Ok c =
    let samples = map argument_of c.args.samples.now in
    let expands = subst (λ (before : List ℤ). Expands c.args.format.now samples before c.in-Ok.bytes.items c.expand.new.statics)
    c.new-statics.ensures c.in-Ok.ensures.ok in
    let is = expands_computed c.args.format.now samples no_variables c.in-Ok.bytes.items c.expand.new.statics expands in
    IfOk-weaker c.given_bytes.result _ _
    (λ given h. h ∙ ap (λ (bytes : List ℕ). Some (spelled bytes)) c.as_slice.ensures.value ∙ sym (ap given_by is)) c.given_bytes.ensures

pub returns-in-Err-BadFormat : goal.returns-in-Err-BadFormat
returns-in-Err-BadFormat c =
    let stuck = (rw c.in-Err-BadFormat.field-0-is at (c.in-Err-BadFormat.ensures.bad_format c.in-Err-BadFormat.field-0-0)).0 refl in
    sym (ap given_by (stuck_computed c.args.format.now (map argument_of c.args.samples.now) no_variables c.in-Err-BadFormat.field-0-0 stuck))

pub returns-in-Err-StackFull : goal.returns-in-Err-StackFull
returns-in-Err-StackFull c =
    let samples = map argument_of c.args.samples.now in
    let place = c.in-Err-StackFull.field-0-0 in
    let full = (rw c.in-Err-StackFull.field-0-is at (c.in-Err-StackFull.ensures.stack_full place)) refl in
    let overflows = subst (λ (before : List ℤ). Overflows c.args.format.now samples before place) c.new-statics.ensures full in
    let is = overflows_computed c.args.format.now samples no_variables place overflows in
    IfOk-weaker c.full_stack.result _ _ (λ given h. h ∙ sym (ap given_by is)) c.full_stack.ensures
