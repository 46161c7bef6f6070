use Rattle.std.proofs.Common.{List, refl, subst}
use Rattle.std.specs.Prelude.{ℤ}
use Rattle.ti_param.specs.Expansion.{Expands, Overflows}
use Rattle.source_block_hints.specs.Stacks.{no_parameters}
use Rattle.source_block_hints.proofs.Filling.{expands, overflows, stuck}
use Rattle.source_block_hints.proofs.stacks.full_in_whole.Goals as goal

pub returns-in-Ok : goal.returns-in-Ok
returns-in-Ok c =
    let run = subst (λ (before : List ℤ). Expands c.args.format.now no_parameters before c.in-Ok._output c.expand_output.new.statics)
    c.new-statics.ensures c.in-Ok.ensures.ok in
    expands c.args.format.now _ _ run

pub returns-in-Err-BadFormat : goal.returns-in-Err-BadFormat
returns-in-Err-BadFormat c =
    let is = (rw c.in-Err-BadFormat.field-0-is at (c.in-Err-BadFormat.ensures.bad_format c.in-Err-BadFormat.field-0-0)).0 refl in
    stuck c.args.format.now _ is

pub returns-in-Err-StackFull : goal.returns-in-Err-StackFull
returns-in-Err-StackFull c =
    let place = c.in-Err-StackFull.place in
    let full = (rw c.in-Err-StackFull.field-0-is at (c.in-Err-StackFull.ensures.stack_full place)) refl in
    overflows c.args.format.now place
    (subst (λ (before : List ℤ). Overflows c.args.format.now no_parameters before place) c.new-statics.ensures full)
