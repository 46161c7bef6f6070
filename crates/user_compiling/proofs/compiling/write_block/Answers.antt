use Rattle.std.proofs.Common.{◌≡◌, ◌≢◌, ◌∙◌, ◌<◌, ◌≤◌, ℕ, List, [], length, refl, ap, sym, subst, arith}
use Rattle.ti_text.specs.Limits.{names_max}
use Rattle.ti_text.specs.Texts.{HasNoNul}
use Rattle.ti_source.specs.Parsing.{reading_of_text}
use Rattle.ti_layout.specs.Values.{contents}
use Rattle.user_extension.specs.UserDefined.{rows_of}
use Rattle.user_extension.specs.Extension.{entry, entry_limit}
use Rattle.user_compiling.proofs.States.{state_written, state_refused}
use Rattle.user_compiling.proofs.compiling.write_block.Goals as goal

pub write-requires-clause-present : goal.write-requires-clause-present
write-requires-clause-present c =
    subst (λ (xs : List ℕ). xs ≢ []) (sym (c.deref.ensures.value ∙ c.in_ok-field.ensures))
    ((c.each_is_well_read.ensures c.args.text.now c.requires.one).named c.requires.whole).some

pub write-requires-clause-no_nul : goal.write-requires-clause-no_nul
write-requires-clause-no_nul c =
    subst HasNoNul (sym (c.deref.ensures.value ∙ c.in_ok-field.ensures))
    ((c.each_is_well_read.ensures c.args.text.now c.requires.one).named c.requires.whole).no_nul

pub unreachable-requires : goal.unreachable-requires
unreachable-requires c =
    let long = c.in-Err-NamesTooLong.ensures.names_too_long.0 (rw c.in-Err-NamesTooLong.field-0-is refl) in
    let short : length c.deref.result.now ≤ names_max =
    subst (λ (xs : List ℕ). length xs ≤ names_max) (sym (c.deref.ensures.value ∙ c.in_ok-field.ensures))
    ((c.each_is_well_read.ensures c.args.text.now c.requires.one).named c.requires.whole).short in
    absurd (omega (arith, long, short))

pub returns-in-Ok : goal.returns-in-Ok
returns-in-Ok c = λ mentions says.
    let t = contents c.args.table.now in
    let rows = rows_of c.args.rows.now in
    let field : c.deref.result.now ≡ (reading_of_text c.args.text.now).field =
    c.deref.ensures.value ∙ c.in_ok-field.ensures in
    state_written (reading_of_text c.args.text.now) t mentions rows c.in-Ok.entry.items says
    (c.in-Ok.ensures.ok.0 ∙ ap (λ xs. entry xs t rows) field) c.in-Ok.ensures.ok.2

pub returns-in-Err-TooLarge : goal.returns-in-Err-TooLarge
returns-in-Err-TooLarge c = λ mentions says.
    let t = contents c.args.table.now in
    let rows = rows_of c.args.rows.now in
    let field : c.deref.result.now ≡ (reading_of_text c.args.text.now).field =
    c.deref.ensures.value ∙ c.in_ok-field.ensures in
    let large = (c.in-Err-TooLarge.ensures.too_large.0 (rw c.in-Err-TooLarge.field-0-is refl)).1 in
    state_refused (reading_of_text c.args.text.now) t mentions rows says (subst (λ (xs : List ℕ). entry_limit t rows < length (entry xs t rows)) field large)
