use Rattle.std.proofs.Common.{◌≡◌, ◌≢◌, ◌∙◌, ◌<◌, ℕ, List, [], length, refl, ap, sym, subst}
use Rattle.ti_layout.specs.Values.{HasNoNul, contents}
use Rattle.ti_source.specs.Parsing.{reading_of_text}
use Rattle.base_meaning.specs.Expansion.{values}
use Rattle.user_extension.specs.Extension.{entry, entry_limit}
use Rattle.user_extension.specs.UserDefined.{rows_of}
use Rattle.everyday_graphics.specs.Graphics.{with_acsc}
use Rattle.everyday_graphics.proofs.Drawn.{put-over, put-within, shows-acsc}
use Rattle.everyday_graphics.proofs.entries.write_drawn.Goals as goal

pub write-requires-clause-present : goal.write-requires-clause-present
write-requires-clause-present c =
    subst (λ (xs : List ℕ). xs ≢ []) (sym (c.deref.ensures.value ∙ c.in_ok-field.ensures))
    ((c.each_is_well_read.ensures c.args.text.now c.requires.one).named c.requires.whole).some

pub write-requires-clause-no_nul : goal.write-requires-clause-no_nul
write-requires-clause-no_nul c =
    subst HasNoNul (sym (c.deref.ensures.value ∙ c.in_ok-field.ensures))
    ((c.each_is_well_read.ensures c.args.text.now c.requires.one).named c.requires.whole).no_nul

pub returns-in-Ok : goal.returns-in-Ok
returns-in-Ok c = λ mentions bytes says.
    let old = contents c.args.table.now in
    let new = contents c.in_ok-table.table in
    let rows = rows_of c.args.rows.now in
    let field : c.deref.result.now ≡ (reading_of_text c.args.text.now).field = c.deref.ensures.value ∙ c.in_ok-field.ensures in
    put-within (reading_of_text c.args.text.now).field new (with_acsc (values mentions)) rows c.in-Ok.entry.items bytes
    (shows-acsc old new mentions says c.in_ok-table.ensures) (c.in-Ok.ensures.ok.0 ∙ ap (λ xs. entry xs new rows) field) c.in-Ok.ensures.ok.2

pub returns-in-Err-TooLarge : goal.returns-in-Err-TooLarge
returns-in-Err-TooLarge c = λ mentions bytes says.
    let old = contents c.args.table.now in
    let new = contents c.in_ok-table.table in
    let rows = rows_of c.args.rows.now in
    let field : c.deref.result.now ≡ (reading_of_text c.args.text.now).field = c.deref.ensures.value ∙ c.in_ok-field.ensures in
    let large = (c.in-Err-TooLarge.ensures.too_large.0 (rw c.in-Err-TooLarge.field-0-is refl)).1 in
    put-over (reading_of_text c.args.text.now).field new (with_acsc (values mentions)) rows bytes (shows-acsc old new mentions says c.in_ok-table.ensures)
    (subst (λ (xs : List ℕ). entry_limit new rows < length (entry xs new rows)) field large)
