use Rattle.std.proofs.Common.{◌≡◌, List, ℕ, map, ap, sym, ◌∙◌}
use Rattle.std.specs.Rc.{rc_slice_items}
use Rattle.std.specs.String.{string_bytes}
use Rattle.std.proofs.lemmas.Result.{IfOk-weaker}
use Rattle.base_meaning.specs.Report.{shown_detail}
use Rattle.ti_source.specs.Parsing.{reading_of_text}
use Rattle.source_document.specs.Diagnostics.{text_at}
use Rattle.source_blocks.specs.Symbols as spec
use Rattle.source_blocks.proofs.Outlines.{field_shown, first_shown, names_read}
use Rattle.source_blocks.proofs.symbols.shown_name.Goals as goal

pub returns-in-Some : goal.returns-in-Some
returns-in-Some c =
    let field = c.args.field.now in
    let read = names_read c.args.database.now c.args.at (map rc_slice_items c.names.result.now) c.requires c.names.ensures in
    let shown = ap shown_detail c.as_slice.ensures.value ∙ sym (first_shown c.names.result.now c.in-Some.name.now field c.in-Some.ensures.value)
    ∙ ap (λ (names : List (List ℕ)). spec.shown_name names field) (sym read) in
    IfOk-weaker c.shown_detail.result (λ name. string_bytes name ≡ shown_detail c.as_slice.result.now)
    (λ name. string_bytes name ≡ spec.shown_name (reading_of_text (text_at c.args.database.now c.args.at)).names field)
    (λ name e. e ∙ shown) c.shown_detail.ensures

pub returns-in-None : goal.returns-in-None
returns-in-None c =
    let field = c.args.field.now in
    let read = names_read c.args.database.now c.args.at (map rc_slice_items c.names.result.now) c.requires c.names.ensures in
    let shown = sym (field_shown c.names.result.now field c.in-None.ensures.value) ∙ ap (λ (names : List (List ℕ)). spec.shown_name names field) (sym read) in
    IfOk-weaker c.shown_detail-in-None.result (λ name. string_bytes name ≡ shown_detail field)
    (λ name. string_bytes name ≡ spec.shown_name (reading_of_text (text_at c.args.database.now c.args.at)).names field)
    (λ name e. e ∙ shown) c.shown_detail-in-None.ensures
