use Rattle.std.proofs.Common.{◌≡◌, ◌∙◌, ℕ, List, ap, refl, subst, sym}
use Rattle.ti_layout.specs.Reading.{Reads}
use Rattle.ti_layout.specs.Values.{contents}
use Rattle.ti_layout.specs.View.{names_of, view_contents}
use Rattle.user_extension.specs.Reading.{rows_after}
use Rattle.user_extension.specs.UserDefined.{rows_of}
use Rattle.everyday_constants.specs.Entries.{present_rows}
use Rattle.everyday_constants.proofs.Written.{over, shows, too-long, within}
use Rattle.everyday_constants.proofs.entries.written.Goals as goal

pub returns-in-Ok : goal.returns-in-Ok
returns-in-Ok c =
    let bytes = c.args.bytes.now in
    let names = c.names.result.now in
    let held = view_contents c.args.entry.now in
    let table = contents c.in_ok-table.table in
    let rows = rows_of c.deref.result.now in
    let reads : Reads bytes names held = subst (λ (m : List ℕ). Reads bytes m held) (sym c.names.ensures) c.requires.reads in
    let are : rows ≡ present_rows (rows_after bytes) = ap rows_of c.deref.ensures.value ∙ c.in_ok-rows.ensures ∙ ap present_rows c.requires.rows in
    within bytes names c.in-Ok.made.items table held rows reads c.requires.ends_well are (shows table held c.in_ok-table.ensures)
    c.in-Ok.ensures.ok.0 c.in-Ok.ensures.ok.1 c.in-Ok.ensures.ok.2

pub returns-in-Err-NamesTooLong : goal.returns-in-Err-NamesTooLong
returns-in-Err-NamesTooLong c =
    let bytes = c.args.bytes.now in
    let names = c.names.result.now in
    let held = view_contents c.args.entry.now in
    let reads : Reads bytes names held = subst (λ (m : List ℕ). Reads bytes m held) (sym c.names.ensures) c.requires.reads in
    too-long c.one_reading.ensures bytes names held reads (c.in-Err-NamesTooLong.ensures.names_too_long.0 (rw c.in-Err-NamesTooLong.field-0-is refl))

pub returns-in-Err-TooLarge : goal.returns-in-Err-TooLarge
returns-in-Err-TooLarge c =
    let bytes = c.args.bytes.now in
    let names = c.names.result.now in
    let held = view_contents c.args.entry.now in
    let table = contents c.in_ok-table.table in
    let rows = rows_of c.deref.result.now in
    let reads : Reads bytes names held = subst (λ (m : List ℕ). Reads bytes m held) (sym c.names.ensures) c.requires.reads in
    let are : rows ≡ present_rows (rows_after bytes) = ap rows_of c.deref.ensures.value ∙ c.in_ok-rows.ensures ∙ ap present_rows c.requires.rows in
    over c.one_reading.ensures bytes names table held rows reads are (shows table held c.in_ok-table.ensures)
    (c.in-Err-TooLarge.ensures.too_large.0 (rw c.in-Err-TooLarge.field-0-is refl)).1
