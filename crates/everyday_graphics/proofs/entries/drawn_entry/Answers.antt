use Rattle.std.proofs.Common.{◌≡◌, List, ℕ, ap, get_or, option_map, refl, sym, subst, unwrap_or, ◌∙◌, [], true}
use Rattle.std.proofs.lemmas.Option.{none-some, same_Some, slice_get-get_or, slice_get-map}
use Rattle.std.proofs.lemmas.Result.{IfOk-weaker}
use Rattle.base_meaning.specs.Compiled.{written}
use Rattle.base_meaning.specs.Expansion.{values}
use Rattle.base_meaning.specs.Readings.{reading_by}
use Rattle.ti_layout.specs.Values.{contents}
use Rattle.ti_source.specs.Parsing.{reading_of_text}
use Rattle.user_extension.specs.Extension.{entry, entry_limit}
use Rattle.user_extension.specs.UserDefined.{Row, rows_of}
use Rattle.user_compiling.proofs.ReadBack.{has-entry}
use Rattle.everyday_graphics.specs.Entries.{in_place}
use Rattle.everyday_graphics.specs.Graphics.{lacks_acsc, with_acsc}
use Rattle.everyday_graphics.proofs.Drawn.{kept-state, lacks-there, state-drawn}
use Rattle.everyday_graphics.proofs.Rows.{block-at, not-refused, read-with, tells, whole}
use Rattle.everyday_graphics.proofs.entries.drawn_entry.Goals as goal

pub returns-in_default : goal.returns-in_default
returns-in_default c text stands =
    let rule = c.args.database.now.rule in
    let texts = c.args.database.now.texts in
    let h = has-entry rule texts text (written c.args.bytes.now) c.args.bytes.now (c.requires.state text stands) refl in
    let read = slice_get-map (reading_by rule) texts c.args.at ∙ ap (option_map (reading_by rule)) stands in
    absurd (none-some h.mentions (sym (c.in_default.ensures (reading_by rule text) read) ∙ h.expands))

pub returns-then-not-lacks_acsc : goal.returns-then-not-lacks_acsc
returns-then-not-lacks_acsc c text stands =
    let rule = c.args.database.now.rule in
    let texts = c.args.database.now.texts in
    let read = slice_get-map (reading_by rule) texts c.args.at ∙ ap (option_map (reading_by rule)) stands in
    let found = c.in-Some.ensures (reading_by rule text) read in
    kept-state true rule texts text (written c.args.bytes.now)
    (λ ms e.
    ap (λ x. lacks_acsc (contents x)) (same_Some ms found.0 (sym e ∙ found.1)) ∙ sym (lacks-there (contents c.in-Some.table.now) found.0 found.2)
    ∙ sym c.lacks_acsc.ensures ∙ c.if-not-lacks_acsc.true)
    (c.requires.state text stands)

pub unreachable-requires : goal.unreachable-requires
unreachable-requires c =
    let rule = c.args.database.now.rule in
    let texts = c.args.database.now.texts in
    let at = c.args.at in
    let bytes = c.args.bytes.now in
    let text = get_or texts at [] in
    let stands = slice_get-get_or texts at [] c.requires.within in
    let h = has-entry rule texts text (written bytes) bytes (c.requires.state text stands) refl in
    let is_table = tells rule texts at text bytes (contents c.in-Some.table.now) stands h c.in-Some.ensures in
    let one = block-at texts at text c.each_is_one_block.ensures stands in
    let is = read-with c.each_is_well_read.ensures c.entries_are_read.ensures c.rows_are_user_defined.ensures rule texts at text bytes c.in-Some.table.now
    c.each_is_one_block.ensures one stands h c.values_agree.ensures is_table in
    not-refused c.one_reading.ensures bytes h.rows c.in_default-read.field-0 is c.in_default-read.ensures.refused

pub write_drawn-requires-clause-one : goal.write_drawn-requires-clause-one
write_drawn-requires-clause-one c =
    block-at c.args.database.now.texts c.args.at c.text.result.now c.each_is_one_block.ensures c.text.ensures

pub write_drawn-requires-clause-whole : goal.write_drawn-requires-clause-whole
write_drawn-requires-clause-whole c =
    let rule = c.args.database.now.rule in
    let texts = c.args.database.now.texts in
    let bytes = c.args.bytes.now in
    let text = c.text.result.now in
    let h = has-entry rule texts text (written bytes) bytes (c.requires.state text c.text.ensures) refl in
    whole rule texts text h.mentions h.expands

pub returns : goal.returns
returns c =
    let rule = c.args.database.now.rule in
    let texts = c.args.database.now.texts in
    let at = c.args.at in
    let bytes = c.args.bytes.now in
    let t = contents c.in-Some.table.now in
    IfOk-weaker c.write_drawn.result _ _
    (λ drawn is text stands.
    let same : c.text.result.now ≡ text = same_Some c.text.result.now text (sym c.text.ensures ∙ stands) in
    let h = has-entry rule texts text (written bytes) bytes (c.requires.state text stands) refl in
    let is_table = tells rule texts at text bytes t stands h c.in-Some.ensures in
    let one = block-at texts at text c.each_is_one_block.ensures stands in
    let read = read-with c.each_is_well_read.ensures c.entries_are_read.ensures c.rows_are_user_defined.ensures rule texts at text bytes c.in-Some.table.now
    c.each_is_one_block.ensures one stands h c.values_agree.ensures is_table in
    let rows : rows_of c.deref.result.now ≡ h.rows = ap rows_of c.deref.ensures.value ∙ c.in_ok-rows.ensures h.rows (c.in-Ok.ensures.rows ∙ read.are_rows) in
    let made = unwrap_or (option_map (λ v. v.items) drawn) bytes in
    let u = with_acsc (values h.mentions) in
    state-drawn rule texts text bytes made t h is_table (sym c.lacks_acsc.ensures ∙ c.if-not-lacks_acsc.false)
    (subst (λ (rs : List Row). written made ≡ in_place (written bytes) (entry_limit u rs) (entry (reading_of_text text).field u rs)) rows
    (subst (λ (x : List ℕ). written made ≡ in_place (written bytes) (entry_limit u (rows_of c.deref.result.now))
    (entry (reading_of_text x).field u (rows_of c.deref.result.now))) same (is h.mentions bytes is_table))))
    c.write_drawn.ensures
