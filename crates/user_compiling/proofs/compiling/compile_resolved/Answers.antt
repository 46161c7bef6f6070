use Rattle.std.proofs.Common.{◌≡◌, ◌∙◌, false, List, length, ap, sym, subst, arith}
use Rattle.std.proofs.lemmas.Option.{same_Some, get_or_from_slice_get}
use Rattle.ti_source.specs.Cutting.{OneBlock}
use Rattle.ti_source.specs.Parsing.{reading_of_text}
use Rattle.ti_source.specs.Reading.{Reading}
use Rattle.ti_layout.specs.Values.{contents}
use Rattle.base_meaning.specs.Expansion.{is_broken}
use Rattle.base_meaning.specs.Readings.{reading_by, readings_by}
use Rattle.base_meaning.proofs.Imaging.{sound_of_expansion}
use Rattle.base_meaning.proofs.Ruling.{read_by}
use Rattle.user_extension.specs.declared.user_defined.UserDefined.{UserDefined}
use Rattle.user_extension.specs.UserDefined.{rows_of}
use Rattle.user_extension.proofs.Entry.{none}
use Rattle.user_values.specs.Tables.{said_at}
use Rattle.user_compiling.specs.Entries.{state_seen, state_with}
use Rattle.user_compiling.proofs.States.{state_of_profile, state_of_rows, no_rows_seen}
use Rattle.user_compiling.proofs.compiling.compile_resolved.Goals as goal

pub write_block-requires-clause-one : goal.write_block-requires-clause-one
write_block-requires-clause-one c =
    let db = c.args.database.now.texts in
    let text = c.text.result.now in
    subst OneBlock (get_or_from_slice_get db c.args.at text text c.text.ensures) (c.requires.one c.args.at text c.requires.within)

pub write_block-requires-clause-whole : goal.write_block-requires-clause-whole
write_block-requires-clause-whole c =
    let table = c.requires.table c.text.result.now c.text.ensures in
    let rule = c.args.database.now.rule in
    subst (λ (b : Reading). is_broken b ≡ false) (read_by rule c.text.result.now)
    (sound_of_expansion (readings_by rule c.args.database.now.texts) (reading_by rule c.text.result.now) table.0 table.1)

pub returns-then-is_empty : goal.returns-then-is_empty
returns-then-is_empty c = λ text stands.
    let empty = none _ c.if-is_empty.ensures in
    let nothing : length c.in_ok-rows.rows.items ≡ 0 = omega (arith, empty, c.in_ok-rows.rows.ok.0) in
    state_of_profile c.args.database.now.rule c.args.database.now.texts c.args.at text (said_at c.args.user.now) (contents c.args.table.now) (rows_of c.in_ok-rows.rows.items) _ _ stands
    (c.requires.user text stands) c.in_ok-rows.ensures (no_rows_seen c.in_ok-rows.rows.items nothing)
    (c.requires.table text stands) c.compiled.ensures c.in_ok-state.ensures

pub returns : goal.returns
returns c = λ text stands.
    let same : c.text.result.now ≡ text = same_Some c.text.result.now text (sym c.text.ensures ∙ stands) in
    state_of_rows c.args.database.now.rule c.args.database.now.texts text (said_at c.args.user.now) (contents c.args.table.now) (rows_of c.in_ok-rows.rows.items)
    (state_seen c.in_ok-written.written) (c.requires.user text stands) c.in_ok-rows.ensures (c.requires.table text stands)
    (λ mentions says.
    c.in_ok-written.ensures mentions says ∙ ap (λ t. state_with (reading_of_text t) mentions (rows_of c.deref.result.now)) same
    ∙ ap (λ (rows : List UserDefined). state_with (reading_of_text text) mentions (rows_of rows)) c.deref.ensures.value)
