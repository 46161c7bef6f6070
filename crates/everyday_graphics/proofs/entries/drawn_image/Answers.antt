use Rattle.std.proofs.Common.{◌≡◌, List, ℕ, Some, [], ap, option_map, slice_get, sym, subst, unwrap_or, ◌∙◌}
use Rattle.std.proofs.lemmas.Option.{same_Some, slice_get-map}
use Rattle.std.proofs.lemmas.Result.{IfOk-weaker}
use Rattle.base_meaning.specs.Compiled.{written}
use Rattle.base_meaning.specs.Expansion.{values}
use Rattle.base_meaning.specs.Readings.{reading_by, readings_by}
use Rattle.ti_layout.specs.Values.{contents}
use Rattle.ti_source.specs.Parsing.{reading_of_text}
use Rattle.user_extension.specs.Extension.{entry, entry_limit}
use Rattle.everyday_graphics.specs.Entries.{in_place}
use Rattle.everyday_graphics.specs.Graphics.{with_acsc}
use Rattle.everyday_graphics.proofs.Drawn.{image-drawn}
use Rattle.everyday_graphics.proofs.entries.drawn_image.Goals as goal

pub returns : goal.returns
returns c =
    let rule = c.args.database.now.rule in
    let texts = c.args.database.now.texts in
    let at = c.args.at in
    let bytes = c.args.bytes.now in
    IfOk-weaker c.write_drawn.result _ _
    (λ drawn h text stands.
    let same : c.text.result.now ≡ text = same_Some c.text.result.now text (sym c.text.ensures ∙ stands) in
    let read : slice_get (readings_by rule texts) at ≡ Some (reading_by rule text) =
    slice_get-map (reading_by rule) texts at ∙ ap (option_map (reading_by rule)) stands in
    let found = c.in-Some.ensures (reading_by rule text) read in
    let made = unwrap_or (option_map (λ v. v.items) drawn) bytes in
    let u = with_acsc (values found.0) in
    image-drawn rule texts text bytes made (contents c.in-Some.table.now) found.0
    (c.plain_sources_are_as_in_the_profile.ensures.entries rule texts at text stands ∙ c.requires.compiled) found.1 found.2
    (sym c.lacks_acsc.ensures ∙ c.if-not-lacks_acsc.false)
    (subst (λ (t : List ℕ). written made ≡ in_place (written bytes) (entry_limit u []) (entry (reading_of_text t).field u [])) same (h found.0 bytes found.2)))
    c.write_drawn.ensures
