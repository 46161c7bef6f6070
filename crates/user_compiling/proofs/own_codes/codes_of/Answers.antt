use Rattle.std.proofs.Common.{inr, ◌≡◌, ◌∙◌, false, List, ℕ, map, sym, ap, subst}
use Rattle.std.specs.List.{list_any}
use Rattle.std.specs.Option.{option_map}
use Rattle.std.proofs.lemmas.Option.{same_Some, get_or_from_slice_get}
use Rattle.ti_source.specs.Cutting.{OneBlock}
use Rattle.ti_source.specs.Reading.{Reading, fault_of}
use Rattle.ti_source.specs.Parsing.{reading_of_text}
use Rattle.user_items.specs.Laws.{is_local_warning}
use Rattle.user_items.specs.Reading.{UserBlock}
use Rattle.user_values.proofs.Resolving.{read_text}
use Rattle.user_compiling.specs.Findings.{AreCodesOf}
use Rattle.user_compiling.proofs.own_codes.codes_of.Goals as goal

pub own_codes-requires : goal.own_codes-requires
own_codes-requires c =
    let db = c.args.database.now.texts in
    let text = c.text.result.now in
    subst OneBlock (get_or_from_slice_get db c.args.at text text c.text.ensures) (c.requires.one c.args.at text c.requires.within)

pub returns-then-has_user_warning : goal.returns-then-has_user_warning
returns-then-has_user_warning c = λ text stands.
    let same : c.text.result.now ≡ text = same_Some c.text.result.now text (sym c.text.ensures ∙ stands) in
    subst (λ (t : List ℕ). AreCodesOf t c.in_ok-codes.codes.items) same c.in_ok-codes.ensures

pub returns : goal.returns
returns c = λ text stands.
    let there = read_text c.args.database.now.texts c.args.at text stands in
    let faults : map fault_of c.local_faults.result.now ≡ (reading_of_text text).faults =
    same_Some (map fault_of c.local_faults.result.now) (reading_of_text text).faults (sym c.local_faults.ensures
    ∙ ap (option_map (λ (block : Reading). block.faults)) there) in
    let quiet : list_any is_local_warning (reading_of_text text).faults ≡ false =
    sym (c.if-has_user_warning.ensures ∙ ap (list_any is_local_warning) faults) in
    inr (c.new.ensures.items, ap (λ (b : UserBlock). b.faults) (c.blocks_without_warnings_have_uses_alone.ensures text quiet))
