use Rattle.std.proofs.Common.{◌≡◌, ◌∙◌, map, sym, ap, List, ℕ, slice_get}
use Rattle.std.specs.Rc.{rc_slice_items}
use Rattle.std.specs.Option.{option_map}
use Rattle.std.proofs.lemmas.List.{map-append}
use Rattle.std.proofs.lemmas.Option.{same_Some}
use Rattle.ti_source.specs.Reading.{Reading}
use Rattle.ti_source.specs.Parsing.{reading_of_text}
use Rattle.user_values.proofs.Resolving.{read_text}
use Rattle.user_compiling.specs.Faults.{fault_seen}
use Rattle.user_compiling.proofs.SourceFaults.{entry_added}
use Rattle.user_compiling.proofs.block_faults.push_too_large.Goals as goal

pub returns : goal.returns
returns c = λ text stands.
    let there = read_text c.args.database.now.texts c.args.at text stands in
    let names : map rc_slice_items c.names.result.now ≡ (reading_of_text text).names =
    same_Some (map rc_slice_items c.names.result.now) (reading_of_text text).names (sym c.names.ensures
    ∙ ap (option_map (λ (block : Reading). block.names)) there) in
    entry_added c.args.at (reading_of_text text).names (option_map rc_slice_items c.in_ok-detail.detail) (map fault_seen c.args.faults.now.items)
    (map fault_seen c.push.new.self.items) (c.in_ok-detail.ensures ∙ ap (λ (xs : List (List ℕ)). slice_get xs 0) names)
    (ap (map fault_seen) c.in_ok-push.ensures.items ∙ map-append fault_seen c.args.faults.now.items _)
