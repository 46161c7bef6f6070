use Rattle.std.proofs.Common.{◌≡◌, ◌∙◌, ◌++◌, true, map, take, length, sym, ap, subst, All, List}
use Rattle.std.specs.List.{take-map}
use Rattle.std.proofs.lemmas.List.Elements.{All-append, All-take}
use Rattle.ti_text.proofs.Lists.{item_at}
use Rattle.ti_source.specs.Parsing.{reading_of_text}
use Rattle.base_meaning.specs.Readings.{readings_by}
use Rattle.base_meaning.specs.Usable.{IsPlaced}
use Rattle.base_meaning.specs.Faults.{SourceFault, fault_seen as profile_fault_seen, local_faults, name_faults, entry_faults}
use Rattle.user_items.specs.Parsing.{user_reading_of_text}
use Rattle.user_compiling.specs.Faults.{ExtendedSourceFault, fault_seen, of_profile, extended_item_faults}
use Rattle.user_compiling.specs.Report.{IsExtendedPlaced}
use Rattle.user_compiling.specs.inside.Pairs.{pairs, warning_ordinals, replaced, front_faults}
use Rattle.user_compiling.proofs.Pairs.{front_replaced, replaced_by_codes}
use Rattle.user_compiling.proofs.SourceFaults.{four_added, placed_replaced, placed_entry}
use Rattle.user_compiling.proofs.Findings.{like_state, like_limit}
use Rattle.user_compiling.proofs.block_faults.add_block_faults.Goals as goal

pub returns-clause-added : goal.returns-clause-added
returns-clause-added c = λ text state stands found.
    let db = c.args.database.now.texts in
    let at = c.args.at in
    let blocks = readings_by c.args.database.now.rule db in
    let block = reading_of_text text in
    let old = map fault_seen c.args.faults.now.items in
    let seen = map profile_fault_seen c.split_at.result.0.now in
    let ps = pairs (warning_ordinals block.faults) (user_reading_of_text text).faults in
    let front : seen ≡ front_faults blocks at block = ap (map profile_fault_seen) c.split_at.ensures.front ∙ c.front_len.ensures.front text stands in
    let paired : replaced seen c.args.finding.now.codes.items ≡ replaced (front_faults blocks at block) ps =
    replaced_by_codes c.warnings_are_of_defining_items.ensures text c.args.finding.now.codes.items seen found.codes
    ∙ ap (λ fs. replaced fs ps) front in
    four_added old (map fault_seen c.replace.new.faults.items) (map fault_seen c.add_entry_fault.new.faults.items)
    (map of_profile (local_faults true at block.faults)) (map of_profile (name_faults blocks at block.names)) (extended_item_faults blocks at text)
    (map of_profile (entry_faults at block.names state))
    (c.in_ok-replace.ensures ∙ ap (λ cs. old ++ replaced seen cs) c.deref.ensures.value
    ∙ ap (λ xs. old ++ xs) (paired ∙ front_replaced c.warnings_are_of_defining_items.ensures c.item_faults_are_in_order.ensures blocks at text))
    (c.in_ok-add_entry_fault.ensures text state stands found.too_large)

pub returns-clause-placed : goal.returns-clause-placed
returns-clause-placed c = λ profile_placed old_placed.
    let db = c.args.database.now.texts in
    let at = c.args.at in
    let n = length db in
    let item = item_at db at c.requires.within in
    let text = item.0 in
    let profile = c.args.profile.now in
    let front_is : map profile_fault_seen c.split_at.result.0.now ≡ take c.front_len.result (map profile_fault_seen profile) =
    ap (map profile_fault_seen) c.split_at.ensures.front ∙ sym (take-map profile_fault_seen c.front_len.result profile) in
    let front_placed = subst (λ (fs : List SourceFault). All (IsPlaced n) fs) (sym front_is)
    (All-take (IsPlaced n) c.front_len.result (map profile_fault_seen profile) profile_placed) in
    let Placed : List ExtendedSourceFault → Type 0 = All (IsExtendedPlaced n) in
    let one : Placed (map fault_seen c.replace.new.faults.items) =
    subst Placed (sym c.in_ok-replace.ensures) (All-append (IsExtendedPlaced n) (map fault_seen c.args.faults.now.items)
    (replaced (map profile_fault_seen c.split_at.result.0.now) c.deref.result.now) old_placed
    (placed_replaced n (map profile_fault_seen c.split_at.result.0.now) c.deref.result.now front_placed)) in
    let state = like_state c.args.finding.now.is_too_large in
    let last = map of_profile (entry_faults at (reading_of_text text).names state) in
    subst Placed (sym (c.in_ok-add_entry_fault.ensures text state item.1 (like_limit c.args.finding.now.is_too_large)))
    (All-append (IsExtendedPlaced n) (map fault_seen c.replace.new.faults.items) last one
    (placed_entry n at (reading_of_text text).names state c.requires.within))
