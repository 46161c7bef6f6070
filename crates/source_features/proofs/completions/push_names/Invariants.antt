use Rattle.std.proofs.Common.{◌≡◌, ℕ, List, ◌++◌, filter, map, take}
use Rattle.std.specs.Rc.{rc_slice_items}
use Rattle.std.specs.String.{string_bytes}
use Rattle.base_meaning.specs.Owner.{is_owner, readings}
use Rattle.base_meaning.specs.Report.{shown_detail}
use Rattle.source_blocks.specs.Giving.{can_be_given}
use Rattle.source_features.proofs.completions.push_names.Given as goal

abbrev pub invariant-loop-name : goal.invariant-loop-name
invariant-loop-name l = map string_bytes l.names.items
    ≡ map string_bytes l.fn.names.items
    ++ map shown_detail (filter can_be_given (filter (λ (name : List ℕ). is_owner (readings l.database) name l.at)
    (map (λ name. rc_slice_items name.now) (take l.name-index l.name-items))))
