use Rattle.std.proofs.Common.{ℕ, List, ◌≡◌, ◌++◌, map, filter, drop}
use Rattle.std.specs.Rc.{rc_slice_items}
use Rattle.base_meaning.specs.Owner.{readings, is_owner}
use Rattle.base_meaning.specs.OwnNames.{own_names}
use Rattle.tools_devices.specs.Placing.{entries}
use Rattle.tools_sources.specs.EntryFiles.{files_for}
use Rattle.tools_sources.proofs.entry_files.add_owned.Given as goal

-- the files so far, and those of the names that are left, are those that are wanted
abbrev pub invariant-loop-name : goal.invariant-loop-name
invariant-loop-name l =
    entries l.files.items ++ files_for l.directory (filter (λ (name : List ℕ). is_owner (readings l.database.texts) name l.at)
    (map (λ name. rc_slice_items name.now) (drop l.name-index l.name-items))) l.image
    ≡ entries l.fn.files.items ++ files_for l.directory (own_names (readings l.database.texts) l.at (map rc_slice_items l.names)) l.image
