use Rattle.std.proofs.Common.{◌≡◌, ◌++◌, map, drop}
use Rattle.user_extension.specs.View.{read_rows}
use Rattle.user_listing.specs.Names.{names_of_kind}
use Rattle.user_listing.proofs.names.names_of_kind.Given as goal

abbrev pub invariant-loop-place : goal.invariant-loop-place
invariant-loop-place l =
    map (λ name. name.now) l.names.items ++ names_of_kind l.kind (drop l.place (read_rows l.extension)) ≡ names_of_kind l.kind (read_rows l.extension)
