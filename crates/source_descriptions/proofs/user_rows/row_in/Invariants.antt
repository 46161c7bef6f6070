use Rattle.std.proofs.Common.{◌≡◌, drop, map}
use Rattle.std.specs.List.{find}
use Rattle.source_descriptions.specs.UserDescriptions.{has_name, user_told}
use Rattle.source_descriptions.proofs.user_rows.row_in.Given as goal

abbrev pub invariant-loop-row : goal.invariant-loop-row
invariant-loop-row l =
    find (has_name l.name) (map (λ r. user_told r.0.now r.1.now r.2.now r.3.now) (drop l.row-index l.rows))
    ≡ find (has_name l.name) (map (λ r. user_told r.0.now r.1.now r.2.now r.3.now) l.rows)
