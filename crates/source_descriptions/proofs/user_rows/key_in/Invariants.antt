use Rattle.std.proofs.Common.{◌≡◌, drop, map}
use Rattle.std.specs.List.{find, flat_map}
use Rattle.source_descriptions.specs.UserDescriptions.{has_name, modified_by}
use Rattle.source_descriptions.proofs.user_rows.key_in.Given as goal

abbrev pub invariant-loop-key : goal.invariant-loop-key
invariant-loop-key l =
    find (has_name l.name) (flat_map modified_by (map (λ k. (k.0.now, k.1.now)) (drop l.key-index l.keys)))
    ≡ find (has_name l.name) (flat_map modified_by (map (λ k. (k.0.now, k.1.now)) l.keys))
