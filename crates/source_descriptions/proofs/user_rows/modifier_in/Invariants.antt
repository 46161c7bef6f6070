use Rattle.std.proofs.Common.{◌≡◌, drop, map}
use Rattle.std.specs.List.{find}
use Rattle.source_descriptions.specs.UserDescriptions.{has_name, modified}
use Rattle.source_descriptions.proofs.user_rows.modifier_in.Given as goal

abbrev pub invariant-loop-modifier : goal.invariant-loop-modifier
invariant-loop-modifier l =
    find (has_name l.name) (map (λ m. modified (l.key.0.now, l.key.1.now) (m.0.now, m.1.now)) (drop l.modifier-index l.modifiers))
    ≡ find (has_name l.name) (map (λ m. modified (l.key.0.now, l.key.1.now) (m.0.now, m.1.now)) l.modifiers)
