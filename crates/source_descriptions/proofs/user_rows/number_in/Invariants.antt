use Rattle.std.proofs.Common.{◌≡◌, drop, map}
use Rattle.std.specs.List.{find}
use Rattle.source_descriptions.specs.UserDescriptions.{has_name, shifted}
use Rattle.source_descriptions.proofs.user_rows.number_in.Given as goal

abbrev pub invariant-loop-number : goal.invariant-loop-number
invariant-loop-number l =
    find (has_name l.name) (map (λ n. shifted n.now) (drop l.number-index l.numbers)) ≡ find (has_name l.name) (map (λ n. shifted n.now) l.numbers)
