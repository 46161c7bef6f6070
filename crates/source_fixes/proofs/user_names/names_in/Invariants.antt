use Rattle.std.proofs.Common.{◌≡◌, map, take}
use Rattle.source_descriptions.specs.UserDescriptions.{user_description_seen}
use Rattle.source_fixes.proofs.user_names.names_in.Given as goal

abbrev pub invariant-loop-said : goal.invariant-loop-said
invariant-loop-said l = map (λ name. name.now) l.names.items ≡ map (λ said. (user_description_seen said).name) (take l.said-index l.all)
