use Rattle.std.proofs.Common.{◌≡◌, map, take}
use Rattle.std.specs.String.{string_bytes}
use Rattle.everyday_infocmp.proofs.names.given_names.Given as goal

-- the names before
abbrev pub invariant-loop-name : goal.invariant-loop-name
invariant-loop-name l = map (λ name. name.now) l.given.items ≡ map string_bytes (take l.name-index l.names)
