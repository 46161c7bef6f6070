use Rattle.std.proofs.Common.{◌≡◌, drop, map}
use Rattle.source_settings.specs.Comments.{allowed_on}
use Rattle.source_settings.specs.inside.Latest.{latest}
use Rattle.source_settings.proofs.allowances.Allowances.codes_on.Given as goal

-- the codes so far, unless the rest has later ones
abbrev pub invariant-loop-allowance : goal.invariant-loop-allowance
invariant-loop-allowance l =
    latest (map (λ code. code.now) l.codes) (drop l.allowance-index l.allowance-items) l.line ≡ allowed_on l.self l.line
