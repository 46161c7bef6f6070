use Rattle.std.proofs.Common.{◌≡◌, drop, map}
use Rattle.std.specs.List.{list_any}
use Rattle.std.specs.Str.{bytes_eq}
use Rattle.source_settings.proofs.allowances.has_code.Given as goal

-- it is among them if it is among the rest
abbrev pub invariant-loop-allowed : goal.invariant-loop-allowed
invariant-loop-allowed l =
    list_any (λ allowed. bytes_eq allowed l.code) (map (λ allowed. allowed.now) l.codes)
    ≡ list_any (λ allowed. bytes_eq allowed l.code) (map (λ allowed. allowed.now) (drop l.allowed-index l.codes))
