use Rattle.std.proofs.Common.{◌≡◌, drop, map}
use Rattle.everyday_tset.specs.Mappings.{mapped, mapping_of}
use Rattle.everyday_tset.proofs.mappings.mapped.Given as goal

-- the rest of the mappings decides
abbrev pub invariant-loop-mapping : goal.invariant-loop-mapping
invariant-loop-mapping l = mapped (map mapping_of (drop l.mapping-index l.mappings)) l.name l.rate ≡ mapped (map mapping_of l.mappings) l.name l.rate
