use Rattle.std.proofs.Common.{◌≡◌, map, take}
use Rattle.everyday_names.specs.Fields.{fields_seen, long_field}
use Rattle.everyday_names.proofs.sources.long_fields.Given as goal

-- those of the blocks before
abbrev pub invariant-loop-at : goal.invariant-loop-at
invariant-loop-at l = fields_seen l.fields.items ≡ map long_field (take l.at l.database.texts)
