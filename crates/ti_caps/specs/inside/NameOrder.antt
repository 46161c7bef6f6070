-- The order by name as the code's tables have it (own).
use Rattle.std.specs.Prelude.{List, map, filter}
use Rattle.ti_caps.specs.declared.capability.Kind.{Kind}
use Rattle.ti_caps.specs.Tables.{same_kind, Capability, capability}
use Rattle.ti_caps.specs.inside.Lookup.{NameRow, by_name}

-- the capabilities of a kind that have a row, in the order of the rows
abbrev pub rows_of_kind : Kind → List NameRow → List Capability
rows_of_kind kind rows = map (λ row. capability row.1 row.2) (filter (λ row. same_kind row.1 kind) rows)

-- the capabilities of a kind in the order of the table that a look-up searches
abbrev pub rows_in_order : Kind → List Capability
rows_in_order kind = rows_of_kind kind by_name
