use Rattle.std.proofs.Common.{◌≡◌, ◌++◌, drop, map}
use Rattle.std.specs.List.{flat_map}
use Rattle.std.specs.String.{string_bytes}
use Rattle.serde_json.specs.View.{view}
use Rattle.server_answers.specs.InstalledOffers.{if_offered}
use Rattle.server_answers.proofs.installed_offers.push_offered.Given as goal

-- the items so far, and those that are left, are all
abbrev pub invariant-loop-name : goal.invariant-loop-name
invariant-loop-name l =
    map view l.items.items ++ flat_map (if_offered l.database l.typed l.range) (map string_bytes (drop l.name-index l.names))
    ≡ map view l.fn.items.items ++ flat_map (if_offered l.database l.typed l.range) (map string_bytes l.names)
