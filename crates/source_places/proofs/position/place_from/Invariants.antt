use Rattle.std.proofs.Common.{◌≡◌, ◌≤◌, ◌*◌, ◌-◌, drop}
use Rattle.source_places.specs.Position.{place_after, position_of}
use Rattle.source_places.proofs.position.place_from.Given as goal

-- the place so far leads to that of the offset
abbrev pub invariant-loop-at : goal.invariant-loop-at
invariant-loop-at l = record {
  leads : place_after l.place (drop l.at l.text) (l.offset - l.at) ≡ position_of l.text l.offset;
  within : l.at ≤ l.offset;
  line : l.place.line ≤ l.at;
  column : l.place.column ≤ 2 * l.at;
}
