use Rattle.std.proofs.Common.{sym, arith}
use Rattle.source_places.proofs.Onward.{place_first}
use Rattle.source_places.proofs.walking.PlaceWalk.new.Goals as goal

pub invariant_of-result : goal.invariant_of-result
invariant_of-result c = (sym (place_first (record { line = 0; column = 0 }) c.args.text.now), omega arith, omega arith)
