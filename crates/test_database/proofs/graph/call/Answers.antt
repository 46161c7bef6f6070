use Rattle.std.proofs.Common.{refl}
use Rattle.test_database.proofs.graph.call.Goals as goal

pub find-requires : goal.find-requires
find-requires c = c.if-not-is_whole.ensures.0 refl
