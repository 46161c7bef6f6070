use Rattle.std.proofs.lemmas.List.{take_rest}
use Rattle.everyday_tset.proofs.mappings.mapping_cut.Goals as goal

pub returns-in-Some : goal.returns-in-Some
returns-in-Some c = rw c.in-Some.is (rw take_rest at c.after_port.ensures)
