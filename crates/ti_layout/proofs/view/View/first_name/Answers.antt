use Rattle.ti_layout.proofs.Search.{first_byte-found, first_byte-none}
use Rattle.ti_layout.proofs.view.View.first_name.Goals as goal

pub returns-in-Some : goal.returns-in-Some
returns-in-Some c = first_byte-found 124 c.args.self.now.names.now c.in-Some.end c.in-Some.ensures

pub returns-in-None : goal.returns-in-None
returns-in-None c = first_byte-none 124 c.args.self.now.names.now c.in-None.ensures
