use Rattle.source_blocks.proofs.Deciders.{found_decides}
use Rattle.source_blocks.proofs.SaidAlong.{decided_found, some_decides}
use Rattle.source_blocks.proofs.deciding.deciders_are_found.Goals as goal

pub returns-clause-found : goal.returns-clause-found
returns-clause-found c blocks left cap at by said e = (found_decides blocks cap at by, decided_found blocks left cap at by said e)

pub returns-clause-some : goal.returns-clause-some
returns-clause-some c = some_decides
