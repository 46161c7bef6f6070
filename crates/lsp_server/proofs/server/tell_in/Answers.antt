use Rattle.lsp_server.proofs.server.tell_in.Goals as goal

pub returns-in-Running : goal.returns-in-Running
returns-in-Running g c = rw c.in-Running.is c.tell.ensures
