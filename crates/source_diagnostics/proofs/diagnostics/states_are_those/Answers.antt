use Rattle.source_diagnostics.proofs.SourceStates.{those_states}
use Rattle.source_diagnostics.proofs.diagnostics.states_are_those.Goals as goal

pub returns : goal.returns
returns c = those_states
