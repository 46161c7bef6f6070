use Rattle.everyday_tic.proofs.Determined.{outcomes_are_determined}
use Rattle.everyday_tic.proofs.laws.outcomes_are_determined.Goals as goal

pub returns : goal.returns
returns c =
    outcomes_are_determined c.sources_have_one_refusal.ensures.one c.sources_have_one_refusal.ensures.taken c.used_entries_are_determined.ensures
    c.states_are_determined.ensures c.written_states_are_determined.ensures c.one_with_characters.ensures
