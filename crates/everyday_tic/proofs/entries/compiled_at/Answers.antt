use Rattle.std.proofs.Common.{Bor, List, ℕ, option_map}
use Rattle.everyday_tic.proofs.Filing.{profile_entry}
use Rattle.everyday_tic.proofs.entries.compiled_at.Goals as goal

pub returns-in-None : goal.returns-in-None
returns-in-None c =
    rw c.in-None.is
    (profile_entry c.plain_sources_are_as_in_the_profile.ensures c.args.database.now.rule c.args.database.now.texts c.args.at
    (option_map (λ (bytes : Bor (List ℕ)). bytes.now) c.compiled.result) c.requires.within c.compiled.ensures)
