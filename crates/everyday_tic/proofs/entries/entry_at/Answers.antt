use Rattle.std.proofs.Common.{◌<◌, arith, length, option_map, sym, ◌∙◌}
use Rattle.everyday_tic.specs.inside.States.{others_seen, states_of}
use Rattle.everyday_tic.proofs.Drawn.{none_over, some_over}
use Rattle.everyday_tic.proofs.entries.entry_at.Goals as goal

pub returns-in-Some : goal.returns-in-Some
returns-in-Some c =
    let states = states_of c.args.database.now.rule c.args.database.now.texts (option_map (λ c. c.now) c.args.compiled) in
    let within : c.args.at < length states = omega (arith, c.requires.within, c.requires.as_many) in
    sym (some_over states (others_seen c.args.others.now) c.args.at c.in-Some.bytes.now within (sym c.in-Some.ensures))

pub returns-in-None : goal.returns-in-None
returns-in-None c =
    let states = states_of c.args.database.now.rule c.args.database.now.texts (option_map (λ c. c.now) c.args.compiled) in
    c.compiled_at.ensures ∙ sym (none_over states (others_seen c.args.others.now) c.args.at (sym c.in-None.ensures))
