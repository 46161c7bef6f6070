use Rattle.std.proofs.Common.{Option, ℕ, option_map, subst, sym, unwrap_or}
use Rattle.std.specs.Global.{Vec}
use Rattle.std.proofs.lemmas.Result.{IfOk-weaker}
use Rattle.everyday_constants.specs.Entries.{IsWithCharacters}
use Rattle.everyday_names.specs.Fields.{field_seen}
use Rattle.everyday_tic.specs.inside.States.{others_seen, states_of}
use Rattle.everyday_tic.proofs.Spelled.{none-with, same-with, some-with}
use Rattle.everyday_tic.proofs.characters.spelled_at.Goals as goal

pub returns-in_default : goal.returns-in_default
returns-in_default c state becomes =
    none-with (states_of c.args.database.now.rule c.args.database.now.texts (option_map (λ c. c.now) c.args.compiled)) (others_seen c.args.others.now) c.args.at state
    becomes (sym c.in_default.ensures)

pub returns-in-Some-2 : goal.returns-in-Some-2
returns-in-Some-2 c state becomes =
    let bytes = c.in-Some.bytes.now in
    some-with (states_of c.args.database.now.rule c.args.database.now.texts (option_map (λ c. c.now) c.args.compiled)) (others_seen c.args.others.now) c.args.at state
    becomes bytes c.in-Some-2.made.items (sym c.in-Some.ensures)
    (subst (λ (o : Option (Vec ℕ)). IsWithCharacters bytes (unwrap_or (option_map (λ v. v.items) o) bytes)) c.in-Some-2.is c.in_ok-made.ensures)

pub returns-in-None : goal.returns-in-None
returns-in-None c =
    let bytes = c.in-Some.bytes.now in
    IfOk-weaker c.copy_other.result _ _
    (λ copy is state becomes.
    same-with (states_of c.args.database.now.rule c.args.database.now.texts (option_map (λ c. c.now) c.args.compiled)) (others_seen c.args.others.now) c.args.at state
    becomes bytes (field_seen copy) (sym c.in-Some.ensures)
    (subst (λ (o : Option (Vec ℕ)). IsWithCharacters bytes (unwrap_or (option_map (λ v. v.items) o) bytes)) c.in-None.is c.in_ok-made.ensures) is)
    c.copy_other.ensures
