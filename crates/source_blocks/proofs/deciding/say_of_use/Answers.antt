use Rattle.std.proofs.Common.{◌≡◌, ℕ, ◌<◌, Some, length, subst, sym, ◌∙◌}
use Rattle.source_blocks.proofs.Spotting.{owner_found}
use Rattle.source_blocks.proofs.deciding.say_of_use.Goals as goal

pub said_by-requires : goal.said_by-requires
said_by-requires c = owner_found c.args.database.now c.args.name.now (Some c.in-Some.at) (sym c.in-Some.is ∙ c.owner.ensures)

pub returns-then-is_some-clause-within : goal.returns-then-is_some-clause-within
returns-then-is_some-clause-within c = λ at e.
    let same : c.in-Some.at ≡ at = cc in
    subst (λ (n : ℕ). n < length c.args.database.now) same (owner_found c.args.database.now c.args.name.now (Some c.in-Some.at)
    (sym c.in-Some.is ∙ c.owner.ensures))
