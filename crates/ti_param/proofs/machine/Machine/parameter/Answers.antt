use Rattle.std.proofs.Common.{get_or, map, pos, ap, ◌∙◌, arith}
use Rattle.ti_param.specs.Meaning.{argument_of, number}
use Rattle.ti_param.proofs.Parameters.{after_two}
use Rattle.ti_param.proofs.machine.Machine.parameter.Goals as goal

pub returns-in_default : goal.returns-in_default
returns-in_default c =
    c.given_at.ensures
    ∙ after_two (map argument_of c.self.inside.given.now) (argument_of c.self.inside.first) (argument_of c.self.inside.second) (number (pos 0)) c.args.place
    (omega arith)
    ∙ ap (λ s. get_or s.parameters c.args.place (number (pos 0))) c.self.view_is
