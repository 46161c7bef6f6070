use Rattle.std.proofs.Common.{drop, ap, ◌∙◌}
use Rattle.tools_devices.proofs.LineSteps.{skip_front}
use Rattle.tools_devices.proofs.read_ahead.ReadAhead.skip.Goals as goal

pub returns : goal.returns
returns c =
    skip_front c.self.inside.piece c.self.inside.from c.self.inside.to c.args.count c.self.invariant.0 (rw c.self.view_is c.requires)
    ∙ ap (drop c.args.count) c.self.view_is
