use Rattle.std.proofs.Common.{refl}
use Rattle.base_meaning.specs.declared.edits.Outcome.TheVariants.{Accepted, Refused}
use Rattle.tools_session.proofs.editor.carry_out.Goals as goal

pub returns-in-Ok : goal.returns-in-Ok
returns-in-Ok g c = record {
  outcome = Accepted;
  edited = record { step = c.in-Ok.ensures.step; shows = (c.in-Ok.edited.work, c.in-Ok.ensures.rebuilds) };
  wrote = c.write_out.ensures;
}

pub returns-in-Err : goal.returns-in-Err
returns-in-Err g c = record {
  outcome = Refused c.in-Err.error;
  edited = record { step = c.in-Err.ensures.step; shows = refl };
  wrote = c.write_refusal.ensures;
}
