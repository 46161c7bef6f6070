use Rattle.everyday_constants.proofs.Written.{refused}
use Rattle.everyday_constants.proofs.entries.with_characters.Goals as goal

pub returns-in-Err : goal.returns-in-Err
returns-in-Err c = refused c.one_reading.ensures c.args.bytes.now c.in-Err.field-0 c.in-Err.ensures.refused
