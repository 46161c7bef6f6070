use Rattle.tools_devices.proofs.LineSteps.{newline_found}
use Rattle.tools_devices.proofs.line_reader.find_newline.Goals as goal

pub returns : goal.returns
returns c = newline_found c.args.bytes.now c.memchr.result c.memchr.ensures
