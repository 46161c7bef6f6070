use Rattle.tools_devices.proofs.CutLines.{one_split-law}
use Rattle.tools_devices.proofs.laws.one_split.Goals as goal

pub returns : goal.returns
returns c = one_split-law
