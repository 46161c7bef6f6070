use Rattle.std.proofs.Common.{arith}
use Rattle.std.proofs.lemmas.Map.Text.{text_keys}
use Rattle.tools_devices.proofs.memory_tree.MemTree.insert.Goals as goal

pub returns-clause-written : goal.returns-clause-written
returns-clause-written c = λ path. grind (arith, text_keys)
