use Rattle.serde_json.specs.View.{view}
use Rattle.lsp_messages.proofs.Decoding.{no_value, value_found}
use Rattle.lsp_messages.proofs.bodies.value_in.Goals as goal

pub returns-in-Ok : goal.returns-in-Ok
returns-in-Ok c = value_found c.args.text.now (view c.in-Ok.value) c.in-Ok.ensures.ok.0 c.in-Ok.ensures.ok.1

pub returns-in-Err-2 : goal.returns-in-Err-2
returns-in-Err-2 c = no_value c.args.text.now (c.in-Err.ensures.err (λ m. let no = c.if-is_memory.false in let yes = c.is_memory.ensures.1 m in cc))
