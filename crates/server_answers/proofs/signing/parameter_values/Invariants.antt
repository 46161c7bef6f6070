use Rattle.std.proofs.Common.{◌≡◌, map}
use Rattle.std.specs.Str.{trim_start}
use Rattle.serde_json.specs.View.{view}
use Rattle.lsp_values.specs.Shapes.{parameter_data}
use Rattle.server_answers.proofs.signing.parameter_values.Given as goal

-- the values so far are those of the parts that were taken
abbrev pub invariant-loop-part : goal.invariant-loop-part
invariant-loop-part l = map view l.values.items ≡ map (λ part. parameter_data (trim_start part)) (map (λ part. part.now) l.yielded)
