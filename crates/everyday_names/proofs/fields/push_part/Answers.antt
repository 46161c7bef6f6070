use Rattle.std.proofs.Common.{sym, arith}
use Rattle.std.proofs.lemmas.List.{length-take-le}
use Rattle.everyday_names.proofs.fields.push_part.Goals as goal

pub slice_bounds-extend_from_slice-end : goal.slice_bounds-extend_from_slice-end
slice_bounds-extend_from_slice-end c = let r = c.requires in sym (length-take-le 127 c.args.field.now (omega (arith, r)))
