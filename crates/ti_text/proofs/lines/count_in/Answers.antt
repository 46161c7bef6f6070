use Rattle.std.proofs.Common.{eqb, ap, ◌∙◌, arith, w8}
use lib.Count.{ones}
use lib.Lanes.{chunk}
use Rattle.std.proofs.lemmas.Simd.{length-chunk, bitmask_splat, ones-mask_l}
use Rattle.ti_text.specs.Ascii as ascii
use Rattle.ti_text.proofs.lines.count_in.Goals as goal

pub returns : goal.returns
returns c =
    let v = chunk c.args.at 32 c.args.text.now in
    let long = length-chunk c.args.at 32 c.args.text.now c.requires in
    ap ones (bitmask_splat w8 eqb v 32 ascii.newline long (omega arith)) ∙ ones-mask_l (λ x. eqb x ascii.newline) v
