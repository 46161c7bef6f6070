use Rattle.std.proofs.Common.{refl, take, arith}
use Rattle.std.proofs.lemmas.List.{length-take-le}
use Rattle.std.proofs.lemmas.Simd.{zip2_splat}
use Rattle.user_extension.proofs.Nuls.{first_of_lanes}
use Rattle.user_extension.proofs.texts.first_nul.Goals as goal

pub returns : goal.returns
returns c =
    let bytes = c.args.bytes.now in
    let v = take 16 bytes in
    first_of_lanes bytes _ _ _ (omega arith) (λ k. (c.type_inv.bytes k).fits) refl (zip2_splat _ v 16 0 (length-take-le 16 bytes (omega arith))) refl
    (omega (arith, c.if-nuls-eq0.false))
