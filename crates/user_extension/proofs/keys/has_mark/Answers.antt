use Rattle.std.proofs.Common.{ap, eqb}
use Rattle.std.proofs.lemmas.Nat.Bits.{shr_and_one}
use Rattle.user_extension.proofs.keys.has_mark.Goals as goal

pub returns : goal.returns
returns c = ap (λ b. eqb b 1) (shr_and_one _ _)
