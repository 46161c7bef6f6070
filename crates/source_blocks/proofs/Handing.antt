-- A use that hands a capability on leads to its owner.
use Rattle.std.proofs.Common.{◌≡◌, ℕ, Bool, true, false, cond, List, Option, None, Some, ap}
use Rattle.std.specs.Prelude.{is_some}
use Rattle.ti_caps.specs.Tables.{Capability}
use Rattle.ti_source.specs.Reading.{Reading}
use Rattle.source_blocks.specs.Deciding.{said_by, say_of_use}
use Rattle.source_blocks.specs.declared.deciding.Say.TheVariants.{Silent, HandsOn}

use_by : (b : Bool) (at next : ℕ) → cond b (HandsOn at) Silent ≡ HandsOn next → at ≡ next
use_by true at next e = cc
use_by false at next e = absurd cc

pub use_on : (blocks : List Reading) (c : Capability) (found : Option ℕ) (next : ℕ) → say_of_use blocks c found ≡ HandsOn next → found ≡ Some next
use_on blocks c None next e = absurd cc
use_on blocks c (Some at) next e = ap (λ (n : ℕ). Some n) (use_by (is_some (said_by blocks c at)) at next e)
