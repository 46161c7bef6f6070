use Rattle.std.proofs.Common.{◌≡◌, ◌∙◌, List, None, Option, Some, ap, is_some, ℕ}
use Rattle.std.specs.Option.{option_map}
use Rattle.user_values.specs.Tables.{said_at}
use Rattle.user_values.proofs.limit.is_found.Goals as goal

some_same : {X Y : Type 0} (f : X → Y) (found : Option X) (said : Option Y) → option_map f found ≡ said → is_some found ≡ is_some said
some_same f None said e = ap is_some e
some_same f (Some x) said e = ap is_some e

pub returns : goal.returns
returns c =
    c.is_some.ensures ∙ some_same _ c.get.result _ c.get.ensures
    ∙ ap (λ (name : List ℕ). is_some (said_at c.args.found.now.table name)) c.as_slice.ensures.value
