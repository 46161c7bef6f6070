use Rattle.std.proofs.Common.{◌≡◌, List, Option, None, map, ap, lit<, ◌∙◌}
use Rattle.std.specs.Iterator.{Yields}
use Rattle.std.specs.Str.{trim_start}
use Rattle.std.proofs.lemmas.Iterator.{YieldsList}
use Rattle.std.proofs.lemmas.Iterator.Consumers.{YieldsList-at, YieldsList-end}
use Rattle.std.proofs.lemmas.Iterator.Splits.{YieldsList-from_str_split}
use Rattle.lsp_values.specs.Shapes.{parameter_data}
use Rattle.server_answers.proofs.signing.parameter_values.Goals as goal

-- `YieldsList-end` with the loop's facts first, which settle what the chain proves
ended : {S A B : Type 0} {steps : S → Option A → S → Type 0} (v : A → B) {s : S} (all : List B) (xs : List A) (t : S) → Yields steps s xs t
    → (r : Option A) (u : S) → r ≡ None → steps t r u → YieldsList steps v s all → map v xs ≡ all
ended v all xs t y r u e n chain = (YieldsList-end chain xs t y r u e n).0

pub returns : goal.returns
returns c =
    c.loop-part.invariant
    ∙ ap (map (λ part. parameter_data (trim_start part)))
    (ended _ _ c.loop-part.yielded _ c.loop-part.yielded_by _ _ c.in-None.is c.next.ensures.steps
    (YieldsList-at c.into_iter-part-iterator.ensures.into_iter_gives
    (YieldsList-from_str_split 44 c.args.names.now (lit< tt) c.split-part-items.ensures.text c.split-part-items.ensures.has_more
    c.split-part-items.ensures.pattern)))
