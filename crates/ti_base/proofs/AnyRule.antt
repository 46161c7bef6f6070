-- What a source says by any rule alike: the names, the items and the faults of its blocks, and which
-- block owns a name.
use Rattle.std.proofs.Common.{◌≡◌, ℕ, suc, cond, List, [], ◌∷◌, Option, Some, None, option_map, slice_get, refl, ◌∙◌, ap}
use Rattle.std.proofs.lemmas.Option.{slice_get-map}
use Rattle.ti_source.specs.declared.parsing.Rule.{Rule}
use Rattle.ti_source.specs.Reading.{Reading}
use Rattle.base_meaning.specs.Owner.{is_among, owner, readings}
use Rattle.base_meaning.specs.Readings.{by_rule, readings_by}
use Rattle.base_meaning.specs.Rules.{all_by_rule}
use Rattle.base_meaning.proofs.Ruling.{readings_are_by}

part_of : {X : Type 0} (part : Reading → X) → ((rule : Rule) (block : Reading) → part (by_rule rule block) ≡ part block)
    → (rule : Rule) (found : Option Reading) → option_map part (option_map (by_rule rule) found) ≡ option_map part found
part_of part same rule None = refl
part_of part same rule (Some block) = ap (λ x. Some x) (same rule block)

-- a part of a block that no rule changes
pub part_at : {X : Type 0} (part : Reading → X) → ((rule : Rule) (block : Reading) → part (by_rule rule block) ≡ part block)
    → (rule : Rule) (texts : List (List ℕ)) (at : ℕ)
    → option_map part (slice_get (readings_by rule texts) at) ≡ option_map part (slice_get (readings texts) at)
part_at part same rule texts at =
    ap (λ bs. option_map part (slice_get bs at)) (readings_are_by rule texts)
    ∙ (ap (option_map part) (slice_get-map (by_rule rule) (readings texts) at) ∙ part_of part same rule (slice_get (readings texts) at))

owner_of_all : (rule : Rule) (blocks : List Reading) (name : List ℕ) → owner (all_by_rule rule blocks) name ≡ owner blocks name
owner_of_all rule [] name = refl
owner_of_all rule (block ∷ blocks) name =
    ap (λ place. cond (is_among name block.names) (Some 0) (option_map (λ at. suc at) place)) (owner_of_all rule blocks name)

-- who owns a name
pub owner_by : (rule : Rule) (texts : List (List ℕ)) (name : List ℕ) → owner (readings_by rule texts) name ≡ owner (readings texts) name
owner_by rule texts name = ap (λ bs. owner bs name) (readings_are_by rule texts) ∙ owner_of_all rule (readings texts) name
