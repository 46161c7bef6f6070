-- A value put for a capability, unless the capability has one.
use Rattle.std.proofs.Common.{◌≡◌, Bool, true, false, if◌then◌else◌, List, Option, Some, None, refl, sym, ◌∙◌, ap, subst}
use Rattle.std.specs.Option.{option_or}
use Rattle.ti_caps.specs.Tables.{Capability, same_capability}
use Rattle.ti_caps.proofs.Same.{same_capability-true}
use Rattle.ti_layout.specs.inside.Values.{SetsOnly}
use Rattle.ti_layout.specs.Values.{Content, Mention, contents}
use Rattle.ti_layout.proofs.SortedEntries.{other_from_test}

or_nothing : {X : Type 0} (o : Option X) → o ≡ option_or o None
or_nothing None = refl
or_nothing (Some x) = refl

-- the capability had none
pub added_in_gap : (old new : List Mention) (c : Capability) (x : Content) → contents old c ≡ None → SetsOnly old new c (Some x)
    → (d : Capability) → contents new d ≡ option_or (contents old d) (if same_capability c d then Some x else None)
added_in_gap old new c x none sets d = by_test (same_capability c d) refl
  where
    by_test : (b : Bool) → same_capability c d ≡ b → contents new d ≡ option_or (contents old d) (if b then Some x else None)
    by_test true e =
        subst (λ (y : Capability). contents new y ≡ option_or (contents old y) (Some x)) (same_capability-true c d e)
        (sets.this_one ∙ sym (ap (λ (o : Option Content). option_or o (Some x)) none))
    by_test false e = sets.others d (λ same. other_from_test c d e (sym same)) ∙ or_nothing (contents old d)

-- the capability had a value, which remains
pub added_behind : (es : List Mention) (c : Capability) (there x : Content) → Some there ≡ contents es c
    → (d : Capability) → contents es d ≡ option_or (contents es d) (if same_capability c d then Some x else None)
added_behind es c there x has d = by_test (same_capability c d) refl
  where
    by_test : (b : Bool) → same_capability c d ≡ b → contents es d ≡ option_or (contents es d) (if b then Some x else None)
    by_test true e =
        subst (λ (y : Capability). contents es y ≡ option_or (contents es y) (Some x)) (same_capability-true c d e)
        (subst (λ (o : Option Content). o ≡ option_or o (Some x)) has refl)
    by_test false e = or_nothing (contents es d)
