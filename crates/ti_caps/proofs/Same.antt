-- When two kinds, and two capabilities, are equal.
use Rattle.std.proofs.Common.{◌≡◌, true, nat_eq, refl, ◌∙◌, ap, eqb-true}
use Rattle.std.proofs.lemmas.Bool.{and_parts, and_from, eq-eqb}
use Rattle.ti_caps.specs.Tables.{Capability, capability, same_kind, same_capability}
use Rattle.ti_caps.specs.declared.capability.Kind.{Kind}
use Rattle.ti_caps.specs.declared.capability.Kind.TheVariants.{Flag, Number, Text}

pub same_kind-true : (k l : Kind) → same_kind k l ≡ true → k ≡ l
same_kind-true Flag Flag e = refl
same_kind-true Number Number e = refl
same_kind-true Text Text e = refl
same_kind-true Flag Number e = cc
same_kind-true Flag Text e = cc
same_kind-true Number Flag e = cc
same_kind-true Number Text e = cc
same_kind-true Text Flag e = cc
same_kind-true Text Number e = cc

pub same_kind-itself : (k : Kind) → same_kind k k ≡ true
same_kind-itself Flag = refl
same_kind-itself Number = refl
same_kind-itself Text = refl

pub same_capability-true : (c d : Capability) → same_capability c d ≡ true → c ≡ d
same_capability-true c d e =
    let parts = and_parts (same_kind c.kind d.kind) (nat_eq c.index d.index) e in
    let kinds = same_kind-true c.kind d.kind parts.0 in
    let places = eqb-true c.index d.index parts.1 in
    ap (λ k. capability k c.index) kinds ∙ ap (λ i. capability d.kind i) places

pub same_capability-itself : (c : Capability) → same_capability c c ≡ true
same_capability-itself c =
    and_from (same_kind c.kind c.kind) (nat_eq c.index c.index) (same_kind-itself c.kind) (eq-eqb c.index c.index refl)
