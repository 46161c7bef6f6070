-- The capability of a kind and a place.
use Rattle.std.proofs.Common.{◌≡◌, ℕ, sym, ap, ◌∙◌}
use Rattle.ti_caps.specs.Tables.{Capability, capability}
use Rattle.ti_caps.specs.declared.capability.Kind.{Kind}

pub same_cap : (k : Capability) (kind : Kind) (i : ℕ) → k.kind ≡ kind → i ≡ k.index → capability kind i ≡ k
same_cap k kind i e f = ap (λ x. capability x i) (sym e) ∙ ap (capability k.kind) f
