-- The laws of components.
use Rattle.std.proofs.Common.{◌≡◌, ℕ, ◌≤◌, List, [], ◌∷◌, Some, slice_get, sym, ◌∙◌, ap, arith}
use Rattle.std.proofs.lemmas.Option.{same_Some}
use Rattle.base_components.specs.Graph.{Rows, IsGraph}
use Rattle.base_components.specs.Leading.{IsWay}
use Rattle.base_components.specs.Components.{AreComponents}
use Rattle.base_components.specs.Laws.{CyclesShareANumber, NumbersFall, ComponentsAreDetermined, WalksJoin}
use Rattle.ti_text.proofs.Lists.{item_at}
use Rattle.base_components.proofs.Leading.{leads_edge, leads_on}

pub shared_numbers : CyclesShareANumber
shared_numbers g cs u w c d h e f edge =
    let same = h.same u w c d e f in
    ((λ one. (same.0 one).1), λ back. same.1 (leads_edge g u w edge, back))

falling : (g : Rows) (cs : List ℕ) → IsGraph g → AreComponents g cs → (way : List ℕ) (u w c d : ℕ) → IsWay g u way w → slice_get cs u ≡ Some c
    → slice_get cs w ≡ Some d → d ≤ c
falling g cs whole h [] u w c d same e f =
    let one : c ≡ d = same_Some c d (sym e ∙ (ap (slice_get cs) same ∙ f)) in omega arith
falling g cs whole h (x ∷ way) u w c d walk e f =
    let next = item_at cs x (omega (arith, whole u x walk.0, h.as_many)) in
    let first = h.falls u x c next.0 e next.1 walk.0 in
    let rest = falling g cs whole h way x w next.0 d walk.1 next.1 f in
    omega arith

pub falling_numbers : NumbersFall
falling_numbers g cs u w c d whole h e f lead = falling g cs whole h lead.0 u w c d lead.1 e f

pub determined_components : ComponentsAreDetermined
determined_components g one other u w c d e f h k a b p q =
    ((λ same. (k.same u w e f p q).1 ((h.same u w c d a b).0 same)), λ same. (h.same u w c d a b).1 ((k.same u w e f p q).0 same))

pub joined_walks : WalksJoin
joined_walks = leads_on
