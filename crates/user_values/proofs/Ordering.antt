-- Each block that resolves comes after those that it uses.
use Rattle.std.proofs.Common.{◌≡◌, ℕ, zero, suc, ◌<◌, ◌≤◌, inl, inr, List, [], ◌∷◌, map, length, Option, Some, None, slice_get, refl, sym, ap}
use Rattle.std.proofs.Common.{◌∙◌, arith, subst}
use Rattle.std.specs.Option.{option_map, IsSome}
use Rattle.std.proofs.lemmas.List.{length-map}
use Rattle.std.proofs.lemmas.Option.{same_Some, none-some, slice_get-map, slice_get_within}
use Rattle.ti_text.proofs.Lists.{item_at}
use Rattle.ti_source.specs.declared.parsing.Rule.{Rule}
use Rattle.base_components.specs.Graph.{HasEdge, IsGraph}
use Rattle.base_components.specs.Leading.{IsWay, Leads}
use Rattle.base_components.specs.Components.{AreComponents, IsClosingOrder}
use Rattle.base_meaning.specs.Owner.{owner, readings}
use Rattle.base_meaning.proofs.Owning.{nobody, somebody, owning}
use Rattle.user_items.specs.Verdicts.{UserSaid, says, imports}
use Rattle.user_items.specs.Reading.{ReadUserItem, UserBlock}
use Rattle.user_items.specs.Parsing.{user_reading_of_text}
use Rattle.user_values.specs.Expansion.{UserMention, expand_by, expansion_by}
use Rattle.user_values.specs.Tables.{TableSeen, HasUserTableBy}
use Rattle.user_values.specs.Uses.{used_block, edge_of, row_of, uses_of}
use Rattle.user_values.specs.inside.Settling.{OwnerIsDone, OwnersAreDone}
use Rattle.user_values.specs.inside.Walking.{AreLast, AreKept}
use Rattle.user_values.proofs.Resolving.{found, mapped, text_read}
use Rattle.user_values.proofs.Making.{some_from, used_owner}

-- ---- edges are uses

row_at : (texts : List (List ℕ)) (at : ℕ) → slice_get (uses_of texts) at ≡ option_map (λ b. row_of texts b.items)
    (option_map user_reading_of_text (slice_get texts at))
row_at texts at =
    slice_get-map (λ (b : UserBlock). row_of texts b.items) (map user_reading_of_text texts) at
    ∙ ap (option_map (λ (b : UserBlock). row_of texts b.items)) (slice_get-map user_reading_of_text texts at)

-- a block uses another
pub record IsUse (texts : List (List ℕ)) (from to : ℕ) : Type 0 where
  pub text : List ℕ
  pub k : ℕ
  pub item : ReadUserItem
  pub name : List ℕ
  pub stands : slice_get texts from ≡ Some text
  pub here : slice_get (user_reading_of_text text).items k ≡ Some item
  pub used : item.said ≡ imports name
  pub owned : owner (readings texts) name ≡ Some to

said_use : (texts : List (List ℕ)) (said : UserSaid) (to : ℕ) → used_block texts said ≡ Some to → (name : List ℕ) × (said ≡ imports name)
    × (owner (readings texts) name ≡ Some to)
said_use texts (says name content) to e = absurd (none-some to e)
said_use texts (imports name) to e = (name, refl, e)

edge_is_use : (texts : List (List ℕ)) (from to : ℕ) → HasEdge (uses_of texts) from to → IsUse texts from to
edge_is_use texts from to edge =
    let block = mapped (λ (b : UserBlock). row_of texts b.items) (option_map user_reading_of_text (slice_get texts from)) edge.row
    (sym (row_at texts from) ∙ edge.stands) in
    let text = mapped user_reading_of_text (slice_get texts from) block.0 block.1 in
    let items = (user_reading_of_text text.0).items in
    let row : row_of texts items ≡ edge.row = ap (λ (b : UserBlock). row_of texts b.items) text.2 ∙ block.2 in
    let item = mapped (edge_of texts) (slice_get items edge.place) (Some to) (sym (slice_get-map (edge_of texts) items edge.place)
    ∙ ap (λ r. slice_get r edge.place) row ∙ edge.leads) in
    let use_of = said_use texts item.0.said to item.2 in
    record { text = text.0; k = edge.place; item = item.0; name = use_of.0; stands = text.1; here = item.1; used = use_of.1; owned = use_of.2 }

use_is_edge : (texts : List (List ℕ)) (from to : ℕ) → IsUse texts from to → HasEdge (uses_of texts) from to
use_is_edge texts from to u =
    let items = (user_reading_of_text u.text).items in
    record {
      row = row_of texts items;
      place = u.k;
      stands = row_at texts from ∙ ap (λ o. option_map (λ (b : UserBlock). row_of texts b.items) (option_map user_reading_of_text o)) u.stands;
      leads = slice_get-map (edge_of texts) items u.k ∙ ap (option_map (edge_of texts)) u.here ∙ ap (λ s. Some (used_block texts s)) u.used
          ∙ ap (λ o. Some o) u.owned;
    }

owner_within : (texts : List (List ℕ)) (name : List ℕ) (at : ℕ) → owner (readings texts) name ≡ Some at → at < length texts
owner_within texts name at o = elim (owning (readings texts) name) [
  | nobody none _ ↦ absurd (none-some at (sym none ∙ o))
  | somebody p block h ↦
      let same : p ≡ at = same_Some p at (sym h.owns ∙ o) in
      let t = text_read texts p block h.stands in
      let l = slice_get_within texts p t.0 t.1 in
      omega arith
]

pub graph_length : (texts : List (List ℕ)) → length (uses_of texts) ≡ length texts
graph_length texts = length-map (map user_reading_of_text texts) (λ (b : UserBlock). row_of texts b.items) ∙ length-map texts user_reading_of_text

pub graph_whole : (texts : List (List ℕ)) → IsGraph (uses_of texts)
graph_whole texts = λ from to edge.
    let u = edge_is_use texts from to edge in
    let l = owner_within texts u.name to u.owned in
    let n = graph_length texts in
    omega arith

-- ---- no block that expands is on a cycle

pub record ExpandsAt (rule : Rule) (texts : List (List ℕ)) (depth at : ℕ) : Type 0 where
  pub text : List ℕ
  pub mentions : List UserMention
  pub stands : slice_get texts at ≡ Some text
  pub expands_to : expand_by rule texts depth text ≡ Some mentions

along_edge : (rule : Rule) (texts : List (List ℕ)) (depth from to : ℕ) → ExpandsAt rule texts depth from → HasEdge (uses_of texts) from to → (below : ℕ) × (depth ≡ suc below)
    × ExpandsAt rule texts below to
along_edge rule texts depth from to e edge =
    let u = edge_is_use texts from to edge in
    let text : u.text ≡ e.text = same_Some u.text e.text (sym u.stands ∙ e.stands) in
    let o = used_owner rule texts depth e.text e.mentions u.k u.item u.name e.expands_to (ap (λ t. slice_get (user_reading_of_text t).items u.k) (sym text)
    ∙ u.here) u.used in
    let at : o.at ≡ to = same_Some o.at to (sym o.owned ∙ u.owned) in
    (o.below, o.deeper, record { text = o.text; mentions = o.mentions; stands = ap (slice_get texts) (sym at) ∙ o.stands; expands_to = o.expands_to })

along_way : (rule : Rule) (texts : List (List ℕ)) (depth from : ℕ) (way : List ℕ) (to : ℕ) → ExpandsAt rule texts depth from → IsWay (uses_of texts) from way to → (below : ℕ)
    × (below ≤ depth) × ExpandsAt rule texts below to
along_way rule texts depth from [] to e w = (depth, omega arith, subst (ExpandsAt rule texts depth) w e)
along_way rule texts depth from (next ∷ way) to e w =
    let one = along_edge rule texts depth from next e w.0 in
    let rest = along_way rule texts one.0 next way to one.2 w.1 in
    let d = one.1 in
    let l = rest.1 in
    (rest.0, omega arith, rest.2)

no_cycle : (rule : Rule) (texts : List (List ℕ)) (bound depth u w : ℕ) → depth < bound → ExpandsAt rule texts depth u → HasEdge (uses_of texts) u w
    → Leads (uses_of texts) w u → ⊥
no_cycle rule texts zero depth u w l e edge back = omega arith
no_cycle rule texts (suc bound) depth u w l e edge back =
    let one = along_edge rule texts depth u w e edge in
    let again = along_way rule texts one.0 w back.0 u one.2 back.1 in
    let d = one.1 in
    let b = again.1 in
    no_cycle rule texts bound again.0 u w (omega arith) again.2 edge back

-- ---- tables made along the closing order

-- a block that resolves comes after each block that it uses
pub used_before : (rule : Rule) (texts : List (List ℕ)) (component_of order : List ℕ) (i at used : ℕ) (text : List ℕ)
    → AreComponents (uses_of texts) component_of → IsClosingOrder (uses_of texts) component_of order
    → slice_get order i ≡ Some at → slice_get texts at ≡ Some text → IsSome (expansion_by rule texts text) → HasEdge (uses_of texts) at used
    → (j : ℕ) × (j < i) × (slice_get order j ≡ Some used)
used_before rule texts component_of order i at used text comps c o t some edge =
    let whole = some_from (expansion_by rule texts text) some in
    let within = graph_whole texts at used edge in
    let below = c.nodes i at o in
    let w = c.listed used within in
    let first = item_at component_of at (omega (arith, comps.as_many, below)) in
    let second = item_at component_of used (omega (arith, comps.as_many, within)) in
    let before : w.0 < i = elim (c.before i w.0 at used first.0 second.0 o w.1 first.1 second.1 edge) [
      | inl same ↦
          let both = (comps.same at used first.0 second.0 first.1 second.1).0 same in
          absurd (no_cycle rule texts (suc (suc (length texts))) (suc (length texts)) at used (omega arith)
          (record { text = text; mentions = whole.0; stands = t; expands_to = whole.1 }) edge both.1)
      | inr l ↦ l
    ] in
    (w.0, before, w.1)

-- the owners of a block that resolves are made before it
pub owners_made : (rule : Rule) (texts : List (List ℕ)) (component_of order last : List ℕ) (tables : List (Option TableSeen)) (end node : ℕ) (text : List ℕ)
    → AreComponents (uses_of texts) component_of → IsClosingOrder (uses_of texts) component_of order → AreLast (uses_of texts) order last
    → AreKept rule texts order last tables end → slice_get order end ≡ Some node → slice_get texts node ≡ Some text → IsSome (expansion_by rule texts text)
    → OwnersAreDone rule texts tables (user_reading_of_text text).items
owners_made rule texts component_of order last tables end node text comps c past h o t some = λ k item name s i.
    let whole = some_from (expansion_by rule texts text) some in
    let u = used_owner rule texts (suc (length texts)) text whole.0 k item name whole.1 s i in
    let edge = use_is_edge texts node u.at (record { text = text; k = k; item = item; name = name; stands = t; here = s; used = i; owned = u.owned }) in
    let n = graph_length texts in
    let within = slice_get_within texts u.at u.text u.stands in
    let w = used_before rule texts component_of order end node u.at text comps c o t some edge in
    let made = item_at tables u.at (omega (arith, h.as_many)) in
    let l = item_at last u.at (omega (arith, past.as_many)) in
    let right = h.done w.0 u.at l.0 u.text made.0 w.1 w.2 l.1 (past.past end node u.at l.0 o edge l.1) u.stands made.1 in
    owner_done rule texts tables name u.at u.text made.0 u.owned u.stands made.1 (found rule texts u.at u.below u.text u.mentions u.stands u.expands_to) right
  where
    owner_done : (rule : Rule) (texts : List (List ℕ)) (tables : List (Option TableSeen)) (name : List ℕ) (at : ℕ) (text : List ℕ)
        (table : Option TableSeen) {ms : List UserMention} → owner (readings texts) name ≡ Some at
        → slice_get texts at ≡ Some text → slice_get tables at ≡ Some table → expansion_by rule texts text ≡ Some ms → HasUserTableBy rule texts text table
        → OwnerIsDone rule texts tables name
    owner_done rule texts tables name at text None {ms} o t s e none = absurd (none-some ms (sym none ∙ e))
    owner_done rule texts tables name at text (Some table) o t s e is = record { at = at; text = text; table = table; owned = o; stands = t; made = s; is = is }
