-- The laws on what blocks reach, and on the faults of their uses.
use Rattle.std.proofs.Common.{◌≡◌, ℕ, suc, ◌⊎◌, inl, inr, Bool, true, false, cond, List, [], ◌∷◌, ◌++◌, length, Option, Some, None, is_some}
use Rattle.std.proofs.Common.{option_and_then, slice_get, refl, sym, ◌∙◌, ap}
use Rattle.std.proofs.lemmas.Bool.{cases_Bool, false≢true}
use Rattle.std.proofs.lemmas.Option.{same_Some, none-some, slice_get_within}
use Rattle.ti_source.specs.declared.code.Code.TheVariants.{Unresolved}
use Rattle.ti_source.specs.declared.parsing.Rule.{Rule}
use Rattle.ti_source.specs.declared.parsing.Rule.TheVariants.{Leftmost, OwnFirst}
use Rattle.ti_source.specs.Reading.{Reading, ReadItem, Said, said_flag, said_number, said_text, said_cancel, said_import}
use Rattle.base_meaning.specs.Owner.{owner, owner_block}
use Rattle.ti_text.specs.Lists.{both_lists}
use Rattle.ti_layout.specs.Values.{Mention}
use Rattle.base_meaning.specs.Expansion.{is_broken, mentions_of, expand_items, own_items, use_items, uncancelled, block_mentions, expand, expansion, resolves}
use Rattle.base_meaning.specs.Reaching.{used_name, Uses, IsUseWay, LeadsTo, leads_to}
use Rattle.base_meaning.specs.Faults.{fault_between, use_fault}
use Rattle.base_meaning.specs.ValueTables.{names_at}
use Rattle.base_meaning.specs.UseLaws.{OwnerReaches, LeadingIsReaching, UsesBlock, IsEdgeWalk, EdgesLead, LeadingIsWalking, AreFound, IsGraphOf}
use Rattle.base_meaning.specs.UseLaws.{MarksComponents, HasOptionalEdge, HaveOneNumber, CircularUsesShareAComponent, UnresolvedBlocksHaveACause}
use Rattle.base_meaning.proofs.Owning.{nobody, somebody, owning, owner_to_owned}
use Rattle.base_meaning.proofs.Depth.{bounded}
use Rattle.base_meaning.proofs.Leading.{leads_to-LeadsTo}
use Rattle.base_meaning.proofs.Ruling.{own-uses, use-uses}
use Rattle.base_meaning.proofs.Acyclic.{used_is_in, if_there, not_circular}

-- ---- leading is reaching

pub leading_reaches : LeadingIsReaching
leading_reaches = λ bs name at. (
  λ l. there bs name at l.0 l.1 l.2 l.3,
  λ r. elim r [
    | inl own ↦ ([], name, refl, own)
    | inr w ↦ (w.2.1.0 ∷ w.2.1.1, w.2.0, ((w.0, w.1, w.2.1.2), w.2.1.3), w.2.2)
  ],
) where
  there : (bs : List Reading) (name : List ℕ) (at : ℕ) (way : List (List ℕ)) (to : List ℕ) → IsUseWay (owner_block bs) name way to → owner bs to ≡ Some at
      → (owner bs name ≡ Some at) ⊎ OwnerReaches bs name at
  there bs name at [] to w o = inl (ap (owner bs) w ∙ o)
  there bs name at (x ∷ way) to w o = inr (w.0.0, w.0.1, (to, (x, way, w.0.2, w.1), o))

-- ---- leading is walking

pub has_owner : (bs : List Reading) (name : List ℕ) (b : Reading) → owner_block bs name ≡ Some b → (q : ℕ) × (owner bs name ≡ Some q)
    × (slice_get bs q ≡ Some b)
has_owner bs name b e =
    elim (owning bs name) [
      | nobody _ d ↦ absurd (none-some b (sym d ∙ e))
      | somebody q c own ↦ (q, own.owns, own.stands ∙ (sym own.is ∙ e))
    ]

walk_of : (bs : List Reading) (at : ℕ) (way : List (List ℕ)) (name to : List ℕ) → IsUseWay (owner_block bs) name way to → owner bs to ≡ Some at → (from : ℕ)
    × (owner bs name ≡ Some from) × EdgesLead (UsesBlock bs) from at
walk_of bs at [] name to w o = (at, ap (owner bs) w ∙ o, ([], refl))
walk_of bs at (x ∷ way) name to w o =
    let next = walk_of bs at way x to w.1 o in
    let own = has_owner bs name w.0.0 w.0.1 in
    (own.0, own.1, (next.0 ∷ next.2.0, ((w.0.0, own.2, (x, w.0.2, next.1)), next.2.1)))

lead_of : (bs : List Reading) (at : ℕ) (way : List ℕ) (from : ℕ) (name : List ℕ) → owner bs name ≡ Some from → IsEdgeWalk (UsesBlock bs) from way at
    → LeadsTo bs name at
lead_of bs at [] from name o w = ([], name, refl, o ∙ ap (λ k. Some k) w)
lead_of bs at (next ∷ way) from name o w =
    let used = w.0.2 in
    let rest = lead_of bs at way next used.0 used.2 w.1 in
    (used.0 ∷ rest.0, rest.1, ((w.0.0, owner_to_owned bs name from w.0.0 o w.0.1, used.1), rest.2), rest.3)

pub leading_walks : LeadingIsWalking
leading_walks = λ bs name at. (λ l. walk_of bs at l.0 name l.1 l.2 l.3, λ w. lead_of bs at w.2.0 w.0 name w.1 w.2.1)

-- ---- circular uses share a component

-- whoever walks to a block that was found was found, and walks to it along the edges
found_walk : (bs : List Reading) (found : List ℕ) (Edge : ℕ → ℕ → Type 0) → AreFound bs found → IsGraphOf bs found Edge → (way : List ℕ) (from i at : ℕ)
    → slice_get found i ≡ Some at → IsEdgeWalk (UsesBlock bs) from way at → (j : ℕ) × (slice_get found j ≡ Some from) × EdgesLead Edge j i
found_walk bs found Edge f g [] from i at s w = (i, s ∙ ap (λ k. Some k) (sym w), ([], refl))
found_walk bs found Edge f g (x ∷ way) from i at s w =
    let next = found_walk bs found Edge f g way x i at s w.1 in
    let here = f next.0 x from next.1 w.0 in
    (here.0, here.1, (next.0 ∷ next.2.0, ((g here.0 next.0).1 (from, x, here.1, next.1, w.0), next.2.1)))

-- a walk along the edges is one of the blocks
block_walk : (bs : List Reading) (found : List ℕ) (Edge : ℕ → ℕ → Type 0) → IsGraphOf bs found Edge → (way : List ℕ) (j i from at : ℕ)
    → slice_get found j ≡ Some from → slice_get found i ≡ Some at → IsEdgeWalk Edge j way i → EdgesLead (UsesBlock bs) from at
block_walk bs found Edge g [] j i from at s t w = ([], same_Some from at (sym s ∙ (ap (slice_get found) w ∙ t)))
block_walk bs found Edge g (k ∷ way) j i from at s t w =
    let edge = (g j k).0 w.0 in
    let rest = block_walk bs found Edge g way k i edge.1 at edge.3 t w.1 in
    let same : edge.0 ≡ from = same_Some edge.0 from (sym edge.2 ∙ s) in
    let uses : UsesBlock bs from edge.1 = (edge.4.0, ap (slice_get bs) (sym same) ∙ edge.4.1, edge.4.2) in
    (edge.1 ∷ rest.0, (uses, rest.1))

-- a walk, over any edges and any relation that says which places share a component
pub circular_component : (bs : List Reading) (found : List ℕ) (Edge Same : ℕ → ℕ → Type 0) → AreFound bs found → IsGraphOf bs found Edge
    → MarksComponents (length found) Edge Same → (i at : ℕ) (b : Reading) (name : List ℕ) → slice_get found i ≡ Some at → slice_get bs at ≡ Some b
    → Uses b.items name → LeadsTo bs name at → (j : ℕ) × (used : ℕ) × (owner bs name ≡ Some used) × (slice_get found j ≡ Some used) × Same i j
circular_component bs found Edge Same f g c i at b name s t u l =
    let w = walk_of bs at l.0 name l.1 l.2 l.3 in
    let j = found_walk bs found Edge f g w.2.0 w.0 i at s w.2.1 in
    let edge : Edge i j.0 = (g i j.0).1 (at, w.0, s, j.1, (b, t, (name, u, w.1))) in
    (j.0, w.0, w.1, j.1, (c i j.0 (slice_get_within found i at s) (slice_get_within found j.0 w.0 j.1)).1 ((j.0 ∷ [], (edge, refl)), j.2))

pub component_circular : (bs : List Reading) (found : List ℕ) (Edge Same : ℕ → ℕ → Type 0) → IsGraphOf bs found Edge → MarksComponents (length found) Edge Same
    → (i at j used : ℕ) (name : List ℕ) → slice_get found i ≡ Some at → owner bs name ≡ Some used → slice_get found j ≡ Some used → Same i j
    → LeadsTo bs name at
component_circular bs found Edge Same g c i at j used name s o t same =
    let back = ((c i j (slice_get_within found i at s) (slice_get_within found j used t)).0 same).1 in
    let walk = block_walk bs found Edge g back.0 j i used at t s back.1 in
    lead_of bs at walk.0 used name o walk.1

pub circular_components : CircularUsesShareAComponent
circular_components = λ bs found graph numbers f g c i at b name s t u. (
  λ l. circular_component bs found (HasOptionalEdge graph) (HaveOneNumber numbers) f g c i at b name s t u l,
  λ w. component_circular bs found (HasOptionalEdge graph) (HaveOneNumber numbers) g c i at w.0 w.1 name s w.2 w.3 w.4,
)

-- ---- why a block does not resolve

some_or_none : {X : Type 0} (o : Option X) → (o ≡ None) ⊎ ((x : X) × (o ≡ Some x))
some_or_none None = inl refl
some_or_none (Some x) = inr (x, refl)

-- a block of the list that some depth expands has its uses' owners expanded one less deep
use_expands : (bs : List Reading) (k : ℕ) (b : Reading) (ms : List Mention) (name : List ℕ) → expand (owner_block bs) (suc k) b ≡ Some ms
    → Uses b.items name → (ns : List Mention) × (names_at (owner_block bs) k name ≡ Some ns)
use_expands bs k b ms name e u =
    used_is_in b.rule (names_at (owner_block bs) k) b.items name ms u
    (if_there (is_broken b) (block_mentions b.rule (names_at (owner_block bs) k) b.items) ms e)

-- nobody owns the name: no depth expands the block
pub never_missing : (bs : List Reading) (b : Reading) (name : List ℕ) → Uses b.items name → owner_block bs name ≡ None → expansion bs b ≡ None
never_missing bs b name u o =
    elim (some_or_none (expansion bs b)) [
      | inl none ↦ none
      | inr some ↦
          let w = use_expands bs (length bs) b some.0 name some.1 u in
          absurd (none-some w.0 (sym (ap (λ x. option_and_then (expand (owner_block bs) (length bs)) x) o) ∙ w.1))
    ]

-- the use leads back: no depth expands the block
pub never_circular : (bs : List Reading) (at : ℕ) (b : Reading) (name : List ℕ) → slice_get bs at ≡ Some b → Uses b.items name → LeadsTo bs name at
    → expansion bs b ≡ None
never_circular bs at b name s u l =
    elim (some_or_none (expansion bs b)) [
      | inl none ↦ none
      | inr some ↦
          let w = use_expands bs (length bs) b some.0 name some.1 u in
          absurd (not_circular (owner_block bs) name l.1 l.0 b l.2 (owner_to_owned bs l.1 at b l.3 s) u (length bs) w)
    ]

-- the owner does not resolve: no depth expands the block
pub never_unresolved : (bs : List Reading) (b c : Reading) (name : List ℕ) → Uses b.items name → owner_block bs name ≡ Some c → expansion bs c ≡ None
    → expansion bs b ≡ None
never_unresolved bs b c name u o none_c =
    elim (some_or_none (expansion bs b)) [
      | inl none ↦ none
      | inr some ↦
          let w = use_expands bs (length bs) b some.0 name some.1 u in
          let own = has_owner bs name c o in
          let deep : expand (owner_block bs) (length bs) c ≡ Some w.0 = sym (ap (λ x. option_and_then (expand (owner_block bs) (length bs)) x) o) ∙ w.1 in
          absurd (none-some w.0 (sym none_c ∙ bounded bs (length bs) own.0 c w.0 own.2 deep))
    ]

pub never_broken : (bs : List Reading) (b : Reading) → is_broken b ≡ true → expansion bs b ≡ None
never_broken bs b e = rw e refl

none_resolves : (bs : List Reading) (b : Reading) → expansion bs b ≡ None → resolves bs b ≡ false
none_resolves bs b e = ap (λ x. is_some x) e

not_resolved : (bs : List Reading) (b : Reading) → resolves bs b ≡ false → expansion bs b ≡ None
not_resolved bs b e =
    elim (some_or_none (expansion bs b)) [
      | inl none ↦ none
      | inr some ↦ absurd (false≢true (sym e ∙ ap (λ x. is_some x) some.1))
    ]

fault_of_none : (does : Bool) → is_some (cond does None (Some Unresolved)) ≡ true → does ≡ false
fault_of_none true e = absurd (false≢true e)
fault_of_none false e = refl

-- a use at fault leaves the block without an expansion
at_fault : (bs : List Reading) (at : ℕ) (b : Reading) (name : List ℕ) → slice_get bs at ≡ Some b → Uses b.items name → is_some (use_fault bs at name) ≡ true
    → expansion bs b ≡ None
at_fault bs at b name s u e =
    elim (owning bs name) [
      | nobody _ d ↦ never_missing bs b name u d
      | somebody q c own ↦ elim (cases_Bool (leads_to bs name at)) [
        | inl back ↦ never_circular bs at b name s u (leads_to-LeadsTo bs name at back)
        | inr off ↦
            let f : is_some (fault_between (Some c) false (resolves bs)) ≡ true =
            sym (ap (λ x. is_some (fault_between x (leads_to bs name at) (resolves bs))) own.is
            ∙ ap (λ l. is_some (fault_between (Some c) l (resolves bs))) off) ∙ e in
            never_unresolved bs b c name u own.is (not_resolved bs c (fault_of_none (resolves bs c) f))
      ]
    ]

-- one of the uses has a fault, or none has
abbrev HasFault : List Reading → ℕ → List ReadItem → Type 0
HasFault bs at items = (name : List ℕ) × Uses items name × (is_some (use_fault bs at name) ≡ true)

abbrev HasNoFault : List Reading → ℕ → List ReadItem → Type 0
HasNoFault bs at items = (name : List ℕ) → Uses items name → is_some (use_fault bs at name) ≡ false

fault_in : (bs : List Reading) (at : ℕ) (items : List ReadItem) → HasFault bs at items ⊎ HasNoFault bs at items
fault_in bs at [] = inr (λ name u. absurd u)
fault_in bs at (i ∷ is) =
    elim (fault_in bs at is) [
      | inl later ↦ inl (later.0, inr later.1, later.2)
      | inr none ↦ elim (some_or_none (used_name i.said)) [
        | inl no_use ↦ inr (λ name u. elim u [ inl here ↦ absurd (none-some name (sym no_use ∙ here)) | inr rest ↦ none name rest ])
        | inr used ↦ elim (cases_Bool (is_some (use_fault bs at used.0))) [
          | inl bad ↦ inl (used.0, inl used.1, bad)
          | inr good ↦ inr (λ name u. elim u [
            | inl here ↦ ap (λ n. is_some (use_fault bs at n)) (same_Some name used.0 (sym here ∙ used.1)) ∙ good
            | inr rest ↦ none name rest
          ])
        ]
      ]
    ]

-- a use without a fault has an owner that resolves
sound_use : (bs : List Reading) (at : ℕ) (name : List ℕ) → is_some (use_fault bs at name) ≡ false → (ms : List Mention)
    × (names_at (owner_block bs) (suc (length bs)) name ≡ Some ms)
sound_use bs at name e =
    elim (owning bs name) [
      | nobody _ d ↦ absurd (false≢true (sym e ∙ ap (λ x. is_some (fault_between x (leads_to bs name at) (resolves bs))) d))
      | somebody q c own ↦ elim (some_or_none (expansion bs c)) [
        | inr some ↦ (some.0, ap (λ x. option_and_then (expand (owner_block bs) (suc (length bs))) x) own.is ∙ some.1)
        | inl none ↦
            let f : is_some (fault_between (Some c) (leads_to bs name at) (resolves bs)) ≡ false =
            sym (ap (λ x. is_some (fault_between x (leads_to bs name at) (resolves bs))) own.is) ∙ e in
            absurd (has_one (leads_to bs name at) (resolves bs) c (none_resolves bs c none) f)
      ]
    ]
  where
    has_one : (l : Bool) (does : Reading → Bool) (c : Reading) → does c ≡ false → is_some (fault_between (Some c) l does) ≡ false → ⊥
    has_one true does c n e = false≢true (sym e)
    has_one false does c n e = false≢true (sym e ∙ ap (λ v. is_some (cond v None (Some Unresolved))) n)

all_joined : (a b : Option (List Mention)) → (ms : List Mention) → a ≡ Some ms → (ns : List Mention) → b ≡ Some ns → (os : List Mention)
    × (both_lists a b ≡ Some os)
all_joined a b ms e ns f = (ms ++ ns, rw (e, f) refl)

said_there : (f : List ℕ → Option (List Mention)) (s : Said) → ((n : List ℕ) → used_name s ≡ Some n → (ms : List Mention) × (f n ≡ Some ms))
    → (ms : List Mention) × (mentions_of f s ≡ Some ms)
said_there f (said_flag c) h = (_, refl)
said_there f (said_number c n) h = (_, refl)
said_there f (said_text c t) h = (_, refl)
said_there f (said_cancel c) h = (_, refl)
said_there f (said_import n) h = h n refl

items_there : (f : List ℕ → Option (List Mention)) (items : List ReadItem) → ((n : List ℕ) → Uses items n → (ms : List Mention) × (f n ≡ Some ms))
    → (ms : List Mention) × (expand_items f items ≡ Some ms)
items_there f [] h = ([], refl)
items_there f (i ∷ is) h =
    let one = said_there f i.said (λ n u. h n (inl u)) in
    let rest = items_there f is (λ n u. h n (inr u)) in
    all_joined (mentions_of f i.said) (expand_items f is) one.0 one.1 rest.0 rest.1

pub block_there : (r : Rule) (f : List ℕ → Option (List Mention)) (items : List ReadItem)
    → ((n : List ℕ) → Uses items n → (ms : List Mention) × (f n ≡ Some ms)) → (ms : List Mention) × (block_mentions r f items ≡ Some ms)
block_there Leftmost f items h = items_there f items h
block_there OwnFirst f items h =
    let own = items_there f (own_items items) (λ n u. h n (own-uses items n u)) in
    let used = items_there f (use_items items) (λ n u. h n (use-uses items n u)) in
    (own.0 ++ uncancelled used.0, rw (own.1, used.1) refl)

-- a sound block none of whose uses has a fault resolves
sound_resolves : (bs : List Reading) (at : ℕ) (b : Reading) → slice_get bs at ≡ Some b → is_broken b ≡ false → HasNoFault bs at b.items → resolves bs b ≡ true
sound_resolves bs at b s sound none =
    let all = block_there b.rule (names_at (owner_block bs) (suc (length bs))) b.items (λ n u. sound_use bs at n (none n u)) in
    let deep : expand (owner_block bs) (suc (suc (length bs))) b ≡ Some all.0 = rw (sound, all.1) refl in
    ap (λ x. is_some x) (bounded bs (suc (suc (length bs))) at b all.0 s deep)

pub causes : UnresolvedBlocksHaveACause
causes = λ bs at b s. (
  λ e. elim (cases_Bool (is_broken b)) [
    | inl broken ↦ inl broken
    | inr sound ↦ elim (fault_in bs at b.items) [
      | inl fault ↦ inr fault
      | inr none ↦ absurd (false≢true (sym e ∙ sound_resolves bs at b s sound none))
    ]
  ],
  λ c. elim c [
    | inl broken ↦ none_resolves bs b (never_broken bs b broken)
    | inr fault ↦ none_resolves bs b (at_fault bs at b fault.0 s fault.1 fault.2)
  ],
)
