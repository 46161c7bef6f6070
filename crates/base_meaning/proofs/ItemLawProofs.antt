-- The laws on the faults of a block's items.
use Rattle.std.proofs.Common.{◌≡◌, ℕ, inl, inr, Bool, true, false, ◌&&◌, ◌||◌, nat_eq, nat_lt, cond, List, [], ◌∷◌, ◌++◌, map, filter, Option, Some, None}
use Rattle.std.proofs.Common.{is_some, refl, sym, ◌∙◌, ap}
use Rattle.std.specs.List.{list_any, flat_map}
use Rattle.std.proofs.lemmas.Bool.{cases_Bool, false≢true, or_parts}
use Rattle.std.proofs.lemmas.List.{map-append, append-nil}
use Rattle.std.proofs.lemmas.List.Elements.{filter-append}
use Rattle.ti_source.specs.Reading.{Reading, ReadItem, ReadFault}
use Rattle.base_meaning.specs.Reaching.{used_name}
use Rattle.base_meaning.specs.Faults.{SourceFault, local_fault, fault_of_item, faults_before, faults_from}
use Rattle.base_meaning.specs.Laws.{fault_with_ordinal, numbered_faults}
use Rattle.base_meaning.specs.ItemLaws.{has_fault, has_use, with_ordinal, own_faults, use_faults, ItemFaultsGoByOrdinal}

-- ---- picking by ordinal

pub any-append : {X : Type 0} (test : X → Bool) (xs ys : List X) → list_any test (xs ++ ys) ≡ (list_any test xs || list_any test ys)
any-append test [] ys = refl
any-append test (x ∷ xs) ys = rw (any-append test xs ys) (or_assoc (test x) (list_any test xs) (list_any test ys)) where
  or_assoc : (a b c : Bool) → (a || (b || c)) ≡ ((a || b) || c)
  or_assoc true b c = refl
  or_assoc false b c = refl

pick-append : (o : ℕ) (xs ys : List (ℕ × SourceFault)) → with_ordinal o (xs ++ ys) ≡ with_ordinal o xs ++ with_ordinal o ys
pick-append o xs ys =
    ap (λ zs. map (λ (f : ℕ × SourceFault). f.1) zs) (filter-append (λ (f : ℕ × SourceFault). nat_eq f.0 o) xs ys)
    ∙ map-append (λ (f : ℕ × SourceFault). f.1) (filter (λ (f : ℕ × SourceFault). nat_eq f.0 o) xs) (filter (λ (f : ℕ × SourceFault). nat_eq f.0 o) ys)

pick_local : (v : Bool) (at : ℕ) (f : ReadFault) (xs : List (ℕ × SourceFault)) (fs : List ReadFault)
    → map (λ (g : ℕ × SourceFault). g.1) xs ≡ map (local_fault at) fs
    → map (λ (g : ℕ × SourceFault). g.1) (cond v (fault_with_ordinal at f ∷ xs) xs) ≡ map (local_fault at) (cond v (f ∷ fs) fs)
pick_local true at f xs fs e = ap (λ zs. local_fault at f ∷ zs) e
pick_local false at f xs fs e = e

pick-locals : (o at : ℕ) (fs : List ReadFault) → with_ordinal o (map (fault_with_ordinal at) fs) ≡ own_faults at o fs
pick-locals o at [] = refl
pick-locals o at (f ∷ fs) =
    pick_local (nat_eq f.ordinal o) at f (filter (λ (g : ℕ × SourceFault). nat_eq g.0 o) (map (fault_with_ordinal at) fs))
    (filter (λ (g : ReadFault). nat_eq g.ordinal o) fs) (pick-locals o at fs)

pick_use : (v : Bool) (k : ℕ) (f : SourceFault) (xs : List (ℕ × SourceFault)) (us : List SourceFault) → map (λ (g : ℕ × SourceFault). g.1) xs ≡ cond v us []
    → map (λ (g : ℕ × SourceFault). g.1) (cond v ((k, f) ∷ xs) xs) ≡ cond v (f ∷ us) []
pick_use true k f xs us e = ap (λ zs. f ∷ zs) e
pick_use false k f xs us e = e

nothing_of : (v : Bool) → ◌≡◌ {A = List SourceFault} [] (cond v [] [])
nothing_of true = refl
nothing_of false = refl

pick-uses : (o k : ℕ) (us : List SourceFault) → with_ordinal o (map (λ f. (k, f)) us) ≡ cond (nat_eq k o) us []
pick-uses o k [] = nothing_of (nat_eq k o)
pick-uses o k (f ∷ us) = pick_use (nat_eq k o) k f (filter (λ (g : ℕ × SourceFault). nat_eq g.0 o) (map (λ g. (k, g)) us)) us (pick-uses o k us)

-- ---- faults before an item, and from it on

split_at : (k : ℕ) (fs : List ReadFault) → faults_before k fs ++ faults_from k fs ≡ fs
split_at k [] = refl
split_at k (f ∷ fs) = joined (nat_lt f.ordinal k) f fs (faults_before k fs) (faults_from k fs) (split_at k fs) where
  joined : (v : Bool) (f : ReadFault) (fs a b : List ReadFault) → a ++ b ≡ fs → cond v (f ∷ a) [] ++ cond v b (f ∷ fs) ≡ f ∷ fs
  joined true f fs a b e = ap (λ xs. f ∷ xs) e
  joined false f fs a b e = refl

fault_parts : (o k : ℕ) (fs : List ReadFault) → has_fault o fs ≡ false → (has_fault o (faults_before k fs) ≡ false) × (has_fault o (faults_from k fs) ≡ false)
fault_parts o k fs e =
    or_parts (has_fault o (faults_before k fs)) (has_fault o (faults_from k fs))
    (sym (any-append (λ (f : ReadFault). nat_eq f.ordinal o) (faults_before k fs) (faults_from k fs)) ∙ (ap (has_fault o) (split_at k fs) ∙ e))

own_parts : (at o k : ℕ) (fs : List ReadFault) → own_faults at o (faults_before k fs) ++ own_faults at o (faults_from k fs) ≡ own_faults at o fs
own_parts at o k fs =
    let test = λ (f : ReadFault). nat_eq f.ordinal o in
    sym (map-append (local_fault at) (filter test (faults_before k fs)) (filter test (faults_from k fs)))
    ∙ (ap (λ xs. map (local_fault at) xs) (sym (filter-append test (faults_before k fs) (faults_from k fs)))
    ∙ ap (own_faults at o) (split_at k fs))

no_own : (at o : ℕ) (fs : List ReadFault) → has_fault o fs ≡ false → own_faults at o fs ≡ []
no_own at o [] e = refl
no_own at o (f ∷ fs) e =
    let parts = or_parts (nat_eq f.ordinal o) (has_fault o fs) e in
    ap (λ v. map (local_fault at) (cond v (f ∷ filter (λ (g : ReadFault). nat_eq g.ordinal o) fs) (filter (λ (g : ReadFault). nat_eq g.ordinal o) fs)))
    parts.0 ∙ no_own at o fs parts.1

-- ---- the faults of uses

use_step : (bs : List Reading) (at o : ℕ) (i : ReadItem) (is : List ReadItem) (v : Bool)
    → cond v (fault_of_item bs at i.line (used_name i.said)) [] ++ use_faults bs at o is ≡ flat_map
    (λ (j : ReadItem). fault_of_item bs at j.line (used_name j.said))
    (cond v (i ∷ filter (λ (j : ReadItem). nat_eq j.ordinal o) is) (filter (λ (j : ReadItem). nat_eq j.ordinal o) is))
use_step bs at o i is true = refl
use_step bs at o i is false = refl

no_use : (bs : List Reading) (at line : ℕ) (v : Bool) (name : Option (List ℕ)) → (v && is_some name) ≡ false → cond v (fault_of_item bs at line name) [] ≡ []
no_use bs at line true None e = refl
no_use bs at line true (Some name) e = absurd (false≢true (sym e))
no_use bs at line false name e = refl

no_uses : (bs : List Reading) (at o : ℕ) (items : List ReadItem) → has_use o items ≡ false → use_faults bs at o items ≡ []
no_uses bs at o [] e = refl
no_uses bs at o (i ∷ is) e =
    let parts = or_parts (nat_eq i.ordinal o && is_some (used_name i.said)) (has_use o is) e in
    sym (use_step bs at o i is (nat_eq i.ordinal o))
    ∙ (ap (λ xs. xs ++ use_faults bs at o is) (no_use bs at i.line (nat_eq i.ordinal o) (used_name i.said) parts.0) ∙ no_uses bs at o is parts.1)

-- ---- either reading gave no fault with the ordinal, or no use has it

pick_step : (bs : List Reading) (at o : ℕ) (fs : List ReadFault) (i : ReadItem) (is : List ReadItem)
    → with_ordinal o (numbered_faults bs at fs (i ∷ is)) ≡ own_faults at o (faults_before i.ordinal fs)
    ++ (cond (nat_eq i.ordinal o) (fault_of_item bs at i.line (used_name i.said)) [] ++ with_ordinal o
    (numbered_faults bs at (faults_from i.ordinal fs) is))
pick_step bs at o fs i is =
    let uses = fault_of_item bs at i.line (used_name i.said) in
    let rest = numbered_faults bs at (faults_from i.ordinal fs) is in
    pick-append o (map (fault_with_ordinal at) (faults_before i.ordinal fs)) (map (λ f. (i.ordinal, f)) uses ++ rest)
    ∙ (ap (λ xs. xs ++ with_ordinal o (map (λ f. (i.ordinal, f)) uses ++ rest)) (pick-locals o at (faults_before i.ordinal fs))
    ∙ ap (λ xs. own_faults at o (faults_before i.ordinal fs) ++ xs)
    (pick-append o (map (λ f. (i.ordinal, f)) uses) rest ∙ ap (λ xs. xs ++ with_ordinal o rest) (pick-uses o i.ordinal uses)))

only_uses : (bs : List Reading) (at o : ℕ) (fs : List ReadFault) (items : List ReadItem) → has_fault o fs ≡ false
    → with_ordinal o (numbered_faults bs at fs items) ≡ use_faults bs at o items
only_uses bs at o fs [] e = pick-locals o at fs ∙ no_own at o fs e
only_uses bs at o fs (i ∷ is) e =
    let parts = fault_parts o i.ordinal fs e in
    pick_step bs at o fs i is
    ∙ (rw (no_own at o (faults_before i.ordinal fs) parts.0, only_uses bs at o (faults_from i.ordinal fs) is parts.1)
    (use_step bs at o i is (nat_eq i.ordinal o)))

only_own : (bs : List Reading) (at o : ℕ) (fs : List ReadFault) (items : List ReadItem) → has_use o items ≡ false
    → with_ordinal o (numbered_faults bs at fs items) ≡ own_faults at o fs
only_own bs at o fs [] e = pick-locals o at fs
only_own bs at o fs (i ∷ is) e =
    let parts = or_parts (nat_eq i.ordinal o && is_some (used_name i.said)) (has_use o is) e in
    pick_step bs at o fs i is
    ∙ (rw (no_use bs at i.line (nat_eq i.ordinal o) (used_name i.said) parts.0, only_own bs at o (faults_from i.ordinal fs) is parts.1)
    (own_parts at o i.ordinal fs))

pub by_ordinal : ItemFaultsGoByOrdinal
by_ordinal = λ bs at fs items apart o.
    elim (cases_Bool (has_fault o fs)) [
      | inr none ↦ only_uses bs at o fs items none ∙ ap (λ xs. xs ++ use_faults bs at o items) (sym (no_own at o fs none))
      | inl some ↦
          let none = apart o some in
          only_own bs at o fs items none ∙ (sym (append-nil (own_faults at o fs)) ∙ ap (λ xs. own_faults at o fs ++ xs) (sym (no_uses bs at o items none)))
    ]
