-- The faults of items are in the order of their items.
use Rattle.std.proofs.Common.{◌≡◌, ℕ, ◌≤◌, true, false, cond, nat_lt, List, [], ◌∷◌, ◌++◌, map, refl, ◌∙◌, ap, arith}
use Rattle.std.proofs.lemmas.Bool.{ltb-true, ltb-false}
use Rattle.std.proofs.lemmas.List.{map-append}
use Rattle.ti_source.specs.Reading.{Reading, ReadItem, ReadFault}
use Rattle.base_meaning.specs.Reaching.{used_name}
use Rattle.base_meaning.specs.Faults.{SourceFault, local_fault, fault_of_item, faults_before, faults_from, item_faults}
use Rattle.base_meaning.specs.Laws.{fault_with_ordinal, numbered_faults, Climbs, ItemFaultsAreInOrder}

abbrev ordinals : List ReadFault → List ℕ
ordinals fs = map (λ (f : ReadFault). f.ordinal) fs

abbrev numbers : List (ℕ × SourceFault) → List ℕ
numbers fs = map (λ (f : ℕ × SourceFault). f.0) fs

abbrev plain : List (ℕ × SourceFault) → List SourceFault
plain fs = map (λ (f : ℕ × SourceFault). f.1) fs

-- ---- without their ordinals they are the faults

plain-numbered : (at : ℕ) (fs : List ReadFault) → plain (map (fault_with_ordinal at) fs) ≡ map (local_fault at) fs
plain-numbered at [] = refl
plain-numbered at (f ∷ fs) = ap (λ xs. local_fault at f ∷ xs) (plain-numbered at fs)

plain-paired : (k : ℕ) (fs : List SourceFault) → plain (map (λ f. (k, f)) fs) ≡ fs
plain-paired k [] = refl
plain-paired k (f ∷ fs) = ap (λ xs. f ∷ xs) (plain-paired k fs)

same_faults : (bs : List Reading) (at : ℕ) (fs : List ReadFault) (items : List ReadItem) → plain (numbered_faults bs at fs items) ≡ item_faults bs at fs items
same_faults bs at fs [] = plain-numbered at fs
same_faults bs at fs (i ∷ is) =
    let uses = fault_of_item bs at i.line (used_name i.said) in
    let rest = numbered_faults bs at (faults_from i.ordinal fs) is in
    map-append (λ (f : ℕ × SourceFault). f.1) (map (fault_with_ordinal at) (faults_before i.ordinal fs)) (map (λ f. (i.ordinal, f)) uses ++ rest)
    ∙ (ap (λ xs. xs ++ plain (map (λ f. (i.ordinal, f)) uses ++ rest)) (plain-numbered at (faults_before i.ordinal fs))
    ∙ ap (λ xs. map (local_fault at) (faults_before i.ordinal fs) ++ xs)
    (map-append (λ (f : ℕ × SourceFault). f.1) (map (λ f. (i.ordinal, f)) uses) rest
    ∙ (ap (λ xs. xs ++ plain rest) (plain-paired i.ordinal uses) ∙ ap (λ xs. uses ++ xs) (same_faults bs at (faults_from i.ordinal fs) is))))

-- ---- their ordinals rise

abbrev AtMost : ℕ → List ℕ → Type 0
AtMost m [] = Unit {0}
AtMost m (n ∷ ns) = (n ≤ m) × AtMost m ns

climbs-lower : (l m : ℕ) (ns : List ℕ) → l ≤ m → Climbs m ns → Climbs l ns
climbs-lower l m [] h c = tt
climbs-lower l m (n ∷ ns) h c = (let first = c.0 in omega arith, c.1)

climbs-append : (l m : ℕ) (xs ys : List ℕ) → Climbs l xs → AtMost m xs → l ≤ m → Climbs m ys → Climbs l (xs ++ ys)
climbs-append l m [] ys c a h d = climbs-lower l m ys h d
climbs-append l m (x ∷ xs) ys c a h d = (c.0, climbs-append x m xs ys c.1 a.1 a.0 d)

climbs-same : (k : ℕ) (fs : List SourceFault) (ys : List ℕ) → Climbs k ys → Climbs k (numbers (map (λ f. (k, f)) fs) ++ ys)
climbs-same k [] ys c = c
climbs-same k (f ∷ fs) ys c = (omega arith, climbs-same k fs ys c)

numbers-numbered : (at : ℕ) (fs : List ReadFault) → numbers (map (fault_with_ordinal at) fs) ≡ ordinals fs
numbers-numbered at [] = refl
numbers-numbered at (f ∷ fs) = ap (λ xs. f.ordinal ∷ xs) (numbers-numbered at fs)

climbs-before : (l k : ℕ) (fs : List ReadFault) → Climbs l (ordinals fs) → Climbs l (ordinals (faults_before k fs))
climbs-before l k [] c = tt
climbs-before l k (f ∷ fs) c =
    elim (nat_lt f.ordinal k) as (λ v. Climbs l (ordinals (cond v (f ∷ faults_before k fs) []))) [
      | true ↦ (c.0, climbs-before f.ordinal k fs c.1)
      | false ↦ tt
    ]

at_most-before : (k : ℕ) (fs : List ReadFault) → AtMost k (ordinals (faults_before k fs))
at_most-before k [] = tt
at_most-before k (f ∷ fs) =
    elim (nat_lt f.ordinal k) as (λ v. nat_lt f.ordinal k ≡ v → AtMost k (ordinals (cond v (f ∷ faults_before k fs) []))) [
      | true ↦ λ e. (let below = ltb-true f.ordinal k e in omega arith, at_most-before k fs)
      | false ↦ λ e. tt
    ] refl

climbs-from : (l k : ℕ) (fs : List ReadFault) → Climbs l (ordinals fs) → Climbs k (ordinals (faults_from k fs))
climbs-from l k [] c = tt
climbs-from l k (f ∷ fs) c =
    elim (nat_lt f.ordinal k) as (λ v. nat_lt f.ordinal k ≡ v → Climbs k (ordinals (cond v (faults_from k fs) (f ∷ fs)))) [
      | true ↦ λ e. climbs-from f.ordinal k fs c.1
      | false ↦ λ e. (ltb-false f.ordinal k e, c.1)
    ] refl

climbing : (bs : List Reading) (at l : ℕ) (fs : List ReadFault) (items : List ReadItem) → Climbs l (ordinals fs)
    → Climbs l (map (λ (i : ReadItem). i.ordinal) items) → Climbs l (numbers (numbered_faults bs at fs items))
climbing bs at l fs [] c d = rw (numbers-numbered at fs) c
climbing bs at l fs (i ∷ is) c d =
    let uses = fault_of_item bs at i.line (used_name i.said) in
    let rest = numbered_faults bs at (faults_from i.ordinal fs) is in
    let later = climbing bs at i.ordinal (faults_from i.ordinal fs) is (climbs-from l i.ordinal fs c) d.1 in
    rw (
      map-append (λ (f : ℕ × SourceFault). f.0) (map (fault_with_ordinal at) (faults_before i.ordinal fs)) (map (λ f. (i.ordinal, f)) uses ++ rest),
      numbers-numbered at (faults_before i.ordinal fs),
      map-append (λ (f : ℕ × SourceFault). f.0) (map (λ f. (i.ordinal, f)) uses) rest,
    )
    (climbs-append l i.ordinal (ordinals (faults_before i.ordinal fs)) (numbers (map (λ f. (i.ordinal, f)) uses) ++ numbers rest)
    (climbs-before l i.ordinal fs c) (at_most-before i.ordinal fs) d.0 (climbs-same i.ordinal uses (numbers rest) later))

pub ordered_faults : ItemFaultsAreInOrder
ordered_faults = record { same = same_faults; climbs = λ bs at fs items c d. climbing bs at 0 fs items c d }
