-- The faults of a block's items, added one item after another, and whether one is of a use.
use Rattle.std.proofs.Common.{◌≡◌, ℕ, ◌+◌, ◌<◌, ◌≤◌, inl, inr, Bool, true, false, List, ◌∷◌, ◌++◌, append_assoc, length, map, Option, Some, None, is_some}
use Rattle.std.proofs.Common.{slice_get, refl, sym, ◌∙◌, ap, subst, arith}
use Rattle.std.specs.Bool.{MatchBool}
use Rattle.std.proofs.lemmas.Bool.{cases_eq}
use Rattle.std.proofs.lemmas.Option.{same_Some, slice_get_within}
use Rattle.ti_source.specs.Reading.{Reading, ReadItem, ReadFault}
use Rattle.base_meaning.specs.Reaching.{used_name, Uses}
use Rattle.base_meaning.specs.Faults.{SourceFault, local_fault, use_fault, fault_of_item, faults_before, faults_from, item_faults}
use Rattle.base_meaning.specs.UseLaws.{HasUseAtFault}
use Rattle.base_meaning.proofs.MentionMerging.{uses_at}
use Rattle.base_plan.specs.inside.Settling.{AreUsesSound, is_at_fault}
use Rattle.base_plan.proofs.Places.{place_of_use}

-- ---- what is added

-- the faults before an item and that of the item were added
pub one_more_item : (bs : List Reading) (at : ℕ) (item : ReadItem) (items : List ReadItem) (faults rest : List ReadFault) (old early new all : List SourceFault)
    → old ++ item_faults bs at faults (item ∷ items) ≡ all
    → early ≡ old ++ map (local_fault at) (faults_before item.ordinal faults)
    → new ≡ early ++ fault_of_item bs at item.line (used_name item.said)
    → rest ≡ faults_from item.ordinal faults
    → new ++ item_faults bs at rest items ≡ all
one_more_item bs at item items faults rest old early new all h e f g = rw (f, e, g, append_assoc, append_assoc) h

-- ---- whether a use is at fault

pub wrong_item : (bs : List Reading) (at index : ℕ) (block : Reading) (item : ReadItem) (is_wrong : Bool) → slice_get block.items index ≡ Some item
    → is_wrong ≡ is_at_fault bs at (used_name item.said) → is_wrong ≡ true → HasUseAtFault bs at block
wrong_item bs at index block item is_wrong s e t = there bs at index block item (used_name item.said) s refl (sym e ∙ t) where
  there : (bs : List Reading) (at index : ℕ) (block : Reading) (item : ReadItem) (o : Option (List ℕ)) → slice_get block.items index ≡ Some item
      → used_name item.said ≡ o → is_at_fault bs at o ≡ true → HasUseAtFault bs at block
  there bs at index block item None s u e = cc
  there bs at index block item (Some name) s u e = (name, uses_at block.items index item name s u, e)

-- the items before one place have no use at fault
abbrev pub AreSoundBefore : List Reading → ℕ → List ReadItem → ℕ → Type 0
AreSoundBefore bs at items end = (k : ℕ) (item : ReadItem) → k < end → slice_get items k ≡ Some item → is_at_fault bs at (used_name item.said) ≡ false

pub sound_more : (bs : List Reading) (at : ℕ) (items : List ReadItem) (end : ℕ) (item : ReadItem) (is_wrong : Bool) → AreSoundBefore bs at items end
    → slice_get items end ≡ Some item → is_wrong ≡ is_at_fault bs at (used_name item.said) → is_wrong ≡ false → AreSoundBefore bs at items (end + 1)
sound_more bs at items end item is_wrong h s e f k other l t =
    elim (cases_eq k end) [
      | inl same ↦
          let one : item ≡ other = same_Some item other (sym s ∙ (ap (slice_get items) (sym same) ∙ t)) in
          let P : ReadItem → Type 0 = λ i. is_at_fault bs at (used_name i.said) ≡ false in
          subst P one (sym e ∙ f)
      | inr apart ↦ h k other (let below : k < end = omega arith in below) t
    ]

no_code : {X : Type 0} (o : Option X) → is_some o ≡ false → o ≡ None
no_code None e = refl
no_code (Some x) e = cc

pub uses_sound : (bs : List Reading) (at : ℕ) (block : Reading) (end : ℕ) → slice_get bs at ≡ Some block → length block.items ≤ end
    → AreSoundBefore bs at block.items end → AreUsesSound bs at
uses_sound bs at block end s past h other name t u =
    let same : other ≡ block = same_Some other block (sym t ∙ s) in
    let P : Reading → Type 0 = λ b. Uses b.items name in
    let w = place_of_use block.items name (subst P same u) in
    let within = slice_get_within block.items w.0 w.1 w.2 in
    let below : w.0 < end = omega arith in
    no_code (use_fault bs at name) (subst (λ o. is_at_fault bs at o ≡ false) w.3 (h w.0 w.1 below w.2))

pub found : (b : Bool) (P Q : Type 0) → (b ≡ true → P) → (b ≡ false → Q) → MatchBool b P Q
found true P Q p q = p refl
found false P Q p q = q refl
