-- The block that owns a name is the one at the position of the name's owner.
use Rattle.std.proofs.Common.{◌≡◌, ℕ, suc, true, false, List, [], ◌∷◌, Some, None, slice_get, refl, sym, ◌∙◌}
use Rattle.std.proofs.lemmas.Option.{same_Some, none-some}
use Rattle.ti_source.specs.Reading.{Reading}
use Rattle.base_meaning.specs.Owner.{is_among, owner, owner_block}

-- the name belongs to this block, which is there
pub record IsOwnedAt (blocks : List Reading) (name : List ℕ) (at : ℕ) (block : Reading) : Type 0 where
  pub owns : owner blocks name ≡ Some at
  pub is : owner_block blocks name ≡ Some block
  pub stands : slice_get blocks at ≡ Some block

-- what owns a name, if something does
pub data Owning (blocks : List Reading) (name : List ℕ) : Type 0 where
  nobody : owner blocks name ≡ None → owner_block blocks name ≡ None → Owning blocks name
  somebody : (at : ℕ) (block : Reading) → IsOwnedAt blocks name at block → Owning blocks name

owning_more : (b : Reading) (bs : List Reading) (name : List ℕ) → is_among name b.names ≡ false → Owning bs name → Owning (b ∷ bs) name
owning_more b bs name e (nobody o d) = nobody (rw (e, o) refl) (rw (e, d) refl)
owning_more b bs name e (somebody at block h) =
    somebody (suc at) block (record { owns = rw (e, h.owns) refl; is = rw (e, h.is) refl; stands = h.stands })

pub owning : (bs : List Reading) (name : List ℕ) → Owning bs name
owning [] name = nobody refl refl
owning (b ∷ bs) name =
    elim (is_among name b.names) as (λ v. is_among name b.names ≡ v → Owning (b ∷ bs) name) [
      | true ↦ λ e. somebody 0 b (record { owns = rw e refl; is = rw e refl; stands = refl })
      | false ↦ λ e. owning_more b bs name e (owning bs name)
    ] refl

pub owner_to_owned : (bs : List Reading) (name : List ℕ) (at : ℕ) (b : Reading) → owner bs name ≡ Some at → slice_get bs at ≡ Some b
    → owner_block bs name ≡ Some b
owner_to_owned bs name at b o s =
    elim (owning bs name) [
      | nobody none _ ↦ absurd (none-some at (sym none ∙ o))
      | somebody p block h ↦
          let e : p ≡ at = same_Some p at (sym h.owns ∙ o) in
          let f : slice_get bs at ≡ Some block = rw (← e) h.stands in
          h.is ∙ (sym f ∙ s)
    ]

pub nobody_to_none : (bs : List Reading) (name : List ℕ) → owner bs name ≡ None → owner_block bs name ≡ None
nobody_to_none bs name o =
    elim (owning bs name) [
      | nobody _ d ↦ d
      | somebody p block h ↦ absurd (none-some p (sym o ∙ h.owns))
    ]
