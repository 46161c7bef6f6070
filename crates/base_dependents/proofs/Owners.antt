-- A name belongs to one block at most, and blocks of the list by their positions.
use Rattle.std.proofs.Common.{◌≡◌, ℕ, List, Some, slice_get, sym, ◌∙◌}
use Rattle.std.proofs.lemmas.Option.{same_Some}
use Rattle.ti_source.specs.Reading.{Reading}
use Rattle.ti_text.specs.Lists.{AreDistinct}
use Rattle.base_slots.specs.declared.slots.Slots.{Slots}
use Rattle.base_slots.specs.Slots.{ids_of, blocks_of, reading_at, StandsAt, IsOwnerId}
use Rattle.base_slots.proofs.Owners.{id_at as id_with_block}

-- two blocks to which a name belongs are one
pub owner_one : (slots : Slots) (name : List ℕ) (one other : ℕ) → IsOwnerId slots name one → IsOwnerId slots name other → one ≡ other
owner_one slots name one other a b =
    let same : b.0 ≡ a.0 = same_Some b.0 a.0 (sym b.1 ∙ a.1) in
    same_Some one other (sym a.2 ∙ (rw same at b.2))

-- each block of the list has an id
pub record HasId (slots : Slots) (at : ℕ) (block : Reading) : Type 0 where
  pub id : ℕ
  pub stands : StandsAt slots at id
  pub is : reading_at slots id ≡ block

pub id_at : (slots : Slots) (at : ℕ) (block : Reading) → AreDistinct (ids_of slots) → slice_get (blocks_of slots) at ≡ Some block → HasId slots at block
id_at slots at block once e = let w = id_with_block slots at block once e in record { id = w.0; stands = w.1; is = w.2 }
