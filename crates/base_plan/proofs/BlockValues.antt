-- What the items of a block make of its table, one by one, and what its table makes of the block.
use Rattle.std.proofs.Common.{◌≡◌, ℕ, suc, ◌<◌, ◌≤◌, true, false, List, length, nat_lt, Option, Some, slice_get, refl, sym, ◌∙◌, ap, subst}
use Rattle.std.specs.Option.{option_or}
use Rattle.std.proofs.lemmas.Bool.{lt-ltb, le-ltb}
use Rattle.std.proofs.lemmas.Option.{none-some}
use Rattle.ti_caps.specs.Tables.{Capability, IsCapability}
use Rattle.ti_source.specs.declared.code.Code.{Code}
use Rattle.ti_source.specs.Reading.{Reading, said_import}
use Rattle.ti_layout.specs.declared.values.Table.{Table}
use Rattle.ti_layout.specs.Values.{Contents, contents, Mention}
use Rattle.base_meaning.specs.Expansion.{values}
use Rattle.base_meaning.specs.Reaching.{used_name}
use Rattle.base_meaning.specs.Faults.{use_fault}
use Rattle.base_meaning.specs.Compiled.{EntryState, oversized, written, image_of, state_with, state_of}
use Rattle.base_meaning.specs.ValueTables.{IsTableOfMentions, HasTable, AddsSaid, IsTableOf}
use Rattle.ti_layout.specs.Image.{image_limit}
use Rattle.base_meaning.proofs.Depth.{bounded}
use Rattle.base_meaning.proofs.MentionMerging.{uses_at}
use Rattle.base_plan.specs.inside.Settling.{IsUseAt, IsItemAt, AreUsesSound, IsUsedTable}

-- an item that says a use is one
pub use_of_item : (blocks : List Reading) (at index : ℕ) (name : List ℕ) → IsItemAt blocks at index (said_import name) → IsUseAt blocks at index name
use_of_item blocks at index name h = record { block = h.block; stands = h.stands; item = h.item; places = h.places; uses = ap used_name h.is }

-- a use of a block without faults has none
pub no_fault : (blocks : List Reading) (at index : ℕ) (name : List ℕ) (code : Code) → IsItemAt blocks at index (said_import name) → AreUsesSound blocks at
    → ◌≡◌ {A = Option Code} (Some code) (use_fault blocks at name) → ⊥
no_fault blocks at index name code h sound e =
    let none = sound h.block name h.stands (uses_at h.block.items index h.item name h.places (ap used_name h.is)) in
    none-some code (sym none ∙ sym e)

-- the table of the used name's owner was added
pub added_use : (blocks : List Reading) (name : List ℕ) (used old new : Contents) → IsUsedTable blocks name used
    → ((c : Capability) → IsCapability c → new c ≡ option_or (old c) (used c)) → AddsSaid blocks (said_import name) old new
added_use blocks name used old new u added = record {
  depth = suc (length blocks);
  mentions = u.2.0;
  expands = rw u.1 u.2.1;
  adds = λ c valid. rw (← u.2.2 c valid) (added c valid);
}

-- a table with equal contents
pub same_table : (blocks : List Reading) (block : Reading) (f g : Contents) → ((c : Capability) → IsCapability c → g c ≡ f c) → IsTableOf blocks block f
    → IsTableOf blocks block g
same_table blocks block f g same t =
    record { depth = t.depth; mentions = t.mentions; expands = t.expands; is_table = λ c valid. same c valid ∙ t.is_table c valid }

-- ---- the state that a table makes

pub within : (b : Reading) (ms : List Mention) (bytes : List ℕ) → bytes ≡ image_of b ms → length bytes ≤ image_limit (values ms)
    → written bytes ≡ state_with b (Some ms)
within b ms bytes e l =
    let small : nat_lt (image_limit (values ms)) (length (image_of b ms)) ≡ false = le-ltb (image_limit (values ms)) (length (image_of b ms)) (rw (← e) l) in
    rw (small, e) refl

pub over : (b : Reading) (ms : List Mention) → image_limit (values ms) < length (image_of b ms) → oversized ≡ state_with b (Some ms)
over b ms l =
    let large : nat_lt (image_limit (values ms)) (length (image_of b ms)) ≡ true = lt-ltb (image_limit (values ms)) (length (image_of b ms)) l in
    rw large refl

-- the table that some depth gives is the block's
pub has_table : (blocks : List Reading) (at : ℕ) (b : Reading) (t : Table) → slice_get blocks at ≡ Some b → IsTableOf blocks b (contents t)
    → HasTable contents blocks b (Some t)
has_table blocks at b t s h = (h.mentions, bounded blocks h.depth at b h.mentions s h.expands, h.is_table)

pub state_is : (blocks : List Reading) (b : Reading) (t : Table) (seen : EntryState) → HasTable contents blocks b (Some t)
    → ((ms : List Mention) → IsTableOfMentions (contents t) ms → seen ≡ state_with b (Some ms)) → seen ≡ state_of blocks b
state_is blocks b t seen h f = f h.0 h.2 ∙ ap (state_with b) (sym h.1)

pub table_seen : (blocks : List Reading) (b : Reading) (t : Table) (o : Option Table) → o ≡ Some t → HasTable contents blocks b (Some t)
    → HasTable contents blocks b o
table_seen blocks b t o e h = let P : Option Table → Type 0 = λ x. HasTable contents blocks b x in subst P (sym e) h
