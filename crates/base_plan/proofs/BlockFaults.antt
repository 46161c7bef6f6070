-- The faults of a block, part by part, and what its faults make of it.
use Rattle.std.proofs.Common.{◌≡◌, ℕ, inr, true, false, List, [], ◌++◌, append_assoc, filter, length, Option, Some, None, is_some, slice_get, refl, sym, ap}
use Rattle.ti_source.specs.Reading.{Reading}
use Rattle.ti_layout.specs.Values.{Mention}
use Rattle.base_meaning.specs.Expansion.{expansion, resolves}
use Rattle.base_meaning.specs.Compiled.{EntryState, unresolved, state_of, state_with}
use Rattle.base_meaning.specs.Dependents.{work_of}
use Rattle.base_meaning.specs.Faults.{SourceFault, is_kept, local_faults, item_faults, entry_faults}
use Rattle.base_meaning.specs.KeptBlocks.{lasting_faults}
use Rattle.base_meaning.specs.UseLaws.{HasUseAtFault}
use Rattle.base_meaning.proofs.UseLawProofs.{causes}

-- the faults of the header, of the items and of the entry were added
pub lasting_added : (bs : List Reading) (at : ℕ) (b : Reading) (seen : EntryState) (one two three : List SourceFault)
    → one ≡ [] ++ local_faults true at b.faults
    → two ≡ one ++ item_faults bs at (filter (is_kept false) b.faults) b.items
    → three ≡ two ++ entry_faults at b.names seen
    → seen ≡ state_of bs b
    → three ≡ lasting_faults bs at b
lasting_added bs at b seen one two three e f g s = rw (g, f, e, s, append_assoc) refl

-- ---- what a fault makes of the block

no_value : {X : Type 0} (o : Option X) → is_some o ≡ false → o ≡ None
no_value None e = refl
no_value (Some x) e = cc

pub no_expansion : (bs : List Reading) (at : ℕ) (b : Reading) → slice_get bs at ≡ Some b → HasUseAtFault bs at b → expansion bs b ≡ None
no_expansion bs at b s h = no_value (expansion bs b) ((causes bs at b s).1 (inr h))

pub unresolved_state : (bs : List Reading) (b : Reading) → expansion bs b ≡ None → unresolved ≡ state_of bs b
unresolved_state bs b e = ap (state_with b) (sym e)

pub no_work : (bs : List Reading) (b : Reading) → expansion bs b ≡ None → work_of bs (Some b) ≡ 0
no_work bs b e = let none : resolves bs b ≡ false = ap (λ o. is_some o) e in rw none refl

pub all_work : (bs : List Reading) (b : Reading) (ms : List Mention) → expansion bs b ≡ Some ms → work_of bs (Some b) ≡ length b.items
all_work bs b ms e = let some : resolves bs b ≡ true = ap (λ o. is_some o) e in rw some refl
