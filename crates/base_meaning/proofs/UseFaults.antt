-- What is wrong with a use, found from whether its owner is there, leads back and resolves; and
-- what a state says of an expansion.
use Rattle.std.proofs.Common.{◌≡◌, ℕ, Bool, true, false, cond, List, Option, Some, None, is_some, slice_get, refl, sym, ◌∙◌, ap}
use Rattle.std.proofs.lemmas.Option.{same_Some, none-some}
use Rattle.ti_source.specs.declared.code.Code.{Code}
use Rattle.ti_source.specs.declared.code.Code.TheVariants.{MissingUse, Circular, Unresolved}
use Rattle.ti_source.specs.Reading.{Reading}
use Rattle.base_meaning.specs.Owner.{owner, owner_block}
use Rattle.ti_layout.specs.Values.{Mention}
use Rattle.base_meaning.specs.Expansion.{expansion, resolves}
use Rattle.base_meaning.specs.Reaching.{leads_to}
use Rattle.base_meaning.specs.Compiled.{EntryState, unresolved, oversized, written, image_of, is_too_large, state_with}
use Rattle.base_meaning.specs.Faults.{fault_between, use_fault}
use Rattle.base_meaning.proofs.Owning.{nobody, somebody, owning, nobody_to_none}

pub use_fault_missing : (bs : List Reading) (at : ℕ) (name : List ℕ) → owner bs name ≡ None → ◌≡◌ {A = Option Code} (Some MissingUse) (use_fault bs at name)
use_fault_missing bs at name o = rw (nobody_to_none bs name o) refl

circular_between : (o : Option Reading) (l : Bool) (does_resolve : Reading → Bool) (b : Reading) → o ≡ Some b → l ≡ true
    → ◌≡◌ {A = Option Code} (Some Circular) (fault_between o l does_resolve)
circular_between o l does_resolve b e f = rw (e, f) refl

open_between : (o : Option Reading) (l : Bool) (does_resolve : Reading → Bool) (b : Reading) → o ≡ Some b → l ≡ false → does_resolve b ≡ false
    → ◌≡◌ {A = Option Code} (Some Unresolved) (fault_between o l does_resolve)
open_between o l does_resolve b e f g = rw (e, f, g) refl

none_between : (o : Option Reading) (l : Bool) (does_resolve : Reading → Bool) (b : Reading) → o ≡ Some b → l ≡ false → does_resolve b ≡ true
    → ◌≡◌ {A = Option Code} None (fault_between o l does_resolve)
none_between o l does_resolve b e f g = rw (e, f, g) refl

pub use_fault_circular : (bs : List Reading) (at : ℕ) (name : List ℕ) (b : Reading) → owner_block bs name ≡ Some b → leads_to bs name at ≡ true
    → ◌≡◌ {A = Option Code} (Some Circular) (use_fault bs at name)
use_fault_circular bs at name b o l = circular_between (owner_block bs name) (leads_to bs name at) (resolves bs) b o l

pub use_fault_open : (bs : List Reading) (at : ℕ) (name : List ℕ) (b : Reading) → owner_block bs name ≡ Some b → leads_to bs name at ≡ false
    → expansion bs b ≡ None → ◌≡◌ {A = Option Code} (Some Unresolved) (use_fault bs at name)
use_fault_open bs at name b o l x = open_between (owner_block bs name) (leads_to bs name at) (resolves bs) b o l (ap (λ e. is_some e) x)

pub use_fault_none : (bs : List Reading) (at : ℕ) (name : List ℕ) (b : Reading) (ms : List Mention) → owner_block bs name ≡ Some b
    → leads_to bs name at ≡ false → expansion bs b ≡ Some ms → ◌≡◌ {A = Option Code} None (use_fault bs at name)
use_fault_none bs at name b ms o l x = none_between (owner_block bs name) (leads_to bs name at) (resolves bs) b o l (ap (λ e. is_some e) x)

-- ---- what a state says of the expansion

if_resolved : (large : Bool) (i : List ℕ) → unresolved ≡ cond large oversized (written i) → ⊥
if_resolved true i e = cc
if_resolved false i e = cc

pub no_expansion : (b : Reading) (o : Option (List Mention)) → unresolved ≡ state_with b o → o ≡ None
no_expansion b None e = refl
no_expansion b (Some ms) e = absurd (if_resolved (is_too_large b ms) (image_of b ms) e)

pub some_expansion : (b : Reading) (o : Option (List Mention)) (s : EntryState) → (s ≡ unresolved → ⊥) → s ≡ state_with b o → (ms : List Mention)
    × (o ≡ Some ms)
some_expansion b None s n e = absurd (n e)
some_expansion b (Some ms) s n e = (ms, refl)

-- ---- the block that owns a name

pub owner_is : (bs : List Reading) (name : List ℕ) (q : ℕ) → owner bs name ≡ Some q → (b : Reading) × (owner_block bs name ≡ Some b) × (slice_get bs q ≡ Some b)
owner_is bs name q o =
    elim (owning bs name) [
      | nobody none _ ↦ absurd (none-some q (sym none ∙ o))
      | somebody p b own ↦ let same : p ≡ q = same_Some p q (sym own.owns ∙ o) in (b, own.is, (rw same at own.stands))
    ]
