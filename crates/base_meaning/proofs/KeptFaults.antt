-- The faults of a block that reaches no touched name remain, except for duplicate names; and the
-- laws on what an edit leaves.
use Rattle.std.proofs.Common.{◌≡◌, ℕ, inl, inr, Bool, true, false, cond, List, [], ◌∷◌, ◌++◌, filter, map, Option, Some, None, is_some, option_and_then}
use Rattle.std.proofs.Common.{refl, sym, ◌∙◌, ap}
use Rattle.std.proofs.lemmas.Bool.{false_from_ne_true}
use Rattle.std.proofs.lemmas.List.{map-append}
use Rattle.ti_source.specs.declared.code.Code.{Code}
use Rattle.ti_source.specs.declared.code.Code.TheVariants as code
use Rattle.ti_source.specs.Reading.{Reading, ReadItem, ReadFault}
use Rattle.base_meaning.specs.Owner.{is_among, owner_block}
use Rattle.base_meaning.specs.Expansion.{expansion, resolves}
use Rattle.base_meaning.specs.Reaching.{used_name, Uses, leads_to}
use Rattle.base_meaning.specs.Compiled.{EntryState, unresolved, oversized, written, state_of, entry_of, state_with}
use Rattle.base_meaning.specs.Faults.{SourceFault, fault_between, use_fault, local_fault, local_faults, is_kept, fault_of_use, fault_of_item, faults_before}
use Rattle.base_meaning.specs.Faults.{faults_from, item_faults, entry_faults}
use Rattle.base_meaning.specs.Exchange.{PlacedBlock, with_block, old_list, new_list, shifted_position}
use Rattle.base_meaning.specs.Dependents.{touched_names, ReachesOne}
use Rattle.base_meaning.specs.KeptBlocks.{moved_to, lasting_faults, UntouchedBlocksAreKept, TouchedInBothLists}
use Rattle.base_meaning.proofs.Leading.{leads_to-LeadsTo, LeadsTo-leads_to}
use Rattle.base_meaning.proofs.Placing.{owner-with, get-with}
use Rattle.base_meaning.proofs.KeptWays.{IsFree}
use Rattle.base_meaning.proofs.Exchanging.{IsOff, off_old, off_new, expansion-same, expand_in_both, free_in_both, owned_in_both, reaches_in_both}
use Rattle.base_meaning.proofs.Exchanging.{circular_in_both, owner_says_same}

-- ---- faults of the block at another position

locals-moved : (p q : ℕ) (fs : List ReadFault) → map (local_fault p) fs ≡ map (moved_to p) (map (local_fault q) fs)
locals-moved p q [] = refl
locals-moved p q (f ∷ fs) = ap (λ xs. local_fault p f ∷ xs) (locals-moved p q fs)

entry-moved : (p q : ℕ) (names : List (List ℕ)) (s : EntryState) → entry_faults p names s ≡ map (moved_to p) (entry_faults q names s)
entry-moved p q names unresolved = refl
entry-moved p q names oversized = refl
entry-moved p q names (written bytes) = refl

use-moved : (p q line : ℕ) (name : List ℕ) (code : Option Code) → fault_of_use p line name code ≡ map (moved_to p) (fault_of_use q line name code)
use-moved p q line name None = refl
use-moved p q line name (Some code) = refl

item-moved : (bs cs : List Reading) (p q line : ℕ) (name : Option (List ℕ)) → ((n : List ℕ) → name ≡ Some n → use_fault cs p n ≡ use_fault bs q n)
    → fault_of_item cs p line name ≡ map (moved_to p) (fault_of_item bs q line name)
item-moved bs cs p q line None h = refl
item-moved bs cs p q line (Some n) h = ap (λ c. fault_of_use p line n c) (h n refl) ∙ use-moved p q line n (use_fault bs q n)

items-moved : (bs cs : List Reading) (p q : ℕ) (fs : List ReadFault) (items : List ReadItem)
    → ((n : List ℕ) → Uses items n → use_fault cs p n ≡ use_fault bs q n) → item_faults cs p fs items ≡ map (moved_to p) (item_faults bs q fs items)
items-moved bs cs p q fs [] h = locals-moved p q fs
items-moved bs cs p q fs (i ∷ is) h =
    let front = map (local_fault q) (faults_before i.ordinal fs) in
    let here = fault_of_item bs q i.line (used_name i.said) in
    let rest = item_faults bs q (faults_from i.ordinal fs) is in
    rw (
      map-append (moved_to p) front (here ++ rest),
      map-append (moved_to p) here rest,
      ← locals-moved p q (faults_before i.ordinal fs),
      ← item-moved bs cs p q i.line (used_name i.said) (λ n u. h n (inl u)),
      ← items-moved bs cs p q (faults_from i.ordinal fs) is (λ n u. h n (inr u)),
    ) refl

parts-moved : (at : ℕ) (l i e l' i' e' : List SourceFault) → l' ≡ map (moved_to at) l → i' ≡ map (moved_to at) i → e' ≡ map (moved_to at) e
    → l' ++ (i' ++ e') ≡ map (moved_to at) (l ++ (i ++ e))
parts-moved at l i e l' i' e' f g h = rw (f, g, h, map-append (moved_to at) l (i ++ e), map-append (moved_to at) i e) refl

pub lasting-moved : (bs cs : List Reading) (p q : ℕ) (b : Reading) → ((n : List ℕ) → Uses b.items n → use_fault cs p n ≡ use_fault bs q n)
    → state_of cs b ≡ state_of bs b → lasting_faults cs p b ≡ map (moved_to p) (lasting_faults bs q b)
lasting-moved bs cs p q b uses state =
    let gs = filter (is_kept false) b.faults in
    parts-moved p (local_faults true q b.faults) (item_faults bs q gs b.items) (entry_faults q b.names (state_of bs b))
    (local_faults true p b.faults) (item_faults cs p gs b.items) (entry_faults p b.names (state_of cs b))
    (locals-moved p q (filter (is_kept true) b.faults)) (items-moved bs cs p q gs b.items uses)
    (ap (λ s. entry_faults p b.names s) state ∙ entry-moved p q b.names (state_of bs b))

-- ---- the fault of a use that reaches no touched name

between-same : (o : Option Reading) (l : Bool) (f g : Reading → Bool) → ((b : Reading) → o ≡ Some b → f b ≡ g b) → fault_between o l f ≡ fault_between o l g
between-same None l f g h = refl
between-same (Some b) true f g h = refl
between-same (Some b) false f g h = ap (λ v. cond v None (Some code.Unresolved)) (h b refl)

both_true : (a b : Bool) → (a ≡ true → b ≡ true) → (b ≡ true → a ≡ true) → a ≡ b
both_true true b f g = sym (f refl)
both_true false true f g = g refl
both_true false false f g = refl

module _ (test : List ℕ → Bool) (rest : List Reading) (o p : Option PlacedBlock) (at_o : IsOff test rest o) (at_p : IsOff test rest p) where
  pub use_fault-same : (n : List ℕ) (at : ℕ) → IsFree (owner_block (with_block rest o)) test n
      → use_fault (with_block rest p) (shifted_position p at) n ≡ use_fault (with_block rest o) (shifted_position o at) n
  use_fault-same n at free =
      let bs = with_block rest o in
      let cs = with_block rest p in
      let circular : leads_to cs n (shifted_position p at) ≡ leads_to bs n (shifted_position o at) =
      both_true (leads_to cs n (shifted_position p at)) (leads_to bs n (shifted_position o at))
      (λ t. LeadsTo-leads_to bs n (shifted_position o at) (circular_in_both test rest p o at_p at_o n at (free_in_both test rest o p at_o at_p n free)
      (leads_to-LeadsTo cs n (shifted_position p at) t)))
      (λ t. LeadsTo-leads_to cs n (shifted_position p at) (circular_in_both test rest o p at_o at_p n at free
      (leads_to-LeadsTo bs n (shifted_position o at) t))) in
      ap (λ x. fault_between x (leads_to cs n (shifted_position p at)) (resolves cs)) (owned_in_both test rest o p at_o at_p n free)
      ∙ (ap (λ l. fault_between (owner_block bs n) l (resolves cs)) circular
      ∙ between-same (owner_block bs n) (leads_to bs n (shifted_position o at)) (resolves cs) (resolves bs)
      (λ b e. ap (λ x. is_some x) (owner_says_same test rest o p at_o at_p n b free e)))

-- ---- the laws

-- what a block uses that reaches no touched name is free
free_uses : (bs : List Reading) (names : List (List ℕ)) (b : Reading) → (ReachesOne bs names b → ⊥) → (n : List ℕ) → Uses b.items n
    → IsFree (owner_block bs) (λ m. is_among m names) n
free_uses bs names b none n u = λ way to w. false_from_ne_true (is_among to names) (λ t. none (to, t, (n, way, u, w)))

pub kept_block : UntouchedBlocksAreKept
kept_block = λ e at b h s none.
    let test = λ (n : List ℕ). is_among n (touched_names e) in
    let free = free_uses (old_list e) (touched_names e) b none in
    let old = off_old e h in
    let new = off_new e h in
    let deep = λ (k : ℕ). expand_in_both test e.rest e.out e.put old new k b free in
    let same : expansion (new_list e) b ≡ expansion (old_list e) b =
    expansion-same (old_list e) (new_list e) (shifted_position e.out at) (shifted_position e.put at) b (get-with e.rest e.out at h.out ∙ s)
    (get-with e.rest e.put at h.put ∙ s) deep in
    let state : state_of (new_list e) b ≡ state_of (old_list e) b = ap (λ x. state_with b x) same in
    record {
      at_depth = deep;
      mentions = same;
      entry = ap (λ x. option_and_then (entry_of b) x) same;
      state = state;
      faults = lasting-moved (old_list e) (new_list e) (shifted_position e.put at) (shifted_position e.out at) b
          (λ n u. use_fault-same test e.rest e.out e.put old new n at (free n u)) state;
      old_owners = λ n u. owner-with e.rest e.out n h.out (old.off n (free n u [] n refl));
      new_owners = λ n u. owner-with e.rest e.put n h.put (new.off n (free n u [] n refl));
    }

pub touched_in_both : TouchedInBothLists
touched_in_both = λ e b h.
    let test = λ (n : List ℕ). is_among n (touched_names e) in (
      λ r. let w = reaches_in_both test e.rest e.out e.put (off_old e h) (off_new e h) b.items r.2.0 r.2.1 r.0 r.2.2 r.2.3 r.1 in (w.0, w.1, w.2),
      λ r. let w = reaches_in_both test e.rest e.put e.out (off_new e h) (off_old e h) b.items r.2.0 r.2.1 r.0 r.2.2 r.2.3 r.1 in (w.0, w.1, w.2),
    )
