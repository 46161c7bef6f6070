-- The faults kept with a block, of which those of its header come first, and the faults of all
-- blocks.
use Rattle.std.proofs.Common.{◌≡◌, ℕ, suc, ◌+◌, ◌≤◌, true, false, List, [], ◌∷◌, ◌++◌, length, length-append, append_assoc, take, drop, map, filter, Some}
use Rattle.std.proofs.Common.{slice_get, refl, sym, ◌∙◌, ap, arith}
use Rattle.std.specs.List.{take-map, drop-map}
use Rattle.std.proofs.lemmas.List.{length-map}
use Rattle.ti_source.specs.Reading.{Reading}
use Rattle.base_meaning.specs.Compiled.{state_of}
use Rattle.base_meaning.specs.Faults.{SourceFault, local_fault, local_faults, is_kept, item_faults, entry_faults, block_faults, faults_after}
use Rattle.base_meaning.specs.KeptBlocks.{lasting_faults}
use Rattle.base_slots.specs.declared.slots.KeptFault.{KeptFault}
use Rattle.base_slots.specs.Settled.{fault_at}
use Rattle.ti_base.proofs.Lists.{drop_get}

-- ---- the kept faults in two parts

-- the faults after those of the names
abbrev pub after_names : List Reading → ℕ → Reading → List SourceFault
after_names bs at b = item_faults bs at (filter (is_kept false) b.faults) b.items ++ entry_faults at b.names (state_of bs b)

length-locals : (at : ℕ) (b : Reading) → length (filter (is_kept true) b.faults) ≡ length (local_faults true at b.faults)
length-locals at b = sym (length-map (filter (is_kept true) b.faults) (local_fault at))

pub header_within : (bs : List Reading) (at : ℕ) (b : Reading) (kept : List KeptFault) → map (fault_at at) kept ≡ lasting_faults bs at b
    → length (filter (is_kept true) b.faults) ≤ length kept
header_within bs at b kept e =
    let n : length kept ≡ length (local_faults true at b.faults ++ after_names bs at b) = sym (length-map kept (fault_at at)) ∙ ap (λ xs. length xs) e in
    omega (arith, length-append (local_faults true at b.faults) (after_names bs at b), length-locals at b)

pub kept_header : (bs : List Reading) (at : ℕ) (b : Reading) (kept : List KeptFault) → map (fault_at at) kept ≡ lasting_faults bs at b
    → map (fault_at at) (take (length (filter (is_kept true) b.faults)) kept) ≡ local_faults true at b.faults
kept_header bs at b kept e =
    sym (take-map (fault_at at) (length (filter (is_kept true) b.faults)) kept)
    ∙ (ap (take (length (filter (is_kept true) b.faults))) e
    ∙ (ap (λ n. take n (local_faults true at b.faults ++ after_names bs at b)) (length-locals at b)
    ∙ take-front (local_faults true at b.faults) (after_names bs at b)))
  where
    take-front : (xs ys : List SourceFault) → take (length xs) (xs ++ ys) ≡ xs
    take-front [] ys = refl
    take-front (x ∷ xs) ys = ap (λ zs. x ∷ zs) (take-front xs ys)

pub kept_rest : (bs : List Reading) (at : ℕ) (b : Reading) (kept : List KeptFault) → map (fault_at at) kept ≡ lasting_faults bs at b
    → map (fault_at at) (drop (length (filter (is_kept true) b.faults)) kept) ≡ after_names bs at b
kept_rest bs at b kept e =
    sym (drop-map (fault_at at) (length (filter (is_kept true) b.faults)) kept)
    ∙ (ap (drop (length (filter (is_kept true) b.faults))) e
    ∙ (ap (λ n. drop n (local_faults true at b.faults ++ after_names bs at b)) (length-locals at b)
    ∙ drop-front (local_faults true at b.faults) (after_names bs at b)))
  where
    drop-front : (xs ys : List SourceFault) → drop (length xs) (xs ++ ys) ≡ ys
    drop-front [] ys = refl
    drop-front (x ∷ xs) ys = drop-front xs ys

-- three lists were added in turn
pub three_added : {X : Type 0} (o a b c n1 n2 n3 : List X) → n1 ≡ o ++ a → n2 ≡ n1 ++ b → n3 ≡ n2 ++ c → n3 ≡ o ++ (a ++ (b ++ c))
three_added o a b c n1 n2 n3 e f g = rw (g, f, e) (simp append_assoc)

-- ---- the faults of all blocks

-- the faults of one more block were added
pub one_more_block : (bs : List Reading) (at next : ℕ) (b : Reading) (old new all : List SourceFault) → suc at ≡ next → slice_get bs at ≡ Some b
    → old ++ faults_after bs at (drop at bs) ≡ all → new ≡ old ++ block_faults bs at b → new ++ faults_after bs next (drop next bs) ≡ all
one_more_block bs at next b old new all n s h e =
    let rest : drop at bs ≡ b ∷ drop (suc at) bs = drop_get bs at b s ∙ (let z : at + 1 ≡ suc at = omega arith in ap (λ m. b ∷ drop m bs) z) in
    rw (e, ← n, append_assoc) (ap (λ xs. old ++ faults_after bs at xs) (sym rest) ∙ h)
