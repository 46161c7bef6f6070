-- Each fault of a source is of one of its blocks, on a line that its text has.
use Rattle.std.proofs.Common.{ℕ, suc, ◌+◌, ◌<◌, ◌≤◌, Bool, true, false, cond, List, [], ◌∷◌, ◌++◌, length, filter, map, All, nat_lt, Option, Some, None, arith}
use Rattle.std.proofs.lemmas.List.Elements.{All-append, All-map, All-filter, All-weaker, All-cons, All-nil, All-head, All-tail}
use Rattle.ti_source.specs.declared.code.Code.{Code}
use Rattle.ti_source.specs.Reading.{Reading, ReadItem, ReadFault}
use Rattle.base_meaning.specs.Reaching.{used_name}
use Rattle.base_meaning.specs.Compiled.{EntryState, unresolved, oversized, written, state_of}
use Rattle.base_meaning.specs.Faults.{SourceFault, local_fault, local_faults, is_kept, is_owned_before, distinct, name_fault, name_faults, use_fault}
use Rattle.base_meaning.specs.Faults.{fault_of_use, fault_of_item, faults_before, faults_from, item_faults, entry_faults, block_faults, faults_after}
use Rattle.base_meaning.specs.Faults.{faults}
use Rattle.base_meaning.specs.Usable.{IsLine, IsUsable, IsPlaced}

module _ (bs : List Reading) (n at : ℕ) (within : at < n) where
  locals_placed : (fs : List ReadFault) → All (λ (f : ReadFault). IsLine f.line) fs → All (IsPlaced n) (map (local_fault at) fs)
  locals_placed fs h = All-map (IsPlaced n) (local_fault at) fs
      (All-weaker (λ (f : ReadFault). IsLine f.line) (λ f. IsPlaced n (local_fault at f)) (λ f l. (within, l)) fs h)

  names_placed : (names : List (List ℕ)) → All (IsPlaced n) (map (name_fault at) names)
  names_placed names = All-map (IsPlaced n) (name_fault at) names (λ k d l. (within, (omega arith, omega arith)))

  before_kept : (ordinal : ℕ) (fs : List ReadFault) → All (λ (f : ReadFault). IsLine f.line) fs
      → All (λ (f : ReadFault). IsLine f.line) (faults_before ordinal fs)
  before_kept ordinal [] h = h
  before_kept ordinal (f ∷ fs) h =
      elim (nat_lt f.ordinal ordinal) as (λ v. All (λ (g : ReadFault). IsLine g.line) (cond v (f ∷ faults_before ordinal fs) [])) [
        | true ↦ All-cons (λ (g : ReadFault). IsLine g.line) f (faults_before ordinal fs) (All-head (λ (g : ReadFault). IsLine g.line) f fs h)
            (before_kept ordinal fs (All-tail (λ (g : ReadFault). IsLine g.line) f fs h))
        | false ↦ All-nil (λ (g : ReadFault). IsLine g.line)
      ]

  from_kept : (ordinal : ℕ) (fs : List ReadFault) → All (λ (f : ReadFault). IsLine f.line) fs → All (λ (f : ReadFault). IsLine f.line) (faults_from ordinal fs)
  from_kept ordinal [] h = h
  from_kept ordinal (f ∷ fs) h =
      elim (nat_lt f.ordinal ordinal) as (λ v. All (λ (g : ReadFault). IsLine g.line) (cond v (faults_from ordinal fs) (f ∷ fs))) [
        | true ↦ from_kept ordinal fs (All-tail (λ (g : ReadFault). IsLine g.line) f fs h)
        | false ↦ h
      ]

  one_placed : (f : SourceFault) → IsPlaced n f → All (IsPlaced n) (f ∷ [])
  one_placed f p = All-cons (IsPlaced n) f [] p (All-nil (IsPlaced n))

  use_placed : (line : ℕ) (name : List ℕ) (code : Option Code) → IsLine line → All (IsPlaced n) (fault_of_use at line name code)
  use_placed line name None l = All-nil (IsPlaced n)
  use_placed line name (Some code) l = one_placed (record { block = at; line = line; code = code; detail = Some name }) (within, l)

  item_placed : (line : ℕ) (name : Option (List ℕ)) → IsLine line → All (IsPlaced n) (fault_of_item bs at line name)
  item_placed line None l = All-nil (IsPlaced n)
  item_placed line (Some name) l = use_placed line name (use_fault bs at name) l

  items_placed : (fs : List ReadFault) (items : List ReadItem) → All (λ (f : ReadFault). IsLine f.line) fs → All (λ (i : ReadItem). IsLine i.line) items
      → All (IsPlaced n) (item_faults bs at fs items)
  items_placed fs [] h k = locals_placed fs h
  items_placed fs (i ∷ is) h k =
      All-append (IsPlaced n) (map (local_fault at) (faults_before i.ordinal fs))
      (fault_of_item bs at i.line (used_name i.said) ++ item_faults bs at (faults_from i.ordinal fs) is)
      (locals_placed (faults_before i.ordinal fs) (before_kept i.ordinal fs h))
      (All-append (IsPlaced n) (fault_of_item bs at i.line (used_name i.said)) (item_faults bs at (faults_from i.ordinal fs) is)
      (item_placed i.line (used_name i.said) (All-head (λ (j : ReadItem). IsLine j.line) i is k))
      (items_placed (faults_from i.ordinal fs) is (from_kept i.ordinal fs h) (All-tail (λ (j : ReadItem). IsLine j.line) i is k)))

  entry_placed : (names : List (List ℕ)) (s : EntryState) → All (IsPlaced n) (entry_faults at names s)
  entry_placed names unresolved = All-nil (IsPlaced n)
  entry_placed names oversized = one_placed _ (within, (omega arith, omega arith))
  entry_placed names (written bytes) = All-nil (IsPlaced n)

  block_placed : (b : Reading) → IsUsable b → All (IsPlaced n) (block_faults bs at b)
  block_placed b h =
      let keeps = λ (v : Bool). All-filter (is_kept v) (λ (f : ReadFault). IsLine f.line) b.faults h.fault_lines in
      All-append (IsPlaced n) (local_faults true at b.faults) _ (locals_placed (filter (is_kept true) b.faults) (keeps true))
      (All-append (IsPlaced n) (name_faults bs at b.names) _ (names_placed (filter (is_owned_before bs at) (distinct b.names)))
      (All-append (IsPlaced n) (item_faults bs at (filter (is_kept false) b.faults) b.items) _
      (items_placed (filter (is_kept false) b.faults) b.items (keeps false) h.item_lines)
      (entry_placed b.names (state_of bs b))))

faults_after_placed : (bs : List Reading) (n at : ℕ) (rest : List Reading) → at + length rest ≤ n → All IsUsable rest
    → All (IsPlaced n) (faults_after bs at rest)
faults_after_placed bs n at [] l h = All-nil (IsPlaced n)
faults_after_placed bs n at (b ∷ rest) l h =
    All-append (IsPlaced n) (block_faults bs at b) (faults_after bs (suc at) rest)
    (block_placed bs n at (omega arith) b (All-head IsUsable b rest h))
    (faults_after_placed bs n (suc at) rest (omega arith) (All-tail IsUsable b rest h))

-- all faults of a source
pub faults_placed : (bs : List Reading) → All IsUsable bs → All (IsPlaced (length bs)) (faults bs)
faults_placed bs h = faults_after_placed bs (length bs) 0 bs (omega arith) h
