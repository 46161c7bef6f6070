-- What is shown for the faults of a source is what is shown for those of one block after another.
use Rattle.std.proofs.Common.{◌≡◌, ◌≢◌, ◌<◌, ◌≤◌, ◌+◌, ◌-◌, ℕ, true, false, All, List, [], ◌∷◌, ◌++◌, Option, None, Some, drop, get_or, length, map, slice_get, take}
use Rattle.std.proofs.Common.{refl, sym, ap, ap₂, subst, ◌∙◌, add-one, arith}
use Rattle.std.specs.Option.{option_map_or}
use Rattle.std.specs.Prelude.{nat_eq}
use Rattle.std.proofs.Math.Seq.{drop-cons}
use Rattle.std.proofs.lemmas.Bool.{eq-eqb, ne_eqb}
use Rattle.std.proofs.lemmas.List.{append_assoc, drop-map, get_or-drop, length-drop, map-append, take-append-drop, take_all}
use Rattle.std.proofs.lemmas.List.Elements.{All-drop, All-head, All-map, All-tail}
use Rattle.std.proofs.lemmas.Simd.{map-map}
use Rattle.user_compiling.specs.Faults.{ExtendedSourceFault, block_of, fault_seen, line_of}
use Rattle.user_compiling.specs.Report.{IsExtendedPlaced}
use Rattle.user_compiling.specs.declared.fault.ExtendedFault.{ExtendedFault}
use Rattle.user_compiling.proofs.Lines.{placed_block}
use Rattle.source_spans.specs.Faulty.{Search, find_sought, search_of}
use Rattle.source_spans.specs.declared.parts.Part.{Part}
use Rattle.source_diagnostics.specs.Marking.{found_for, marked_for, sought_of, text_at}
use Rattle.source_diagnostics.proofs.FaultLines.{placed_item}
use Rattle.source_diagnostics.specs.inside.Kept.{Kept, block_marks, kept_marks, sought_in}
use Rattle.source_diagnostics.specs.inside.Marked.{AreOfBlock, source_marks}
use Rattle.source_types.specs.declared.places.Range.{Range}

-- the search for a fault of the same block goes on
goes_on : (texts : List (List ℕ)) (b : ℕ) (s : Search) (f : ExtendedSourceFault) → block_of f ≡ b → found_for texts (Some (b, s)) f ≡ find_sought s (sought_of f)
goes_on texts b s f same = let t : nat_eq b (block_of f) ≡ true = eq-eqb b (block_of f) (sym same) in rw t refl

-- that for a fault of another begins anew
begins_anew : (texts : List (List ℕ)) (b : ℕ) (s : Search) (f : ExtendedSourceFault) → block_of f ≢ b → found_for texts (Some (b, s)) f ≡ found_for texts None f
begins_anew texts b s f other = let t : nat_eq b (block_of f) ≡ false = ne_eqb b (block_of f) (λ e. other (sym e)) in rw t refl

-- what is shown for a fault, by what is found for it, and for those after it
abbrev marks_by : List (List ℕ) → ExtendedSourceFault → List ExtendedSourceFault → Option Part × Search → List Range
marks_by texts f fs found = marked_for 0 (text_at texts (block_of f)) (line_of f - 1) found.0 ∷ source_marks texts (Some (block_of f, found.1)) fs

-- the first of these faults, if there is one, is of another block
abbrev IsOther : ℕ → List ExtendedSourceFault → Type 0
IsOther b [] = Unit {0}
IsOther b (f ∷ fs) = block_of f ≢ b

others_anew : (texts : List (List ℕ)) (b : ℕ) (s : Search) (rest : List ExtendedSourceFault) → IsOther b rest
    → source_marks texts (Some (b, s)) rest ≡ source_marks texts None rest
others_anew texts b s [] other = refl
others_anew texts b s (f ∷ fs) other = ap (marks_by texts f fs) (begins_anew texts b s f other)

-- a fault of the block, by its own block
own_block : (texts : List (List ℕ)) (b : ℕ) (f : ExtendedSourceFault) (fs : List ExtendedSourceFault) (found : Option Part × Search) → block_of f ≡ b
    → marks_by texts f fs found ≡ marked_for 0 (text_at texts b) (line_of f - 1) found.0 ∷ source_marks texts (Some (b, found.1)) fs
own_block texts b f fs found same =
    ap (λ (k : ℕ). marked_for 0 (text_at texts k) (line_of f - 1) found.0 ∷ source_marks texts (Some (k, found.1)) fs) same

abbrev OfBlock : ℕ → ExtendedSourceFault → Type 0
OfBlock b f = block_of f ≡ b

goes_through : (texts : List (List ℕ)) (b : ℕ) (s : Search) (fs rest : List ExtendedSourceFault) → All (OfBlock b) fs → IsOther b rest
    → source_marks texts (Some (b, s)) (fs ++ rest) ≡ block_marks (text_at texts b) s (map sought_of fs) ++ source_marks texts None rest
goes_through texts b s [] rest all other = others_anew texts b s rest other
goes_through texts b s (f ∷ fs) rest all other =
    let same = All-head (OfBlock b) f fs all in
    let found = find_sought s (sought_of f) in
    ap (marks_by texts f (fs ++ rest)) (goes_on texts b s f same) ∙ own_block texts b f (fs ++ rest) found same
    ∙ ap (λ (ms : List Range). marked_for 0 (text_at texts b) (line_of f - 1) found.0 ∷ ms)
    (goes_through texts b found.1 fs rest (All-tail (OfBlock b) f fs all) other)

block_first : (texts : List (List ℕ)) (b : ℕ) (fs rest : List ExtendedSourceFault) → All (OfBlock b) fs → IsOther b rest
    → source_marks texts None (fs ++ rest)
    ≡ block_marks (text_at texts b) (search_of (text_at texts b)) (map sought_of fs) ++ source_marks texts None rest
block_first texts b [] rest all other = refl
block_first texts b (f ∷ fs) rest all other =
    let same = All-head (OfBlock b) f fs all in
    let found = find_sought (search_of (text_at texts b)) (sought_of f) in
    ap (λ (k : ℕ). marks_by texts f (fs ++ rest) (find_sought (search_of (text_at texts k)) (sought_of f))) same
    ∙ own_block texts b f (fs ++ rest) found same
    ∙ ap (λ (ms : List Range). marked_for 0 (text_at texts b) (line_of f - 1) found.0 ∷ ms)
    (goes_through texts b found.1 fs rest (All-tail (OfBlock b) f fs all) other)

first_other : (b : ℕ) (all : List ExtendedFault) → ((other : ExtendedFault) → 0 < length all → block_of (fault_seen (get_or all 0 other)) ≢ b) → IsOther b (map fault_seen all)
first_other b [] other = tt
first_other b (f ∷ fs) other = other f (omega arith)

-- the faults of a block at the front of others, and what is shown for them
pub block_shown : (texts : List (List ℕ)) (b count : ℕ) (all : List ExtendedFault) → AreOfBlock b count all
    → source_marks texts None (map fault_seen all)
    ≡ block_marks (text_at texts b) (search_of (text_at texts b)) (sought_in (take count all)) ++ source_marks texts None (map fault_seen (drop count all))
block_shown texts b count all of =
    let own = take count all in
    let rest = drop count all in
    let other : IsOther b (map fault_seen rest) =
    first_other b rest (λ d some. subst (λ (f : ExtendedFault). block_of (fault_seen f) ≢ b) (sym (get_or-drop count all 0 d ∙ ap (λ (k : ℕ). get_or all k d) (omega arith)))
    (of.other d (omega (arith, some, length-drop count all)))) in
    ap (λ (fs : List ExtendedFault). source_marks texts None (map fault_seen fs)) (sym (take-append-drop count all))
    ∙ ap (source_marks texts None) (map-append fault_seen own rest)
    ∙ block_first texts b (map fault_seen own) (map fault_seen rest) (All-map (OfBlock b) fault_seen own of.same) other
    ∙ ap (λ ss. block_marks (text_at texts b) (search_of (text_at texts b)) ss ++ source_marks texts None (map fault_seen rest))
    (map-map sought_of fault_seen own)

-- ---- as they are found

-- what is left is the next fault and the rest
next_fault : (faults : List ExtendedFault) (at : ℕ) (fault : ExtendedFault) → at < length faults → fault ≡ get_or faults at fault
    → drop at faults ≡ fault ∷ drop (at + 1) faults
next_fault faults at fault within is = drop-cons faults at fault within ∙ rw (← is, add-one) refl

-- one more fault of a block
pub mark_more : (text walk : List ℕ) (s t : Search) (marks all : List Range) (faults : List ExtendedFault) (at : ℕ) (fault : ExtendedFault) (mark : Range)
    → at < length faults → fault ≡ get_or faults at fault → walk ≡ text
    → mark ≡ marked_for 0 walk (line_of (fault_seen fault) - 1) (find_sought s (sought_of (fault_seen fault))).0
    → t ≡ (find_sought s (sought_of (fault_seen fault))).1 → marks ++ block_marks text s (sought_in (drop at faults)) ≡ all
    → (marks ++ mark ∷ []) ++ block_marks text t (sought_in (drop (at + 1) faults)) ≡ all
mark_more text walk s t marks all faults at fault mark within is same shown left e =
    let found = find_sought s (sought_of (fault_seen fault)) in
    let rest = sought_in (drop (at + 1) faults) in
    append_assoc marks (mark ∷ []) (block_marks text t rest)
    ∙ ap₂ (λ (m : Range) (u : Search). marks ++ m ∷ block_marks text u rest)
    (shown ∙ ap (λ (w : List ℕ). marked_for 0 w (line_of (fault_seen fault) - 1) found.0) same) left
    ∙ ap (λ (fs : List ExtendedFault). marks ++ block_marks text s (sought_in fs)) (sym (next_fault faults at fault within is))
    ∙ e

-- all faults are of the block
pub all_of_block : (b : ℕ) (all : List ExtendedFault) (at n : ℕ) → length all ≤ at → n ≡ length all → All (λ (fault : ExtendedFault). block_of (fault_seen fault) ≡ b) (take at all)
    → AreOfBlock b n all
all_of_block b all at n past is of = record {
  same = subst (All (λ (fault : ExtendedFault). block_of (fault_seen fault) ≡ b)) (take_all at all past ∙ sym (take_all n all (omega (arith, is)))) of;
  other = λ d within. absurd (omega (arith, within, is));
}

-- the faults of one more block
pub block_added : (texts : List (List ℕ)) (b count : ℕ) (rest own others : List ExtendedFault) (text : List ℕ) (marks new added all : List Range) {kept : Kept}
    → AreOfBlock b count rest → own ≡ take count rest → others ≡ drop count rest → slice_get texts b ≡ Some text
    → kept ≡ record { text = text; faults = sought_in own } → added ≡ kept_marks kept → new ≡ marks ++ added
    → marks ++ source_marks texts None (map fault_seen rest) ≡ all → new ++ source_marks texts None (map fault_seen others) ≡ all
block_added texts b count rest own others text marks new added all of front back held is shown made e =
    let there : text_at texts b ≡ text = ap (λ (o : Option (List ℕ)). option_map_or (λ (t : List ℕ). t) o []) held in
    let by_block : added ≡ block_marks (text_at texts b) (search_of (text_at texts b)) (sought_in (take count rest)) =
    shown ∙ ap kept_marks is ∙ ap (λ (t : List ℕ). block_marks t (search_of t) (sought_in own)) (sym there)
    ∙ ap (λ (fs : List ExtendedFault). block_marks (text_at texts b) (search_of (text_at texts b)) (sought_in fs)) front in
    ap₂ (λ (ms : List Range) (fs : List ExtendedFault). ms ++ source_marks texts None (map fault_seen fs)) made back
    ∙ append_assoc marks added (source_marks texts None (map fault_seen (drop count rest)))
    ∙ ap (λ (ms : List Range). marks ++ (ms ++ source_marks texts None (map fault_seen (drop count rest)))) by_block
    ∙ ap (λ (ms : List Range). marks ++ ms) (sym (block_shown texts b count rest of)) ∙ e

-- ---- where they are

pub first_placed : (n : ℕ) (faults : List ExtendedFault) (fault : ExtendedFault) → 0 < length faults → fault ≡ get_or faults 0 fault
    → All (IsExtendedPlaced n) (map fault_seen faults) → block_of (fault_seen fault) < n
first_placed n faults fault some is placed = placed_block n (fault_seen fault) (placed_item n faults faults 0 fault refl some is placed)

pub others_placed : (n count : ℕ) (faults others : List ExtendedFault) → others ≡ drop count faults → All (IsExtendedPlaced n) (map fault_seen faults)
    → All (IsExtendedPlaced n) (map fault_seen others)
others_placed n count faults others back placed =
    subst (All (IsExtendedPlaced n)) (drop-map fault_seen count faults ∙ ap (map fault_seen) (sym back)) (All-drop (IsExtendedPlaced n) count (map fault_seen faults) placed)
