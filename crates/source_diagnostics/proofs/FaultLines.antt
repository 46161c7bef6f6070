-- The lines of the faults of a source.
use Rattle.std.proofs.Common.{◌≡◌, ◌==◌, ℕ, suc, ◌+◌, ◌-◌, ◌<◌, ◌≤◌, true, false, cond, All, List, [], ◌∷◌, ◌++◌, Option, None, Some, drop, get_or, length, map, slice_get}
use Rattle.std.proofs.Common.{refl, sym, ap, ap₂, subst, ◌∙◌, add-one, arith}
use Rattle.std.specs.List.{range_with_len}
use Rattle.std.proofs.Math.Seq.{drop-cons}
use Rattle.std.proofs.lemmas.List.{append-nil, append_assoc, drop_all, get_or-map, length-map}
use Rattle.std.proofs.lemmas.List.FromFn.{get_or-map-range_with_len, length-map-range_with_len}
use Rattle.std.proofs.lemmas.Option.{get_or_from_slice_get}
use Rattle.base_meaning.specs.Report.{lines_before}
use Rattle.user_compiling.specs.Faults.{ExtendedSourceFault, block_of, fault_seen, line_of as fault_line}
use Rattle.user_compiling.specs.Report.{IsExtendedPlaced}
use Rattle.user_compiling.specs.declared.fault.ExtendedFault.{ExtendedFault}
use Rattle.tools_sources.specs.Sources.{first_line, source_refusal, source_texts}
use Rattle.tools_sources.specs.declared.source_error.SourceError.{SourceError}
use Rattle.source_spans.specs.Faulty.{Search}
use Rattle.source_spans.specs.declared.parts.Part.{Part}
use Rattle.source_diagnostics.specs.Diagnostics.{Shown, diagnostics_by, diagnostics_unless, fault_diagnostics, message_of, number_of, problem_of, refusal_diagnostic}
use Rattle.source_places.specs.LineTexts.{line_of}
use Rattle.source_diagnostics.specs.Marking.{found_for, marked, marked_for, marked_part, text_at}
use Rattle.source_places.specs.Position.{position_of}
use Rattle.source_diagnostics.specs.inside.Marked.{AreMarked, marked_diagnostic, marked_diagnostics, on_line, source_marks}
use Rattle.source_diagnostics.specs.SourceFaults.{faults_by}
use Rattle.source_diagnostics.specs.declared.capabilities.Capabilities.{Capabilities}
use Rattle.source_types.specs.declared.places.Range.{Range}

-- what is read of the lines before each block
pub start_read : (texts : List (List ℕ)) (starts : List ℕ) (n at start : ℕ) → starts ≡ map (lines_before texts) (range_with_len 0 n) → at < n
    → start ≡ get_or starts at start → start ≡ lines_before texts at
start_read texts starts n at start e within is =
    is ∙ ap (λ s. get_or s at start) e ∙ get_or-map-range_with_len (lines_before texts) 0 n at at start within (omega arith)

pub length_starts : (texts : List (List ℕ)) (starts : List ℕ) (n : ℕ) → starts ≡ map (lines_before texts) (range_with_len 0 n) → length starts ≡ n
length_starts texts starts n e = ap length e ∙ length-map-range_with_len (lines_before texts) 0 n

-- what holds of each fault that is seen holds of that which lies in memory
seen_item : (P : ExtendedSourceFault → Type 0) (faults : List ExtendedFault) (i : ℕ) (fault : ExtendedFault) → i < length faults → fault ≡ get_or faults i fault
    → All P (map fault_seen faults) → P (fault_seen fault)
seen_item P faults i fault within is all =
    let there : i < length (map fault_seen faults) = omega (arith, within, length-map faults fault_seen) in
    subst P (get_or-map fault_seen faults i fault (fault_seen fault) within ∙ ap fault_seen (sym is)) (all i (fault_seen fault) there)

pub placed_item : (n : ℕ) (faults items : List ExtendedFault) (i : ℕ) (fault : ExtendedFault) → items ≡ faults → i < length items → fault ≡ get_or items i fault
    → All (IsExtendedPlaced n) (map fault_seen faults)
    → IsExtendedPlaced n (fault_seen fault)
placed_item n faults items i fault same within is all =
    seen_item (IsExtendedPlaced n) items i fault within is (subst (λ (list : List ExtendedFault). All (IsExtendedPlaced n) (map fault_seen list)) (sym same) all)

-- ---- the diagnostics of faults for which marks are given

-- the diagnostic of a fault by the lines before its block
pub shown_marked : (capabilities : Capabilities) (texts : List (List ℕ)) (first start number : ℕ) (mark range : Range) (fault : ExtendedSourceFault)
    (shown : Shown) → 1 ≤ first → 1 ≤ fault_line fault
    → start ≡ lines_before texts (block_of fault) → number ≡ first - 1 + start + (fault_line fault - 1) → range ≡ on_line number mark
    → shown ≡ record { range = range; problem = problem_of fault; message = message_of capabilities fault }
    → shown ≡ marked_diagnostic capabilities texts first mark fault
shown_marked capabilities texts first start number mark range fault shown one line is e there seen =
    let same : number ≡ number_of texts first fault - 1 = omega (arith, one, line, is, e) in
    seen ∙ ap (λ (r : Range). record { range = r; problem = problem_of fault; message = message_of capabilities fault })
    (there ∙ ap (λ (n : ℕ). on_line n mark) same)

-- what is left is the next and the rest
next_of : {X : Type 0} (all : List X) (at : ℕ) (x : X) → at < length all → x ≡ get_or all at x → drop at all ≡ x ∷ drop (at + 1) all
next_of all at x within is = drop-cons all at x within ∙ rw (← is, add-one) refl

-- one more diagnostic
pub one_more_shown : (capabilities : Capabilities) (texts : List (List ℕ)) (first : ℕ) (marks : List Range) (faults : List ExtendedFault) (at : ℕ)
    (mark : Range) (fault : ExtendedFault) (shown : Shown) (before all : List Shown)
    → at < length faults → fault ≡ get_or faults at fault → at < length marks → slice_get marks at ≡ Some mark
    → shown ≡ marked_diagnostic capabilities texts first mark (fault_seen fault)
    → before ++ marked_diagnostics capabilities texts first (drop at marks) (map fault_seen (drop at faults)) ≡ all
    → (before ++ shown ∷ []) ++ marked_diagnostics capabilities texts first (drop (at + 1) marks) (map fault_seen (drop (at + 1) faults)) ≡ all
one_more_shown capabilities texts first marks faults at mark fault shown before all within is there held seen e =
    append_assoc before (shown ∷ []) (marked_diagnostics capabilities texts first (drop (at + 1) marks) (map fault_seen (drop (at + 1) faults)))
    ∙ ap (λ (s : Shown). before ++ s ∷ marked_diagnostics capabilities texts first (drop (at + 1) marks) (map fault_seen (drop (at + 1) faults))) seen
    ∙ ap₂ (λ (ms : List Range) (fs : List ExtendedFault). before ++ marked_diagnostics capabilities texts first ms (map fault_seen fs))
    (sym (next_of marks at mark there (sym (get_or_from_slice_get marks at mark mark held)))) (sym (next_of faults at fault within is))
    ∙ e

nothing : (capabilities : Capabilities) (texts : List (List ℕ)) (first : ℕ) (marks : List Range) → marked_diagnostics capabilities texts first marks [] ≡ []
nothing capabilities texts first [] = refl
nothing capabilities texts first (mark ∷ marks) = refl

-- no fault is left
pub all_shown : (capabilities : Capabilities) (texts : List (List ℕ)) (first : ℕ) (marks : List Range) (faults : List ExtendedFault) (at : ℕ)
    (before all : List Shown) → length faults ≤ at
    → before ++ marked_diagnostics capabilities texts first (drop at marks) (map fault_seen (drop at faults)) ≡ all → before ≡ all
all_shown capabilities texts first marks faults at before all past e =
    sym (ap (λ (fs : List ExtendedFault). before ++ marked_diagnostics capabilities texts first (drop at marks) (map fault_seen fs)) (drop_all at faults past)
    ∙ ap (λ (ss : List Shown). before ++ ss) (nothing capabilities texts first (drop at marks)) ∙ append-nil before)
    ∙ e

-- what is shown on a line is what is shown on the line of the number 0, put on it
on_its_line : (number : ℕ) (text : List ℕ) (row : ℕ) (part : Option Part) → on_line number (marked_for 0 text row part) ≡ marked_for number text row part
on_its_line number text row None = refl
on_its_line number text row (Some part) =
    elim ((position_of text part.start).line == row) as (λ b. on_line number (cond b (marked_part 0 text part) (marked 0 (line_of text row)))
    ≡ cond b (marked_part number text part) (marked number (line_of text row))) [
      | true ↦ refl
      | false ↦ refl
    ]

marked_are_shown : (capabilities : Capabilities) (texts : List (List ℕ)) (first : ℕ) (last : Option (ℕ × Search)) (all : List ExtendedSourceFault)
    → marked_diagnostics capabilities texts first (source_marks texts last all) all ≡ fault_diagnostics capabilities texts first last all
marked_are_shown capabilities texts first last [] = refl
marked_are_shown capabilities texts first last (fault ∷ all) =
    let found = found_for texts last fault in
    ap₂ (λ (r : Range) (ss : List Shown). record { range = r; problem = problem_of fault; message = message_of capabilities fault } ∷ ss)
    (on_its_line (number_of texts first fault - 1) (text_at texts (block_of fault)) (fault_line fault - 1) found.0)
    (marked_are_shown capabilities texts first (Some (block_of fault, found.1)) all)

-- the diagnostics of the faults of a source
pub marked_shown : (capabilities : Capabilities) (texts : List (List ℕ)) (first : ℕ) (all : List ExtendedSourceFault) (marks : List Range)
    → AreMarked capabilities texts all marks
    → marked_diagnostics capabilities texts first marks all ≡ fault_diagnostics capabilities texts first None (faults_by capabilities texts)
marked_shown capabilities texts first all marks are =
    ap (λ (ms : List Range). marked_diagnostics capabilities texts first ms all) are.marked ∙ marked_are_shown capabilities texts first None all
    ∙ ap (fault_diagnostics capabilities texts first None) are.whole

-- each has what is shown for it
as_many : (texts : List (List ℕ)) (last : Option (ℕ × Search)) (all : List ExtendedSourceFault) → length (source_marks texts last all) ≡ length all
as_many texts last [] = refl
as_many texts last (fault ∷ all) = ap suc (as_many texts (Some (block_of fault, (found_for texts last fault).1)) all)

pub as_many_marks : (capabilities : Capabilities) (texts : List (List ℕ)) (faults : List ExtendedFault) (marks : List Range)
    → AreMarked capabilities texts (map fault_seen faults) marks → length marks ≡ length faults
as_many_marks capabilities texts faults marks are = ap length are.marked ∙ as_many texts None (map fault_seen faults) ∙ length-map faults fault_seen

-- ---- the diagnostics of a source

-- if it is taken
pub taken_shown : (capabilities : Capabilities) (text : List ℕ) (database : List (List ℕ)) (first : ℕ) (all : List Shown) → source_refusal text ≡ None
    → (source_refusal text ≡ None → database ≡ source_texts text) → first ≡ first_line text
    → all ≡ fault_diagnostics capabilities database first None (faults_by capabilities database) → all ≡ diagnostics_by capabilities text
taken_shown capabilities text database first all none held line e =
    e ∙ ap (λ (n : ℕ). fault_diagnostics capabilities database n None (faults_by capabilities database)) line
    ∙ ap (λ (texts : List (List ℕ)). fault_diagnostics capabilities texts (first_line text) None (faults_by capabilities texts)) (held none)
    ∙ sym (ap (diagnostics_unless capabilities text) none)

-- if it is refused
pub refused_shown : (capabilities : Capabilities) (text : List ℕ) (error : SourceError) (all : List Shown) → source_refusal text ≡ Some error
    → all ≡ refusal_diagnostic text error ∷ [] → all ≡ diagnostics_by capabilities text
refused_shown capabilities text error all some e = e ∙ sym (ap (diagnostics_unless capabilities text) some)
