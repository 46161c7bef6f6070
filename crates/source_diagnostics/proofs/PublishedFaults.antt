-- The diagnostics of a source are the faults of its report.
use Rattle.std.proofs.Common.{◌≡◌, ◌==◌, ℕ, zero, suc, ◌-◌, ◌<◌, true, false, cond, List, [], ◌∷◌, ◌++◌, Option, Some, None, codes, length, map, slice_get, refl, sym, ap, subst, ◌∙◌}
use Rattle.std.proofs.lemmas.List.{append_assoc}
use Rattle.base_meaning.specs.Faults.{SourceFault, faults}
use Rattle.base_meaning.specs.Owner.{readings}
use Rattle.base_meaning.specs.Report.{detail_text, line_number}
use Rattle.user_compiling.specs.Faults.{ExtendedSourceFault, of_profile, bad_user_defined, block_of, extended_faults}
use Rattle.std.specs.Fmt.{decimal}
use Rattle.ti_source.specs.Code.{code_name, label_of}
use Rattle.tools_sources.specs.Sources.{first_line, source_refusal, source_texts}
use Rattle.source_spans.specs.Faulty.{Search}
use Rattle.source_spans.specs.declared.parts.Part.{Part}
use Rattle.user_values.specs.Limit.{name_count, name_limit}
use Rattle.source_diagnostics.specs.Diagnostics.{AreOfExtendedFaults, AreOfFaults, DiagnosticsAreTheFaults, IsOfExtendedFault, IsOfFault, Shown}
use Rattle.source_diagnostics.specs.Diagnostics.{UserDefinedDiagnosticsAreTheFaults, bad_value_sentence, diagnostics_by, diagnostics_unless, fault_diagnostic, fault_diagnostics}
use Rattle.source_diagnostics.specs.Diagnostics.{number_of, sentence_by}
use Rattle.source_diagnostics.specs.SourceFaults.{faults_by}
use Rattle.source_diagnostics.specs.declared.capabilities.Capabilities.{Capabilities}
use Rattle.source_diagnostics.specs.declared.capabilities.Capabilities.TheVariants.{Profile, UserDefined}
use Rattle.source_diagnostics.proofs.SourceStates.{few_names, many_names, those_states}
use Rattle.source_places.specs.LineTexts.{line_of}
use Rattle.source_diagnostics.specs.Marking.{found_for, marked, marked_for, marked_part, text_at}
use Rattle.source_places.specs.Position.{position_of}

line_parts : (number colon label name detail : List ℕ)
    → number ++ colon ++ (label ++ 32 ∷ name) ++ detail ++ 10 ∷ [] ≡ number ++ colon ++ label ++ (32 ∷ []) ++ (name ++ detail) ++ 10 ∷ []
line_parts number colon label name detail = simp append_assoc

-- what is shown for a fault is on its line
marked_there : (number : ℕ) (text : List ℕ) (row : ℕ) (part : Option Part)
    → ((marked_for number text row part).start.line ≡ number) × ((marked_for number text row part).end.line ≡ number)
marked_there number text row None = (refl, refl)
marked_there number text row (Some part) =
    elim ((position_of text part.start).line == row) as (λ b.
    ((cond b (marked_part number text part) (marked number (line_of text row))).start.line ≡ number)
    × ((cond b (marked_part number text part) (marked number (line_of text row))).end.line ≡ number)) [
      | true ↦ (refl, refl)
      | false ↦ (refl, refl)
    ]

-- ---- those of the profile

of_fault : (capabilities : Capabilities) (texts : List (List ℕ)) (first : ℕ) (part : Option Part) (fault : SourceFault)
    → IsOfFault texts first fault (fault_diagnostic capabilities texts first part (of_profile fault))
of_fault capabilities texts first part fault =
    let there = marked_there (line_number texts first fault - 1) (text_at texts fault.block) (fault.line - 1) part in
    record {
      problem = refl;
      start = there.0;
      end = there.1;
      subject = code_name fault.code ++ detail_text fault.detail;
      words = sentence_by capabilities fault.code;
      message = refl;
      reported = line_parts (decimal (line_number texts first fault)) (58 ∷ 32 ∷ []) (label_of fault.code) (code_name fault.code) (detail_text fault.detail);
    }

as_many : (capabilities : Capabilities) (texts : List (List ℕ)) (first : ℕ) (last : Option (ℕ × Search)) (all : List SourceFault)
    → length (fault_diagnostics capabilities texts first last (map of_profile all)) ≡ length all
as_many capabilities texts first last [] = refl
as_many capabilities texts first last (fault ∷ all) = ap suc (as_many capabilities texts first (Some (fault.block, (found_for texts last (of_profile fault)).1)) all)

each : (capabilities : Capabilities) (texts : List (List ℕ)) (first : ℕ) (last : Option (ℕ × Search)) (all : List SourceFault) (at : ℕ) (fault : SourceFault) (diagnostic : Shown)
    → slice_get all at ≡ Some fault → slice_get (fault_diagnostics capabilities texts first last (map of_profile all)) at ≡ Some diagnostic
    → IsOfFault texts first fault diagnostic
each capabilities texts first last [] at fault diagnostic here there = absurd (cc)
each capabilities texts first last (f ∷ all) zero fault diagnostic here there =
    let part = (found_for texts last (of_profile f)).0 in
    let same : f ≡ fault = cc in
    let one : fault_diagnostic capabilities texts first part (of_profile f) ≡ diagnostic = cc in
    subst (λ d. IsOfFault texts first fault d) one
    (subst (λ g. IsOfFault texts first g (fault_diagnostic capabilities texts first part (of_profile f))) same (of_fault capabilities texts first part f))
each capabilities texts first last (f ∷ all) (suc at) fault diagnostic here there =
    each capabilities texts first (Some (f.block, (found_for texts last (of_profile f)).1)) all at fault diagnostic here there

profile_faults : (capabilities : Capabilities) (texts : List (List ℕ)) (first : ℕ) (all : List SourceFault)
    → AreOfFaults texts first all (fault_diagnostics capabilities texts first None (map of_profile all))
profile_faults capabilities texts first all = record { as_many = as_many capabilities texts first None all; each = each capabilities texts first None all }

pub published : DiagnosticsAreTheFaults
published text none =
    let texts = source_texts text in
    let all = faults (readings texts) in
    subst (AreOfFaults texts (first_line text) all) (sym (ap (diagnostics_unless Profile text) none))
    (profile_faults Profile texts (first_line text) all)

-- ---- those with user-defined capabilities

-- the line of W5 in its parts
bad_parts : (number colon label space name detail : List ℕ)
    → number ++ (colon ++ (label ++ (space ++ name))) ++ detail ++ 10 ∷ [] ≡ number ++ colon ++ label ++ space ++ (name ++ detail) ++ 10 ∷ []
bad_parts number colon label space name detail = simp append_assoc

of_extended : (capabilities : Capabilities) (texts : List (List ℕ)) (first : ℕ) (part : Option Part) (fault : ExtendedSourceFault)
    → IsOfExtendedFault texts first fault (fault_diagnostic capabilities texts first part fault)
of_extended capabilities texts first part (of_profile fault) =
    let there = marked_there (line_number texts first fault - 1) (text_at texts fault.block) (fault.line - 1) part in
    record {
      problem = refl;
      start = there.0;
      end = there.1;
      subject = code_name fault.code ++ detail_text fault.detail;
      words = sentence_by capabilities fault.code;
      message = refl;
      reported = line_parts (decimal (line_number texts first fault)) (58 ∷ 32 ∷ []) (label_of fault.code) (code_name fault.code) (detail_text fault.detail);
    }
of_extended capabilities texts first part (bad_user_defined block line name) =
    let number = number_of texts first (bad_user_defined block line name) in
    let there = marked_there (number - 1) (text_at texts block) (line - 1) part in
    record {
      problem = refl;
      start = there.0;
      end = there.1;
      subject = codes "BadUserDefined" ++ detail_text (Some name);
      words = bad_value_sentence;
      message = refl;
      reported = bad_parts (decimal number) (codes ": ") (codes "W5") (codes " ") (codes "BadUserDefined") (detail_text (Some name));
    }

as_many_extended : (capabilities : Capabilities) (texts : List (List ℕ)) (first : ℕ) (last : Option (ℕ × Search)) (all : List ExtendedSourceFault)
    → length (fault_diagnostics capabilities texts first last all) ≡ length all
as_many_extended capabilities texts first last [] = refl
as_many_extended capabilities texts first last (fault ∷ all) = ap suc (as_many_extended capabilities texts first (Some (block_of fault, (found_for texts last fault).1)) all)

each_extended : (capabilities : Capabilities) (texts : List (List ℕ)) (first : ℕ) (last : Option (ℕ × Search)) (all : List ExtendedSourceFault) (at : ℕ) (fault : ExtendedSourceFault)
    (diagnostic : Shown)
    → slice_get all at ≡ Some fault → slice_get (fault_diagnostics capabilities texts first last all) at ≡ Some diagnostic → IsOfExtendedFault texts first fault diagnostic
each_extended capabilities texts first last [] at fault diagnostic here there = absurd (cc)
each_extended capabilities texts first last (f ∷ all) zero fault diagnostic here there =
    let part = (found_for texts last f).0 in
    let same : f ≡ fault = cc in
    let one : fault_diagnostic capabilities texts first part f ≡ diagnostic = cc in
    subst (λ d. IsOfExtendedFault texts first fault d) one
    (subst (λ g. IsOfExtendedFault texts first g (fault_diagnostic capabilities texts first part f)) same (of_extended capabilities texts first part f))
each_extended capabilities texts first last (f ∷ all) (suc at) fault diagnostic here there =
    each_extended capabilities texts first (Some (block_of f, (found_for texts last f).1)) all at fault diagnostic here there

are_of_all : (capabilities : Capabilities) (texts : List (List ℕ)) (first : ℕ) (all : List ExtendedSourceFault) → AreOfExtendedFaults texts first all (fault_diagnostics capabilities texts first None all)
are_of_all capabilities texts first all = record { as_many = as_many_extended capabilities texts first None all; each = each_extended capabilities texts first None all }

pub published_extended : UserDefinedDiagnosticsAreTheFaults
published_extended = record {
  faults = λ text states none few are.
      let texts = source_texts text in
      let all : faults_by UserDefined texts ≡ extended_faults texts states =
      few_names texts few ∙ ap (extended_faults texts) (sym (those_states texts states are)) in
      subst (AreOfExtendedFaults texts (first_line text) (extended_faults texts states)) (sym (ap (diagnostics_unless UserDefined text) none))
      (subst (λ (fs : List ExtendedSourceFault). AreOfExtendedFaults texts (first_line text) fs (fault_diagnostics UserDefined texts (first_line text) None
      (faults_by UserDefined texts))) all (are_of_all UserDefined texts (first_line text) (faults_by UserDefined texts)));
  too_many = too_many;
  too_many_faults = λ text none many.
      let texts = source_texts text in
      subst (AreOfFaults texts (first_line text) (faults (readings texts))) (sym (too_many text none many))
      (profile_faults UserDefined texts (first_line text) (faults (readings texts)));
  refused = λ capabilities text error refused. ap (diagnostics_unless capabilities text) refused;
} where
  too_many : (text : List ℕ) → source_refusal text ≡ None → name_limit < name_count (source_texts text) (length (source_texts text))
      → diagnostics_by UserDefined text
      ≡ fault_diagnostics UserDefined (source_texts text) (first_line text) None (faults_by Profile (source_texts text))
  too_many text none many =
      ap (diagnostics_unless UserDefined text) none
      ∙ ap (fault_diagnostics UserDefined (source_texts text) (first_line text) None) (many_names (source_texts text) many)
