-- No diagnostic and no answer has a float.
use Rattle.std.specs.List.{flat_map, slice_split}
use Rattle.std.specs.Str.{trim_start}
use Rattle.ti_text.specs.Ascii as ascii
use Rattle.source_document.specs.Documents.{held}
use Rattle.std.specs.Prelude.{ℕ, ◌≡◌, ◌==◌, Bool, cond, List, [], ◌∷◌, ◌++◌, false, true, Option, None, Some, map, refl}
use Rattle.serde_json.specs.Data.{Data, Items}
use Rattle.serde_json.specs.View.{items_of}
use Rattle.serde_json.specs.Written.{has_float, items_have_float}
use Rattle.ti_caps.specs.Tables.{Capability, name_of}
use Rattle.source_document.specs.Diagnostics.{Shown, diagnostics_by}
use Rattle.source_diagnostics.specs.declared.capabilities.Capabilities.{Capabilities}
use Rattle.source_diagnostics.specs.declared.capabilities.Capabilities.TheVariants.{Profile, UserDefined}
use Rattle.source_descriptions.specs.UserDescriptions.{UserDescribed, user_descriptions}
use Rattle.source_blocks.specs.Symbols.{SymbolSeen, symbols_of}
use Rattle.source_features.specs.Completions.{CompletionSeen, OffersSeen, completion_of, offers_capabilities, offers_names}
use Rattle.source_features.specs.Formatting.{LayoutSeen, layout_of}
use Rattle.source_features.specs.RangeFormatting.{layout_in}
use Rattle.source_features.specs.Explaining.{explanation_of}
use Rattle.source_features.specs.Hovers.{HoverSeen, hover_of}
use Rattle.source_names.specs.Names.{definition_of, references_of}
use Rattle.source_names.specs.Renaming.{RenameSeen, RenamingSeen, refuses, renamable_at, renames, renames_nothing, renaming_of}
use Rattle.source_fixes.specs.Fixes.{FixSeen, fixes_of}
use Rattle.source_fixes.specs.Resolving.{resolved_by}
use Rattle.source_fixes.specs.declared.hint_fixes.HintFix.{HintFix}
use Rattle.source_format.specs.Folds.{folds_of}
use Rattle.source_format.specs.declared.folding.Fold.{Fold}
use Rattle.source_edits.specs.Edits.{is_certain}
use Rattle.server_answers.specs.Fixes.{advice_title, fix_shown, fixes_data, fixes_shown, hint_fix_shown, hint_fixes_if, is_offered as is_offered_fix, resolved_shown}
use Rattle.lsp_messages.specs.Messages.{Query, completion, hover, signature, definition, references, symbols, highlights, folding, formatting, range_formatting, rename, prepare_rename, fixes}
use Rattle.lsp_values.specs.Shapes.{action_data, folding_data, highlight_data, location_data, parameter_data, signature_help_data, symbol_information_data}
use Rattle.lsp_messages.specs.declared.clients.Client.{Client}
use Rattle.source_types.specs.declared.places.Range.{Range}
use Rattle.lsp_server.specs.Sayings.{HasNoFloats, SaidHasNoFloat}
use Rattle.server_answers.specs.Answers.{answer_of, completion_data, definition_data, edit_data, entry_item, offered_items, renamable_data, renamed_said, sayings, symbol_shown}
use Rattle.server_hovers.specs.Hovers.{hover_shown}
use Rattle.server_answers.specs.InstalledOffers.{if_offered, installed_item, installed_items, is_offered, typed_in}
use Rattle.server_answers.specs.Signatures.{label_of, parameters_shown, signature_shown}
use Rattle.source_features.specs.Signatures.{SignatureSeen, signature_of}
use Rattle.server_answers.specs.Laying.{fold_data, layout_data}
use Rattle.server_answers.specs.Offers.{all_capabilities, capability_item, described_item, is_obsolete, user_item, user_items}
use Rattle.server_answers.specs.Searching.{holds, symbols_found}
use Rattle.server_answers.specs.Shown.{capabilities_of, found_by, hinted_data, remark_data, shown_by, shown_data, shown_of, use_data}
use Rattle.source_installed.specs.Findings.{Found}
use Rattle.source_remarks.specs.Hints.{SeenHints, text_hints}
use Rattle.source_remarks.specs.Remarks.{SeenRemark, remarks_by}

none_in : (all : List Shown) → items_have_float (items_of (map shown_data all)) ≡ false
none_in [] = refl
none_in (shown ∷ all) = none_in all

none_in_uses : (uses : List Range) → items_have_float (items_of (map use_data uses)) ≡ false
none_in_uses [] = refl
none_in_uses (range ∷ uses) = none_in_uses uses

-- nor in faults and hints before others that have none
none_in_remarks : (all : List SeenRemark) (rest : List Data) → items_have_float (items_of rest) ≡ false
    → items_have_float (items_of (map remark_data all ++ rest)) ≡ false
none_in_remarks [] rest none = none
none_in_remarks (remark ∷ all) rest none = none_in_remarks all rest none

none_in_hinted : (found : Found) (hints : SeenHints) → items_have_float (items_of (hinted_data found hints)) ≡ false
none_in_hinted found hints = none_in_remarks (remarks_by found.faults hints) (map use_data found.uses) (none_in_uses found.uses)

none_in_shown : (hints : Bool) (capabilities : Capabilities) (installed : List (List ℕ)) (text : List ℕ)
    → items_have_float (shown_by hints capabilities installed text) ≡ false
none_in_shown true capabilities installed text = none_in_hinted (found_by capabilities installed text) (text_hints capabilities text)
none_in_shown false capabilities installed text = none_in (found_by capabilities installed text).faults

shown_have_no_floats : (installed : List (List ℕ)) (client : Client) (text : List ℕ) → items_have_float (shown_of installed client text) ≡ false
shown_have_no_floats installed client text = none_in_shown client.hints (capabilities_of client) installed text

none_in_outline : (nests : Bool) (uri : List ℕ) (all : List SymbolSeen) → items_have_float (items_of (map (symbol_shown nests uri) all)) ≡ false
none_in_outline nests uri [] = refl
none_in_outline true uri (symbol ∷ all) = none_in_outline true uri all
none_in_outline false uri (symbol ∷ all) = none_in_outline false uri all

none_in_definition : (uri : List ℕ) (found : Option Range) → has_float (definition_data uri found) ≡ false
none_in_definition uri None = refl
none_in_definition uri (Some range) = refl

none_in_references : (uri : List ℕ) (ranges : List Range) → items_have_float (items_of (map (location_data uri) ranges)) ≡ false
none_in_references uri [] = refl
none_in_references uri (range ∷ ranges) = none_in_references uri ranges

none_in_highlights : (ranges : List Range) → items_have_float (items_of (map highlight_data ranges)) ≡ false
none_in_highlights [] = refl
none_in_highlights (range ∷ ranges) = none_in_highlights ranges

none_in_layout : (edit : Option LayoutSeen) → has_float (layout_data edit) ≡ false
none_in_layout None = refl
none_in_layout (Some edit) = refl

none_in_folding : (first last : ℕ) (is_comment : Bool) → has_float (folding_data first last is_comment) ≡ false
none_in_folding first last true = refl
none_in_folding first last false = refl

none_in_folds : (all : List Fold) → items_have_float (items_of (map fold_data all)) ≡ false
none_in_folds [] = refl
none_in_folds (fold ∷ all) = rw (none_in_folding fold.first fold.last fold.is_comment) (none_in_folds all)

none_in_described : (obsolete : Bool) (range : Range) (cap : Capability) → has_float (described_item obsolete range cap) ≡ false
none_in_described true range cap = refl
none_in_described false range cap = refl

none_in_users : (range : Range) (all : List UserDescribed) → items_have_float (items_of (map (user_item range) all)) ≡ false
none_in_users range [] = refl
none_in_users range (said ∷ all) = none_in_users range all

none_in_user_items : (capabilities : Capabilities) (range : Range) → items_have_float (items_of (user_items capabilities range)) ≡ false
none_in_user_items Profile range = refl
none_in_user_items UserDefined range = none_in_users range user_descriptions

-- nor in the items of capabilities before others that have none
none_in_capabilities : (range : Range) (caps : List Capability) (rest : List Data) → items_have_float (items_of rest) ≡ false
    → items_have_float (items_of (map (capability_item range) caps ++ rest)) ≡ false
none_in_capabilities range [] rest none = none
none_in_capabilities range (cap ∷ caps) rest none = rw (none_in_described (is_obsolete (name_of cap)) range cap) (none_in_capabilities range caps rest none)

-- nor in the items of names before others that have none
none_in_names : (range : Range) (names : List (List ℕ)) (rest : List Data) → items_have_float (items_of rest) ≡ false
    → items_have_float (items_of (map (entry_item range) names ++ rest)) ≡ false
none_in_names range [] rest none = none
none_in_names range (name ∷ names) rest none = none_in_names range names rest none

none_in_installed : (blocks : List (List ℕ)) (typed : List ℕ) (range : Range) (names : List (List ℕ))
    → items_have_float (items_of (flat_map (if_offered blocks typed range) names)) ≡ false
none_in_installed blocks typed range [] = refl
none_in_installed blocks typed range (name ∷ names) =
    let rest = flat_map (if_offered blocks typed range) names in
    elim (is_offered blocks typed name) as (λ b. items_have_float (items_of (cond b (installed_item range name ∷ []) [] ++ rest)) ≡ false) [
      | true ↦ none_in_installed blocks typed range names
      | false ↦ none_in_installed blocks typed range names
    ]

none_in_installed_items : (capabilities : Capabilities) (installed : List (List ℕ)) (text : List ℕ) (range : Range)
    → items_have_float (items_of (installed_items capabilities installed text range)) ≡ false
none_in_installed_items Profile installed text range = refl
none_in_installed_items UserDefined installed text range = none_in_installed (held text) (typed_in text range) range installed

none_in_offers : (capabilities : Capabilities) (installed : List (List ℕ)) (text : List ℕ) (range : Range) (offers : OffersSeen)
    → items_have_float (items_of (offered_items capabilities installed text range offers)) ≡ false
none_in_offers capabilities installed text range offers_capabilities =
    none_in_capabilities range all_capabilities (user_items capabilities range) (none_in_user_items capabilities range)
none_in_offers capabilities installed text range (offers_names names) =
    none_in_names range names (installed_items capabilities installed text range) (none_in_installed_items capabilities installed text range)

none_in_completion : (capabilities : Capabilities) (installed : List (List ℕ)) (text : List ℕ) (found : Option CompletionSeen)
    → has_float (completion_data capabilities installed text found) ≡ false
none_in_completion capabilities installed text None = refl
none_in_completion capabilities installed text (Some found) = rw (none_in_offers capabilities installed text found.range found.offers) refl

none_in_hover : (capabilities : Capabilities) (installed : List (List ℕ)) (shown : Option HoverSeen) (said : List ℕ)
    → has_float (hover_shown capabilities installed shown said) ≡ false
none_in_hover capabilities installed None said = refl
none_in_hover capabilities installed (Some shown) said = refl

none_in_parameters : (parts : List (List ℕ)) → items_have_float (items_of (map (λ part. parameter_data (trim_start part)) parts)) ≡ false
none_in_parameters [] = refl
none_in_parameters (part ∷ parts) = none_in_parameters parts

none_in_help : (label : List ℕ) (parameters : Items) (active : Option ℕ) → items_have_float parameters ≡ false
    → has_float (signature_help_data label parameters active) ≡ false
none_in_help label parameters None none = rw none refl
none_in_help label parameters (Some active) none = rw none refl

none_in_signature : (found : Option SignatureSeen) → has_float (signature_shown found) ≡ false
none_in_signature None = refl
none_in_signature (Some found) =
    none_in_help (label_of found.name found.parameters) (items_of (parameters_shown found.parameters)) found.active
    (none_in_parameters (slice_split (λ byte. byte == ascii.comma) found.parameters))

none_in_edits : (edits : List RenameSeen) → items_have_float (items_of (map edit_data edits)) ≡ false
none_in_edits [] = refl
none_in_edits (edit ∷ edits) = none_in_edits edits

none_in_renaming : (uri : List ℕ) (renaming : RenamingSeen) → SaidHasNoFloat (renamed_said uri renaming)
none_in_renaming uri renames_nothing = refl
none_in_renaming uri (refuses failure) = tt
none_in_renaming uri (renames edits) = rw (none_in_edits edits) refl

none_in_renamable : (found : Option Range) → has_float (renamable_data found) ≡ false
none_in_renamable None = refl
none_in_renamable (Some range) = refl

none_in_action : (uri title : List ℕ) (range : Range) (text : List ℕ) (is_preferred : Bool) (diagnostics : Items) → items_have_float diagnostics ≡ false
    → has_float (action_data uri title range text is_preferred diagnostics) ≡ false
none_in_action uri title range text true diagnostics none = rw none refl
none_in_action uri title range text false diagnostics none = rw none refl

none_in_hint_fixes : (uri : List ℕ) (some : List HintFix) → items_have_float (items_of (map (hint_fix_shown uri) some)) ≡ false
none_in_hint_fixes uri [] = refl
none_in_hint_fixes uri (fix ∷ some) = none_in_hint_fixes uri some

-- fixes and what comes after them
none_in_fixes : (capabilities : Capabilities) (installed : List (List ℕ)) (text uri : List ℕ) (all : List Shown) (some : List FixSeen) (more : List Data)
    → items_have_float (items_of more) ≡ false
    → items_have_float (items_of (fixes_shown capabilities installed text uri all some ++ more)) ≡ false
none_in_fixes capabilities installed text uri all [] more none = none
none_in_fixes capabilities installed text uri all (fix ∷ some) more none =
    let rest = fixes_shown capabilities installed text uri all some in
    let shown = fix_shown text uri all fix in
    elim (is_offered_fix capabilities installed fix.advice) as (λ b. items_have_float (items_of ((cond b (shown ∷ []) [] ++ rest) ++ more)) ≡ false) [
      | true ↦ rw (none_in_action uri (advice_title fix.advice fix.text) fix.range fix.text (is_certain fix.advice) (resolved_shown text all fix)
          (none_in (resolved_by text fix all))) (none_in_fixes capabilities installed text uri all some more none)
      | false ↦ none_in_fixes capabilities installed text uri all some more none
    ]

none_in_wanted : (capabilities : Capabilities) (hints : Bool) (installed : List (List ℕ)) (text uri : List ℕ) (range : Range) (wanted : Bool)
    → has_float (fixes_data capabilities hints installed text uri range wanted) ≡ false
none_in_wanted capabilities hints installed text uri range true =
    none_in_fixes capabilities installed text uri (diagnostics_by capabilities text) (fixes_of capabilities text range)
    (map (hint_fix_shown uri) (hint_fixes_if hints text range)) (none_in_hint_fixes uri (hint_fixes_if hints text range))
none_in_wanted capabilities hints installed text uri range false = refl

answers_have_no_floats : (installed : List (List ℕ)) (client : Client) (text uri : List ℕ) (query : Query)
    → SaidHasNoFloat (answer_of installed client text uri query)
answers_have_no_floats installed client text uri (completion place) = none_in_completion (capabilities_of client) installed text (completion_of text place)
answers_have_no_floats installed client text uri (hover place) =
    none_in_hover (capabilities_of client) installed (hover_of (capabilities_of client) text place) (explanation_of text place)
answers_have_no_floats installed client text uri (signature place) = none_in_signature (signature_of text place)
answers_have_no_floats installed client text uri (definition place) = none_in_definition uri (definition_of text place)
answers_have_no_floats installed client text uri (references place with_declaration) = none_in_references uri (references_of text place with_declaration)
answers_have_no_floats installed client text uri symbols = none_in_outline client.nests_symbols uri (symbols_of text)
answers_have_no_floats installed client text uri (highlights place) = none_in_highlights (references_of text place true)
answers_have_no_floats installed client text uri folding = none_in_folds (folds_of text)
answers_have_no_floats installed client text uri formatting = none_in_layout (layout_of text)
answers_have_no_floats installed client text uri (range_formatting range) = none_in_layout (layout_in text range)
answers_have_no_floats installed client text uri (rename place name) = none_in_renaming uri (renaming_of text place name)
answers_have_no_floats installed client text uri (prepare_rename place) = none_in_renamable (renamable_at text place)
answers_have_no_floats installed client text uri (fixes range wanted) = none_in_wanted (capabilities_of client) client.hints installed text uri range wanted

none_in_found : (uri held : List ℕ) (all : List SymbolSeen) → items_have_float (items_of (symbols_found uri held all)) ≡ false
none_in_found uri held [] = refl
none_in_found uri held (symbol ∷ all) =
    elim (holds held symbol.name) as (λ b. items_have_float (items_of (cond b (symbol_information_data uri symbol.name symbol.range ∷ []) [] ++ symbols_found uri held all)) ≡ false) [
      | true ↦ none_in_found uri held all
      | false ↦ none_in_found uri held all
    ]

pub sayings_have_no_floats : (installed : List (List ℕ)) → HasNoFloats (sayings installed)
sayings_have_no_floats installed = record {
  diagnostics = shown_have_no_floats installed;
  answers = answers_have_no_floats installed;
  symbols = λ text uri held. none_in_found uri held (symbols_of text);
}
