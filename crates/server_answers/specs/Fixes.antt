-- What is offered against a fault, as the server says it (own; LSP 3.17, "Code Action Request").
use Rattle.std.specs.Prelude.{ℕ, Bool, true, false, not, List, [], ◌∷◌, ◌++◌, codes, map, if◌then◌else◌}
use Rattle.std.specs.List.{flat_map}
use Rattle.serde_json.specs.Data.{Data, Items, array}
use Rattle.serde_json.specs.View.{items_of}
use Rattle.ti_caps.specs.declared.capability.Kind.{Kind}
use Rattle.ti_caps.specs.declared.capability.Kind.TheVariants.{Flag, Number, Text}
use Rattle.lsp_values.specs.Shapes.{action_data}
use Rattle.source_edits.specs.Edits.{AdviceSeen, advises_name, advises_sign, advises_spelling, advises_caret, is_certain}
use Rattle.source_document.specs.Diagnostics.{Shown, diagnostics_by}
use Rattle.source_diagnostics.specs.declared.capabilities.Capabilities.{Capabilities}
use Rattle.source_diagnostics.specs.declared.capabilities.Capabilities.TheVariants.{UserDefined}
use Rattle.source_installed.specs.Names.{is_among}
use Rattle.source_fixes.specs.Fixes.{FixSeen, fixes_of}
use Rattle.source_fixes.specs.HintFixes.{hint_fixes_of}
use Rattle.source_fixes.specs.Resolving.{resolved_by}
use Rattle.source_fixes.specs.declared.hint_fixes.HintFix.{HintFix}
use Rattle.source_block_hints.specs.declared.hint.HintKind.{HintKind}
use Rattle.source_block_hints.specs.declared.hint.HintKind.TheVariants.{ItemsInHead}
use Rattle.source_types.specs.declared.places.Range.{Range}
use Rattle.server_answers.specs.Shown.{shown_data}

-- the title of a fix that writes the sign of a kind
abbrev pub sign_title : Kind → List ℕ
sign_title Flag = codes "Remove the sign"
sign_title Number = codes "Write `#` before the number"
sign_title Text = codes "Write `=` before the string"

-- the title of a fix, by which this text is written
abbrev pub advice_title : AdviceSeen → List ℕ → List ℕ
advice_title (advises_name name other) text = codes "Replace `" ++ (name ++ (codes "` with `" ++ (other ++ codes "`")))
advice_title (advises_sign kind) text = sign_title kind
advice_title advises_spelling text = codes "Rewrite the string as it is read"
advice_title advises_caret text = codes "Write `" ++ text ++ codes "` at the end"

-- those of the diagnostics of a text that a fix resolves, as they are published
abbrev pub resolved_shown : List ℕ → List Shown → FixSeen → Items
resolved_shown text all fix = items_of (map shown_data (resolved_by text fix all))

-- a fix of a text, which is that of the document of that URI and has these diagnostics; an editor may
-- prefer one that is certain
abbrev pub fix_shown : List ℕ → List ℕ → List Shown → FixSeen → Data
fix_shown text uri all fix =
    action_data uri (advice_title fix.advice fix.text) fix.range fix.text (is_certain fix.advice) (resolved_shown text all fix)

-- whether a fix is offered in a source that may have these capabilities, where these names are
-- installed: not in place of a name that is installed
abbrev pub is_offered : Capabilities → List (List ℕ) → AdviceSeen → Bool
is_offered UserDefined installed (advises_name name other) = not (is_among installed name)
is_offered _ installed _ = true

-- a fix of a text, if it is offered there
abbrev pub if_offered : Capabilities → List (List ℕ) → List ℕ → List ℕ → List Shown → FixSeen → List Data
if_offered capabilities installed text uri all fix =
    if is_offered capabilities installed fix.advice then fix_shown text uri all fix ∷ [] else []

-- those of some fixes of it that are offered
abbrev pub fixes_shown : Capabilities → List (List ℕ) → List ℕ → List ℕ → List Shown → List FixSeen → List Data
fixes_shown capabilities installed text uri all fixes = flat_map (if_offered capabilities installed text uri all) fixes

-- the title of a fix against a hint of that kind
abbrev pub hint_title : HintKind → List ℕ
hint_title ItemsInHead = codes "End the head with a comma"
hint_title _ = codes "Insert the missing comma"

-- a fix against a hint on the text of the document of that URI. It comes without the hint, and an
-- editor may not prefer it: a string may hold what looks like an item.
abbrev pub hint_fix_shown : List ℕ → HintFix → Data
hint_fix_shown uri fix = action_data uri (hint_title fix.kind) fix.range (codes ",") false (items_of [])

-- what is offered against the hints on a range of a text, if the client wants hints
abbrev pub hint_fixes_if : (hints : Bool) → List ℕ → Range → List HintFix
hint_fixes_if true text range = hint_fixes_of text range
hint_fixes_if false text range = []

-- what is offered for a range of a text that may have these capabilities, which is that of the
-- document of that URI: first against its faults, then against its hints if the client wants hints
abbrev pub all_fixes_shown : Capabilities → (hints : Bool) → List (List ℕ) → List ℕ → List ℕ → Range → List Data
all_fixes_shown capabilities hints installed text uri range =
    fixes_shown capabilities installed text uri (diagnostics_by capabilities text) (fixes_of capabilities text range)
    ++ map (hint_fix_shown uri) (hint_fixes_if hints text range)

-- the same, if fixes are asked for
abbrev pub fixes_data : Capabilities → (hints : Bool) → List (List ℕ) → List ℕ → List ℕ → Range → (wanted : Bool) → Data
fixes_data capabilities hints installed text uri range wanted =
    array (items_of (if wanted then all_fixes_shown capabilities hints installed text uri range else []))
