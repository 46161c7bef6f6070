-- An item with a user-defined name that is not known has a known one in its place.
use Rattle.std.proofs.Common.{◌≡◌, ℕ, All, Bool, true, Contains, List, [], ◌∷◌, ◌++◌, Option, None, Some, append_assoc, cond, false, get_or, map, slice_get}
use Rattle.std.proofs.Common.{inr, refl, ap, subst, suc, ◌∙◌}
use Rattle.std.specs.Fmt.{digits}
use Rattle.std.specs.List.{find, list_all}
use Rattle.std.specs.Option.{is_some, option_or}
use Rattle.std.proofs.lemmas.List.{map-append}
use Rattle.std.proofs.lemmas.List.Elements.{All-cons, All-nil}
use Rattle.std.proofs.lemmas.List.Folds.{find-append}
use Rattle.std.proofs.lemmas.List.Sums.{AllPass-from_list_all}
use Rattle.std.proofs.lemmas.Slice.Eq.{bytes_eq-Decides}
use Rattle.ti_source.specs.Cutting.{OneBlock}
use Rattle.ti_source.specs.Folding.{PlacedByte}
use Rattle.ti_source.specs.Items.{bytes}
use Rattle.source_descriptions.specs.UserDescriptions.{UserDescribed, described_rows, function_keys, has_name, modified_keys, modifiers, shifted_keys}
use Rattle.source_descriptions.specs.UserDescriptions.{user_described, user_descriptions}
use Rattle.source_hints.specs.Unknown.{is_unknown_name}
use Rattle.source_spans.specs.Folding.{folded_of}
use Rattle.source_spans.specs.Parts.{end_of}
use Rattle.source_spans.specs.Subjects.{items_of}
use Rattle.source_spans.specs.declared.parts.Part.{Part}
use Rattle.source_edits.specs.Edits.{EditSeen, renames}
use Rattle.source_edits.specs.Pieces.{written_name}
use Rattle.source_edits.proofs.Exchanging.{no_edit}
use Rattle.source_edits.proofs.NamesFit.{each_edit}
use Rattle.source_fixes.specs.Healing.{GetsKnownName, Stays, block_after}
use Rattle.source_fixes.specs.UserNames.{user_names, user_renames}
use Rattle.source_fixes.proofs.Changing.{item_changes, text_there}
use Rattle.source_fixes.proofs.Fitting.{Fits}
use Rattle.source_fixes.proofs.ItemParts.{replaced_part}
use Rattle.source_fixes.proofs.NamesHeal.{item_named, name_replaces}
use Rattle.source_fixes.proofs.Putting.{IsPut, put_of, renamed_at, well_put}

-- ---- the names that are known

well_names : list_all well_put user_names ≡ true
unfolding well_put described_rows modified_keys modifiers shifted_keys function_keys digits
well_names = refl

user_put : All IsPut user_names
user_put index d within = put_of (get_or user_names index d) (AllPass-from_list_all well_put user_names well_names index d within)

-- one of some descriptions has a name
Finds : List UserDescribed → List ℕ → Type 0
Finds all name = is_some (find (has_name name) all) ≡ true

name_in : UserDescribed → List ℕ
name_in said = said.name

found_then : (o : Option UserDescribed) (x : UserDescribed) → is_some (option_or o (Some x)) ≡ true
found_then None x = refl
found_then (Some y) x = refl

found_there : (before : List UserDescribed) (x : UserDescribed) (xs : List UserDescribed) → Finds (before ++ x ∷ xs) x.name
unfolding Finds
found_there before x xs =
    let p = has_name x.name in
    let is : p x ≡ true = (bytes_eq-Decides x.name x.name).1 refl in
    ap (λ (o : Option UserDescribed). is_some o) (find-append p before (x ∷ xs)
    ∙ ap (λ (b : Bool). option_or (find p before) (cond b (Some x) (find p xs))) is) ∙ found_then (find p before) x

each_found : (before xs : List UserDescribed) → All (Finds (before ++ xs)) (map name_in xs)
unfolding name_in
each_found before [] = All-nil (Finds (before ++ []))
each_found before (x ∷ xs) =
    All-cons (Finds (before ++ x ∷ xs)) x.name (map name_in xs) (found_there before x xs)
    (subst (λ (all : List UserDescribed). All (Finds all) (map name_in xs)) (append_assoc before (x ∷ []) xs) (each_found (before ++ x ∷ []) xs))

each_known : All (λ name. is_some (user_described name) ≡ true) user_names
unfolding Finds name_in
each_known = each_found [] user_descriptions

-- ---- one of them in place of another name

known_put : (name : List PlacedByte) (edit : EditSeen) → Contains (renames name user_names) edit → is_some (user_described edit.text) ≡ true
known_put [] edit has = absurd (no_edit edit has)
known_put (v ∷ vs) edit has =
    let part : Part = record { start = v.1; end = end_of (suc v.1) vs } in
    each_edit (λ e. is_some (user_described e.text) ≡ true) (bytes (v ∷ vs)) part user_names edit
    (λ index d within.
    let put = user_put index d within in
    ap (λ (t : List ℕ). is_some (user_described t)) put.is_shown ∙ each_known index d within) has

gets_known : (block : List ℕ) (ordinal : ℕ) (item : List PlacedByte) (edit : EditSeen) → OneBlock block
    → slice_get (items_of (folded_of block)) ordinal ≡ Some item → is_unknown_name (bytes (written_name item)) ≡ true
    → Contains (renames (written_name item) user_names) edit
    → GetsKnownName block (block_after block edit) ordinal × Stays block edit × Fits item edit
gets_known block ordinal item edit single there unknown has =
    let is = item_named item in
    let text = edit.text ++ bytes is.rest in
    let replaces = name_replaces block ordinal item user_names edit there is user_put has in
    let whole : bytes item ≡ bytes (written_name item) ++ bytes is.rest =
    ap bytes is.whole ∙ map-append (λ (x : PlacedByte). x.0) (written_name item) is.rest in (
      record {
        name = bytes (written_name item);
        other = edit.text;
        rest = bytes is.rest;
        had = text_there block ordinal item there ∙ ap (λ (t : List ℕ). Some t) whole;
        unknown = unknown;
        known = known_put (written_name item) edit has;
        changes = item_changes block ordinal item edit.part edit.text text single there replaces;
      },
      replaced_part block ordinal item edit.part edit.text text single there replaces,
      record { printed = (renamed_at (written_name item) user_names edit user_put has).put.is_shown; how = inr (text, replaces) },
    )

renamed_if : (unknown : Bool) (edits : List EditSeen) (edit : EditSeen) → Contains (cond unknown edits []) edit → (unknown ≡ true) × Contains edits edit
renamed_if true edits edit has = (refl, has)
renamed_if false edits edit has = absurd (no_edit edit has)

pub user_names_mend : (block : List ℕ) (ordinal : ℕ) (item : List PlacedByte) (edit : EditSeen) → OneBlock block
    → slice_get (items_of (folded_of block)) ordinal ≡ Some item → Contains (user_renames item) edit
    → GetsKnownName block (block_after block edit) ordinal × Stays block edit × Fits item edit
user_names_mend block ordinal item edit single there has =
    let if_unknown = renamed_if (is_unknown_name (bytes (written_name item))) (renames (written_name item) user_names) edit has in
    gets_known block ordinal item edit single there if_unknown.0 if_unknown.1
