-- An item of a name that no capability has, with a name that one has.
use Rattle.std.proofs.Common.{◌≡◌, ℕ, suc, ◌<◌, ◌==◌, ◌&&◌, not, All, Bool, true, false, Contains, List, [], ◌∷◌, ◌++◌, Some, append_assoc, get_or, map}
use Rattle.std.proofs.Common.{refl, sym, ap, subst, inl, inr, arith, ◌∙◌}
use Rattle.std.specs.List.{list_all}
use Rattle.std.specs.Str.{bytes_eq}
use Rattle.std.proofs.lemmas.Bool.{and_parts, cases_Bool, eqb-true, not-true}
use Rattle.std.proofs.lemmas.List.{get_or_default}
use Rattle.std.proofs.lemmas.List.Elements.{All-append, All-contains, All-filter, All-map, All-take}
use Rattle.std.proofs.lemmas.List.Sums.{AllPass-from_list_all}
use Rattle.std.proofs.lemmas.Slice.Eq.{bytes_eq-Decides}
use Rattle.ti_text.specs.Texts.{last_byte}
use Rattle.ti_caps.specs.Names.{flag_names, number_names, text_names}
use Rattle.ti_caps.specs.Tables.{Capability, capability, capability_named, count_of, name_of, names}
use Rattle.ti_caps.specs.declared.capability.Kind.{Kind}
use Rattle.ti_caps.specs.declared.capability.Kind.TheVariants.{Flag, Number, Text}
use Rattle.ti_caps.proofs.Named.{every_name}
use Rattle.ti_caps.proofs.Table.{length-names}
use Rattle.ti_source.specs.Folding.{PlacedByte}
use Rattle.ti_source.specs.Items.{HasNoMark, IsEnabled, bytes, is_mark}
use Rattle.source_spans.specs.Parts.{end_of}
use Rattle.source_spans.specs.Subjects.{without_end}
use Rattle.source_spans.specs.declared.parts.Part.{Part}
use Rattle.source_edits.specs.Candidates.{all_names, names_for}
use Rattle.source_edits.specs.Edits.{EditSeen, known_names, rename, renames, renames_in}
use Rattle.source_edits.specs.Laws.{IsInOrder, IsOfCapability, NamesAreOfCapabilities, edited}
use Rattle.source_edits.specs.Nearest.{is_at, names_at, near, nearest, or_else}
use Rattle.source_edits.specs.Pieces.{written_name}
use Rattle.source_edits.specs.Shown.{shown}
use Rattle.source_edits.proofs.Exchanging.{edited_cut, front_cut, no_edit}
use Rattle.source_edits.proofs.Marks.{MarkSays, cancel_of, end_split, has_mark, has_none, mark_says, name_cut, plain_name, rest_cut}
use Rattle.source_edits.proofs.Readings.{cancel_read, flag_read, number_read, text_read}

-- ---- the names of capabilities

-- whether a name prints, has no mark, and begins with a byte that is no dot
well_named : List ℕ → Bool
well_named [] = false
well_named (x ∷ xs) = bytes_eq (shown (x ∷ xs)) (x ∷ xs) && list_all (λ b. not (is_mark b)) (x ∷ xs) && not (x == 46)

names_well : (kind : Kind) → list_all well_named (names kind) ≡ true
unfolding names flag_names number_names text_names well_named
names_well Flag = refl
names_well Number = refl
names_well Text = refl

-- what is known of the name of a capability
record IsNameOf (kinds : Kind → Type 0) (name : List ℕ) : Type 0 where
  capability : Capability
  named : capability_named name ≡ Some capability
  of_kind : kinds capability.kind
  is_shown : shown name ≡ name
  no_mark : HasNoMark name
  enabled : (rest : List ℕ) → IsEnabled (name ++ rest)

unmarked_text : (text : List ℕ) → list_all (λ b. not (is_mark b)) text ≡ true → HasNoMark text
unmarked_text [] all = tt
unmarked_text (x ∷ xs) all = let both = and_parts _ _ all in (not-true _ both.0, unmarked_text xs both.1)

name_of_kind : (kinds : Kind → Type 0) (name : List ℕ) (c : Capability) → capability_named name ≡ Some c → kinds c.kind → well_named name ≡ true
    → IsNameOf kinds name
unfolding well_named
name_of_kind kinds [] c named kind well = cc
name_of_kind kinds (x ∷ xs) c named kind well =
    let both = and_parts _ _ well in
    let first = and_parts _ _ both.0 in
    record {
      capability = c;
      named = named;
      of_kind = kind;
      is_shown = (bytes_eq-Decides (shown (x ∷ xs)) (x ∷ xs)).0 first.0;
      no_mark = unmarked_text (x ∷ xs) first.1;
      enabled = λ rest. not-true _ both.1;
    }

each_name : (kinds : Kind → Type 0) (kind : Kind) → kinds kind → All (IsNameOf kinds) (names kind)
each_name kinds kind is index d within =
    let c : Capability = capability kind index in
    let same : get_or (names kind) index d ≡ name_of c = get_or_default (names kind) index d [] within in
    let well = AllPass-from_list_all well_named (names kind) (names_well kind) index d within in
    let valid : index < count_of kind = omega (arith, within, length-names kind) in
    name_of_kind kinds (get_or (names kind) index d) c (ap capability_named same ∙ every_name c valid) is well

IsAny : Kind → Type 0
IsAny kind = Unit {0}

each_of_all : All (IsNameOf IsAny) all_names
unfolding IsAny
each_of_all =
    All-append (IsNameOf IsAny) (names Flag ++ names Number) (names Text)
    (All-append (IsNameOf IsAny) (names Flag) (names Number) (each_name IsAny Flag tt) (each_name IsAny Number tt)) (each_name IsAny Text tt)

-- ---- the nearest are among them

either : (P : List ℕ → Type 0) (first second : List (List ℕ)) → All P first → All P second → All P (or_else first second)
either P [] second p q = q
either P (name ∷ first) second p q = p

near_ones : (P : List ℕ → Type 0) (name : List ℕ) (others : List (List ℕ)) → All P others → All P (nearest name others)
near_ones P name others all =
    All-take P 3 (near name others)
    (either P (names_at 1 name others) (names_at 2 name others) (All-filter (is_at 1 name) P others all) (All-filter (is_at 2 name) P others all))

-- what holds of each name holds of each edit
pub each_edit : (P : EditSeen → Type 0) (name : List ℕ) (part : Part) (others : List (List ℕ)) (edit : EditSeen)
    → All (λ (other : List ℕ). P (rename name part other)) others
    → Contains (renames_in name others (Some part)) edit → P edit
each_edit P name part others edit all has =
    All-contains P (map (rename name part) (nearest name others)) edit
    (All-map P (rename name part) (nearest name others) (near_ones (λ (other : List ℕ). P (rename name part other)) name others all)) has

mapped_all : (P Q : List ℕ → Type 0) (xs : List (List ℕ)) → ((x : List ℕ) → P x → Q x) → All P xs → All Q xs
mapped_all P Q xs f all index d within = f (get_or xs index d) (all index d within)

-- the name is exchanged
new_name : (v : PlacedByte) (vs rest : List PlacedByte) (old name : List ℕ) → IsInOrder (v ∷ (vs ++ rest)) → shown name ≡ name
    → edited (v ∷ (vs ++ rest)) (rename old (record { start = v.1; end = end_of (suc v.1) vs }) name) ≡ name ++ bytes rest
new_name v vs rest old name order is =
    edited_cut (rename old (record { start = v.1; end = end_of (suc v.1) vs }) name) [] (v ∷ vs) rest (front_cut v vs rest order)
    ∙ ap (λ (t : List ℕ). t ++ bytes rest) is

-- what the names are that are offered, and what is read with each
renamed : (item : List PlacedByte) (kinds : Kind → Type 0) (others : List (List ℕ)) (front rest : List PlacedByte) (edit : EditSeen) → item ≡ front ++ rest
    → IsInOrder item
    → ((name : List ℕ) → IsNameOf kinds name → IsOfCapability (name ++ bytes rest)) → All (IsNameOf kinds) others
    → Contains (renames front others) edit → IsOfCapability (edited item edit)
renamed item kinds others [] rest edit is order reads all has = absurd (no_edit edit has)
renamed item kinds others (v ∷ vs) rest edit is order reads all has =
    let part : Part = record { start = v.1; end = end_of (suc v.1) vs } in
    let old = bytes (v ∷ vs) in
    each_edit (λ e. IsOfCapability (edited item e)) old part others edit
    (mapped_all (IsNameOf kinds) (λ name. IsOfCapability (edited item (rename old part name))) others
    (λ name known. subst IsOfCapability
    (sym (ap (λ (i : List PlacedByte). edited i (rename old part name)) is ∙ new_name v vs rest old name (subst IsInOrder is order) known.is_shown))
    (reads name known)) all) has

-- ---- an item with a mark

Is : Kind → Kind → Type 0
Is kind other = other ≡ kind

marked : (mark : PlacedByte) (name value : List PlacedByte) (edit : EditSeen) → IsInOrder (name ++ mark ∷ value) → is_mark mark.0 ≡ true
    → Contains (renames name (names_for (mark ∷ without_end value))) edit → IsOfCapability (edited (name ++ mark ∷ value) edit)
unfolding Is
marked mark name value edit order is has =
    elim (cases_Bool (mark.0 == 35)) [
      | inl t ↦
          let number : mark.0 ≡ 35 = eqb-true mark.0 35 t in
          renamed (name ++ mark ∷ value) (Is Number) (names Number) name (mark ∷ value) edit refl order
          (λ n known. subst (λ (b : ℕ). IsOfCapability (n ++ b ∷ bytes value)) (sym number)
          (number_read n (bytes value) known.capability known.no_mark (known.enabled (35 ∷ bytes value)) known.named known.of_kind))
          (each_name (Is Number) Number refl) (rw t at has)
      | inr f ↦
          let text : mark.0 ≡ 61 = eqb-true mark.0 61 (rw f at is) in
          renamed (name ++ mark ∷ value) (Is Text) (names Text) name (mark ∷ value) edit refl order
          (λ n known. subst (λ (b : ℕ). IsOfCapability (n ++ b ∷ bytes value)) (sym text)
          (text_read n (bytes value) known.capability known.no_mark (known.enabled (61 ∷ bytes value)) known.named known.of_kind))
          (each_name (Is Text) Text refl) (rw (f, text) at has)
    ]

-- ---- an item with none

unmarked : (item : List PlacedByte) (edit : EditSeen) → HasNoMark (bytes item) → IsInOrder item → Contains (known_names item) edit
    → IsOfCapability (edited item edit)
unfolding Is
unmarked item edit none order has =
    let ends = end_split item in
    let Has : List PlacedByte → List PlacedByte → Type 0 = λ n rest. Contains (renames n (names_for rest)) edit in
    elim (cases_Bool (last_byte 0 (bytes (without_end item)) == 64)) [
      | inl t ↦
          let found = cancel_of item none t in
          let front = found.0 in
          let sign = found.1 in
          let cancel = found.2 in
          let whole : item ≡ front ++ (sign ∷ ends.0) =
          ends.1 ∙ ap (λ (s : List PlacedByte). s ++ ends.0) cancel.whole ∙ append_assoc front (sign ∷ []) ends.0 in
          let there : Has front (sign ∷ []) = subst (λ n. Has n (sign ∷ [])) cancel.name (subst (λ rest. Has (written_name item) rest) cancel.rest has) in
          renamed item IsAny all_names front (sign ∷ ends.0) edit whole order
          (λ n known. subst (λ (b : ℕ). IsOfCapability (n ++ b ∷ bytes ends.0)) (sym cancel.is_sign)
          (cancel_read n (bytes ends.0) known.capability known.no_mark ends.2 (known.enabled (64 ∷ bytes ends.0)) known.named))
          each_of_all (rw cancel.is_sign at there)
      | inr f ↦
          let plain = plain_name item none f in
          let there : Has (without_end item) [] = subst (λ n. Has n []) plain.0 (subst (λ rest. Has (written_name item) rest) plain.1 has) in
          renamed item (Is Flag) (names Flag) (without_end item) ends.0 edit ends.1 order
          (λ n known. flag_read n (bytes ends.0) known.capability known.no_mark ends.2 (known.enabled (bytes ends.0)) known.named known.of_kind)
          (each_name (Is Flag) Flag refl) there
    ]

-- ---- each item

by_marks : (item : List PlacedByte) (edit : EditSeen) → MarkSays item → IsInOrder item → Contains (known_names item) edit → IsOfCapability (edited item edit)
by_marks _ edit (has_mark name value mark none is) order has =
    let Has : List PlacedByte → List PlacedByte → Type 0 = λ n rest. Contains (renames n (names_for rest)) edit in
    let item = name ++ mark ∷ value in
    let there : Has name (mark ∷ without_end value) =
    subst (λ n. Has n (mark ∷ without_end value)) (name_cut name value mark none is)
    (subst (λ rest. Has (written_name item) rest) (rest_cut name value mark none is) has) in
    marked mark name value edit order is there
by_marks _ edit (has_none item none) order has = unmarked item edit none order has

pub names_fit : NamesAreOfCapabilities
names_fit item edit order has = by_marks item edit (mark_says item) order has
