-- The names of capabilities are plain.
use Rattle.std.proofs.Common.{◌≡◌, ◌≢◌, ℕ, suc, ◌==◌, ◌&&◌, not, if◌then◌else◌, All, Bool, true, false, Contains, List, [], ◌∷◌, ◌++◌, Option, Some}
use Rattle.std.proofs.Common.{MatchOption, get_or, refl, sym, subst, arith}
use Rattle.std.specs.List.{list_all}
use Rattle.std.specs.Str.{bytes_eq}
use Rattle.std.proofs.lemmas.Bool.{and_parts, not-true}
use Rattle.std.proofs.lemmas.List.Elements.{All-append}
use Rattle.std.proofs.lemmas.List.Sums.{AllPass-from_list_all}
use Rattle.std.proofs.lemmas.Slice.Eq.{bytes_eq-Decides}
use Rattle.ti_text.specs.WhiteSpace.{is_white_space}
use Rattle.ti_caps.specs.Names.{flag_names, number_names, text_names}
use Rattle.ti_caps.specs.Tables.{Capability, IsCapability, capability_named, name_of, names}
use Rattle.ti_caps.specs.declared.capability.Kind.{Kind}
use Rattle.ti_caps.specs.declared.capability.Kind.TheVariants.{Flag, Number, Text}
use Rattle.ti_caps.proofs.Named.{named_says}
use Rattle.ti_caps.proofs.Table.{length-names}
use Rattle.ti_source.specs.Folding.{PlacedByte}
use Rattle.ti_source.specs.Items.{bytes}
use Rattle.source_spans.specs.Parts.{end_of, spanned}
use Rattle.source_spans.specs.Replacing.{BeginsVisible, IsPlain, is_plain}
use Rattle.source_spans.specs.declared.parts.Part.{Part}
use Rattle.source_edits.specs.Candidates.{all_names, names_for}
use Rattle.source_edits.specs.Edits.{EditSeen, renames}
use Rattle.source_edits.specs.Shown.{shown}
use Rattle.source_edits.proofs.Exchanging.{no_edit}
use Rattle.source_edits.proofs.NamesFit.{each_edit}

-- whether a name has plain bytes alone, begins with no white space, and is shown as it is
unfoldable pub well_put : List ℕ → Bool
well_put [] = false
well_put (x ∷ xs) = bytes_eq (shown (x ∷ xs)) (x ∷ xs) && list_all is_plain (x ∷ xs) && not (is_white_space x)

names_put : (kind : Kind) → list_all well_put (names kind) ≡ true
unfolding names flag_names number_names text_names well_put
names_put Flag = refl
names_put Number = refl
names_put Text = refl

-- what is known of such a name
pub record IsPut (name : List ℕ) : Type 0 where
  pub plain : IsPlain name
  pub visible : BeginsVisible name
  pub is_shown : shown name ≡ name

all_plain : (text : List ℕ) → list_all is_plain text ≡ true → IsPlain text
all_plain [] all = tt
all_plain (x ∷ xs) all = let both = and_parts _ _ all in (both.0, all_plain xs both.1)

pub put_of : (name : List ℕ) → well_put name ≡ true → IsPut name
unfolding well_put
put_of [] well = cc
put_of (x ∷ xs) well =
    let both = and_parts _ _ well in
    let first = and_parts _ _ both.0 in
    record { plain = all_plain (x ∷ xs) first.1; visible = not-true _ both.1; is_shown = (bytes_eq-Decides (shown (x ∷ xs)) (x ∷ xs)).0 first.0 }

each_put : (kind : Kind) → All IsPut (names kind)
each_put kind index d within = put_of (get_or (names kind) index d) (AllPass-from_list_all well_put (names kind) (names_put kind) index d within)

-- the name of a capability
pub capability_put : (name : List ℕ) (c : Capability) → capability_named name ≡ Some c → IsPut name
capability_put name c named =
    let says : IsCapability c × (name_of c ≡ name) =
    subst (λ (o : Option Capability). MatchOption o ((d : Capability) → IsCapability d → name_of d ≢ name) (λ d. IsCapability d × (name_of d ≡ name)))
    named (named_says name) in
    let within = says.0 in
    subst IsPut says.1 (each_put c.kind c.index [] (omega (arith, within, length-names c.kind)))

-- the names that an item may have
pub each_for : (rest : List PlacedByte) → All IsPut (names_for rest)
each_for [] = each_put Flag
each_for (x ∷ rest) = by_sign (x.0 == 35) (x.0 == 61)
  where
    by_sign : (number text : Bool) → All IsPut (if number then names Number else if text then names Text else all_names)
    by_sign true text = each_put Number
    by_sign false true = each_put Text
    by_sign false false = All-append IsPut (names Flag ++ names Number) (names Text)
        (All-append IsPut (names Flag) (names Number) (each_put Flag) (each_put Number)) (each_put Text)

-- ---- a name in the place of another

pub record IsPutAt (name : List PlacedByte) (edit : EditSeen) : Type 0 where
  pub there : spanned name ≡ Some edit.part
  pub put : IsPut edit.text

pub renamed_at : (name : List PlacedByte) (others : List (List ℕ)) (edit : EditSeen) → All IsPut others → Contains (renames name others) edit
    → IsPutAt name edit
renamed_at [] others edit all has = absurd (no_edit edit has)
renamed_at (v ∷ vs) others edit all has =
    let part : Part = record { start = v.1; end = end_of (suc v.1) vs } in
    each_edit (IsPutAt (v ∷ vs)) (bytes (v ∷ vs)) part others edit
    (λ index d within. let put = all index d within in record { there = refl; put = subst IsPut (sym put.is_shown) put }) has
