-- The uses that are seen in a block are among its items as they are read.
use Rattle.std.proofs.Common.{◌≡◌, ℕ, zero, suc, ◌==◌, ◌||◌, Bool, true, false, cond, List, [], ◌∷◌, ◌++◌, drop, filter, length, map, slice_get}
use Rattle.std.proofs.Common.{Option, None, Some, codes, inl, inr, refl, sym, ap, ap₂, ◌∙◌}
use Rattle.std.specs.List.{find, flat_map, list_all}
use Rattle.std.specs.Option.{option_map}
use Rattle.std.proofs.lemmas.Bool.{and_parts, cases_Bool, eqb-true}
use Rattle.std.proofs.lemmas.List.Elements.{filter-append}
use Rattle.std.proofs.lemmas.Option.{cond_some, slice_get-map}
use Rattle.ti_text.specs.WhiteSpace.{is_white_space}
use Rattle.ti_spelling.specs.WhiteSpace.{without_trailing_space}
use Rattle.ti_source.specs.Folding.{PlacedByte}
use Rattle.ti_source.specs.Items.{bytes, claims_text, text_item, without_front, without_outer_space, without_white_front}
use Rattle.ti_source.specs.Parsing.{reading_of_text}
use Rattle.ti_source.specs.Reading.{ReadItem, Said, said_import}
use Rattle.ti_source.specs.Verdicts.{accepted}
use Rattle.ti_source.proofs.JudgingLaws.{judged_import}
use Rattle.base_meaning.specs.Reaching as reaching
use Rattle.base_meaning.specs.Reaching.{any_use, use_passes}
use Rattle.source_spans.specs.Folding.{folded_of}
use Rattle.source_spans.specs.Ordinals.{IsTextOf}
use Rattle.source_spans.specs.Parts.{spanned}
use Rattle.source_spans.specs.Subjects.{UseSeen, begins_with, items_of, use_at, use_in, used_name, uses_of, without_end}
use Rattle.source_spans.specs.declared.parts.Part.{Part}
use Rattle.source_spans.proofs.Ordinals.{sayings_are_read}

-- ---- the bytes of a used name

front_bytes : (text : List PlacedByte) → bytes (without_front text) ≡ without_white_front (bytes text)
front_bytes [] = refl
front_bytes (x ∷ xs) =
    elim (cases_Bool (is_white_space x.0)) [ inl t ↦ rw t (front_bytes xs) | inr f ↦ rw f refl ]

end_bytes : (text : List PlacedByte) → bytes (without_end text) ≡ without_trailing_space (bytes text)
end_bytes [] = refl
end_bytes (x ∷ xs) =
    elim (list_all is_white_space (bytes (x ∷ xs))) as (λ b. bytes (cond b [] (x ∷ without_end xs)) ≡ cond b [] (x.0 ∷ without_trailing_space (bytes xs))) [
      | true ↦ refl
      | false ↦ ap (λ (t : List ℕ). x.0 ∷ t) (end_bytes xs)
    ]

used_bytes : (value : List PlacedByte) → bytes (without_end (without_front value)) ≡ without_outer_space (bytes value)
used_bytes value = end_bytes (without_front value) ∙ ap without_trailing_space (front_bytes value)

begins_is : (word : List ℕ) (item : List PlacedByte) → begins_with word item ≡ true → bytes item ≡ word ++ bytes (drop (length word) item)
begins_is [] item e = refl
begins_is (b ∷ bs) [] e = cc
begins_is (b ∷ bs) (x ∷ xs) e = let both = and_parts _ _ e in ap₂ (λ (n : ℕ) (t : List ℕ). n ∷ t) (eqb-true x.0 b both.0) (begins_is bs xs both.1)

-- ---- what is read of an item that is a use

use_says : (value : List ℕ) → IsTextOf (codes "use=" ++ value) (said_import (without_outer_space value))
use_says value = record {
  statement = record { name = codes "use"; claim = claims_text value };
  verdict = accepted (said_import (without_outer_space value));
  states = text_item (codes "use") value (refl, (refl, (refl, tt))) refl;
  judges = judged_import (codes "use") value refl;
  accepts = refl;
}

abbrev said_in : ℕ → List ReadItem → Option Said
said_in ordinal items = option_map (λ (item : ReadItem). item.said) (find (λ (item : ReadItem). item.ordinal == ordinal) items)

use_is_read : (block : List ℕ) (ordinal : ℕ) (item name : List PlacedByte) → slice_get (items_of (folded_of block)) ordinal ≡ Some item
    → used_name item ≡ Some name → said_in ordinal (reading_of_text block).items ≡ Some (said_import (bytes name))
use_is_read block ordinal item name there e =
    let value = drop 4 item in
    let is = cond_some (begins_with (codes "use=") item) (without_end (without_front value)) name e in
    let text : bytes item ≡ codes "use=" ++ bytes value = begins_is (codes "use=") item is.0 in
    let got : slice_get (map bytes (items_of (folded_of block))) ordinal ≡ Some (codes "use=" ++ bytes value) =
    slice_get-map bytes (items_of (folded_of block)) ordinal ∙ ap (option_map bytes) there ∙ ap (λ (t : List ℕ). Some t) text in
    sayings_are_read block ordinal (codes "use=" ++ bytes value) (said_import (without_outer_space (bytes value))) got (use_says (bytes value))
    ∙ ap (λ (n : List ℕ). Some (said_import n)) (sym (used_bytes value) ∙ ap bytes is.1)

-- ---- a test that no used name passes

or_none : (a b : Bool) → (a || b) ≡ false → (a ≡ false) × (b ≡ false)
or_none true b e = absurd cc
or_none false b e = (refl, e)

none_passes : (test : List ℕ → Bool) (ordinal : ℕ) (name : List ℕ) (items : List ReadItem) → any_use test items ≡ false
    → said_in ordinal items ≡ Some (said_import name) → test name ≡ false
none_passes test ordinal name [] none e = absurd cc
none_passes test ordinal name (i ∷ is) none e =
    let both = or_none (use_passes test (reaching.used_name i.said)) (any_use test is) none in
    elim (cases_Bool (i.ordinal == ordinal)) [
      | inl here ↦
          let said : Some i.said ≡ Some (said_import name) = rw here at e in
          let same : i.said ≡ said_import name = cc in
          sym (ap (λ (s : Said). use_passes test (reaching.used_name s)) same) ∙ both.0
      | inr past ↦ none_passes test ordinal name is both.1 (rw past at e)
    ]

none_at : (test : List ℕ → Bool) (name : List PlacedByte) (span : Option Part) → test (bytes name) ≡ false
    → filter (λ (found : UseSeen). test found.name) (use_at name span) ≡ []
none_at test name None e = refl
none_at test name (Some span) e = rw e refl

none_in : (test : List ℕ → Bool) (o : Option (List PlacedByte)) → ((name : List PlacedByte) → o ≡ Some name → test (bytes name) ≡ false)
    → filter (λ (found : UseSeen). test found.name) (use_in o) ≡ []
none_in test None fails = refl
none_in test (Some name) fails = none_at test name (spanned name) (fails name refl)

none_among : (test : List ℕ → Bool) (items : List (List PlacedByte))
    → ((ordinal : ℕ) (item name : List PlacedByte) → slice_get items ordinal ≡ Some item → used_name item ≡ Some name → test (bytes name) ≡ false)
    → filter (λ (found : UseSeen). test found.name) (flat_map (λ (item : List PlacedByte). use_in (used_name item)) items) ≡ []
none_among test [] fails = refl
none_among test (item ∷ items) fails =
    let later = flat_map (λ (item : List PlacedByte). use_in (used_name item)) items in
    filter-append (λ (found : UseSeen). test found.name) (use_in (used_name item)) later
    ∙ ap₂ (λ (one other : List UseSeen). one ++ other) (none_in test (used_name item) (λ name. fails zero item name refl))
    (none_among test items (λ ordinal. fails (suc ordinal)))

-- none of the uses that are seen in a block has a name that passes a test which no name passes that
-- its items use
pub uses_fail : (test : List ℕ → Bool) (block : List ℕ) → any_use test (reading_of_text block).items ≡ false
    → map (λ (found : UseSeen). found.span) (filter (λ (found : UseSeen). test found.name) (uses_of block)) ≡ []
uses_fail test block none =
    ap (map (λ (found : UseSeen). found.span))
    (none_among test (items_of (folded_of block))
    (λ ordinal item name there e. none_passes test ordinal (bytes name) (reading_of_text block).items none (use_is_read block ordinal item name there e)))
