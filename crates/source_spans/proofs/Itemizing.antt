-- The names field and the items that are computed are those of a folded text.
use Rattle.std.proofs.Common.{◌≡◌, ℕ, ◌==◌, true, false, not, List, [], ◌∷◌, inl, inr, refl, sym, ap, subst, ◌∙◌}
use Rattle.std.proofs.lemmas.Bool.{cases_Bool, eqb-true, eq-eqb, false≢true}
use Rattle.ti_source.specs.Folding.{PlacedByte}
use Rattle.ti_source.specs.Items.{AreItems, Begins, all_field, field_and_rest, item_ends, last_item, pair_of_bytes, single_byte, stands_alone, takes}
use Rattle.ti_source.proofs.ItemLaws.{one_field, one_items}
use Rattle.source_spans.specs.Parts.{FieldsAreComputed, ItemsAreComputed, field_of, items_after, rest_of, with_first}

begins-more : (x : PlacedByte) (s f r : List PlacedByte) → (x.0 == 44) ≡ false → Begins s f r → Begins (x ∷ s) (x ∷ f) r
begins-more x _ _ _ plain (all_field field none) = all_field (x ∷ field) (plain, none)
begins-more x _ _ _ plain (field_and_rest field rest line none) = field_and_rest (x ∷ field) rest line (plain, none)

pub fields_computed : FieldsAreComputed
fields_computed [] = all_field [] tt
fields_computed (x ∷ xs) =
    elim (cases_Bool (x.0 == 44)) [
      | inl comma ↦ rw comma (subst (λ (b : ℕ). Begins ((b, x.1) ∷ xs) [] xs) (sym (eqb-true x.0 44 comma)) (field_and_rest [] xs x.1 tt))
      | inr plain ↦ rw plain (begins-more x xs (field_of xs) (rest_of xs) plain (fields_computed xs))
    ]

pub field_is : (text field rest : List PlacedByte) → Begins text field rest → field ≡ field_of text
field_is text field rest begins = (one_field text field rest begins).0 ∙ sym (one_field text (field_of text) (rest_of text) (fields_computed text)).0

pub rest_is : (text field rest : List PlacedByte) → Begins text field rest → rest ≡ rest_of text
rest_is text field rest begins = (one_field text field rest begins).1 ∙ sym (one_field text (field_of text) (rest_of text) (fields_computed text)).1

-- ---- items

more_pair : (before : ℕ) (x y : PlacedByte) (text : List PlacedByte) (items : List (List PlacedByte)) → takes before x.0 y.0 ≡ true → AreItems y.0 text items
    → AreItems before (x ∷ y ∷ text) (with_first x (with_first y items))
more_pair before x y text [] taken are = elim are [ ]
more_pair before x y text (item ∷ items) taken are = pair_of_bytes before x y text item items taken are

more_single : (before : ℕ) (x : PlacedByte) (text : List PlacedByte) (items : List (List PlacedByte)) → (x.0 == 44) ≡ false
    → stands_alone before x.0 text ≡ true → AreItems x.0 text items
    → AreItems before (x ∷ text) (with_first x items)
more_single before x text [] plain alone are = elim are [ ]
more_single before x text (item ∷ items) plain alone are =
    single_byte before x text item items (λ e. false≢true (sym plain ∙ eq-eqb x.0 44 e)) alone are

more_cut : (before : ℕ) (x : PlacedByte) (text : List PlacedByte) (items : List (List PlacedByte)) → (x.0 == 44) ≡ true → AreItems 44 text items
    → AreItems before (x ∷ text) ([] ∷ items)
more_cut before x text items comma are =
    subst (λ (b : ℕ). AreItems before ((b, x.1) ∷ text) ([] ∷ items)) (sym (eqb-true x.0 44 comma)) (item_ends before x.1 text items are)

pub items_computed : ItemsAreComputed
items_computed before [] = last_item before
items_computed before (x ∷ []) =
    elim (cases_Bool (x.0 == 44)) [
      | inl comma ↦ rw comma (more_cut before x [] ([] ∷ []) comma (last_item 44))
      | inr plain ↦ rw plain (more_single before x [] ([] ∷ []) plain refl (last_item x.0))
    ]
items_computed before (x ∷ y ∷ ys) =
    elim (cases_Bool (x.0 == 44)) [
      | inl comma ↦ rw comma (more_cut before x (y ∷ ys) (items_after 44 (y ∷ ys)) comma (items_computed 44 (y ∷ ys)))
      | inr plain ↦ elim (cases_Bool (takes before x.0 y.0)) [
        | inl taken ↦ rw (plain, taken) (more_pair before x y ys (items_after y.0 ys) taken (items_computed y.0 ys))
        | inr alone ↦ rw (plain, alone) (more_single before x (y ∷ ys) (items_after x.0 (y ∷ ys)) plain (ap (λ b. not b) alone) (items_computed x.0 (y ∷ ys)))
      ]
    ]

pub items_are : (before : ℕ) (text : List PlacedByte) (items : List (List PlacedByte)) → AreItems before text items → items ≡ items_after before text
items_are before text items are = one_items before text items are ∙ sym (one_items before text (items_after before text) (items_computed before text))
