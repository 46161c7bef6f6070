-- The names field, the items, and what each item states are determined, and are as computed.
use Rattle.std.proofs.Common.{◌≡◌, ◌≢◌, ℕ, Bool, true, false, not, ◌==◌, ◌&&◌, List, [], ◌∷◌, ◌++◌, Option, Some, None, refl, sym, ap, subst, ◌∙◌, inl, inr}
use Rattle.std.proofs.Common.{append_assoc}
use Rattle.std.proofs.lemmas.List.{append-nil}
use Rattle.std.proofs.lemmas.Bool.{cases_Bool, eqb-true, eq-eqb, ne_eqb, and_parts, false≢true}
use Rattle.std.proofs.lemmas.Bool.Decides.{eqb_tells}
use Rattle.ti_source.specs.declared.items.Escape.TheVariants as escape
use Rattle.ti_text.specs.WhiteSpace.{is_white_space}
use Rattle.ti_spelling.specs.WhiteSpace.{without_trailing_space}
use Rattle.ti_source.specs.Cutting.{last_byte}
use Rattle.ti_source.specs.Folding.{PlacedByte}
use Rattle.ti_source.specs.Items.{HasNoComma, Begins, all_field, field_and_rest, takes, stands_alone, AreItems, last_item, item_ends, pair_of_bytes}
use Rattle.ti_source.specs.Items.{single_byte}
use Rattle.ti_source.specs.Items.{is_mark, HasNoMark, IsWhite, IsEnabled, States, empty_item, disabled_item, number_item, text_item, cancel_item, flag_item}
use Rattle.ti_source.specs.Items.{Statement}
use Rattle.ti_source.specs.Items.{claims_flag, claims_number, claims_text, claims_cancel}
use Rattle.ti_source.specs.inside.Items.{field_of, after_field, escape_after, cuts, with_first, items_of}
use Rattle.ti_source.specs.Stating.{before_mark, from_mark, without_last, plain_statement, statement_with_value, statement_by_mark, statement_of}
use Rattle.ti_source.proofs.ItemLemmas.{items_of-plain}
use Rattle.ti_source.proofs.TextLemmas.{kept_before, kept_before-visible, without_end, trimmed-is, last_byte-push, without_last-push}

not_true : (b : Bool) → not b ≡ true → b ≡ false
not_true true e = absurd (false≢true e)
not_true false e = refl

not_not : (b : Bool) → not (not b) ≡ true → b ≡ true
not_not true e = refl
not_not false e = absurd (false≢true e)

-- ---- the names field

begins-more : (x : PlacedByte) (s f r : List PlacedByte) → (x.0 == 44) ≡ false → Begins s f r → Begins (x ∷ s) (x ∷ f) r
begins-more x _ _ _ h (all_field field none) = all_field (x ∷ field) (h, none)
begins-more x _ _ _ h (field_and_rest field rest line none) = field_and_rest (x ∷ field) rest line (h, none)

pub has_field : (s : List PlacedByte) → Begins s (field_of s) (after_field s)
has_field [] = all_field [] tt
has_field (x ∷ xs) =
    elim (cases_Bool (x.0 == 44)) [
      | inl t ↦
          let at_comma : Begins ((44, x.1) ∷ xs) [] xs = field_and_rest [] xs x.1 tt in
          rw t (rw (← eqb-true x.0 44 t) at at_comma)
      | inr f ↦ rw f (begins-more x xs (field_of xs) (after_field xs) f (has_field xs))
    ]

all_before : (field : List PlacedByte) → HasNoComma field → (field ≡ field_of field) × ([] ≡ after_field field)
all_before [] none = (refl, refl)
all_before (x ∷ xs) none = let later = all_before xs none.1 in rw none.0 (ap (λ s. x ∷ s) later.0, later.1)

before_comma : (field rest : List PlacedByte) (line : ℕ) → HasNoComma field → (field ≡ field_of (field ++ (44, line) ∷ rest))
    × (rest ≡ after_field (field ++ (44, line) ∷ rest))
before_comma [] rest line none = (refl, refl)
before_comma (x ∷ xs) rest line none = let later = before_comma xs rest line none.1 in rw none.0 (ap (λ s. x ∷ s) later.0, later.1)

pub one_field : (s f r : List PlacedByte) → Begins s f r → (f ≡ field_of s) × (r ≡ after_field s)
one_field _ _ _ (all_field field none) = all_before field none
one_field _ _ _ (field_and_rest field rest line none) = before_comma field rest line none

-- ---- the items

-- of two bytes, of which the first takes the second, neither ends an item, and nothing takes the
-- byte after them
escape_after-takes : (before x y : ℕ) → takes before x y ≡ true
    → (x == 44 ≡ false) × (cuts (escape_after escape.Nothing before x) y ≡ false) × (escape_after (escape_after escape.Nothing before x) x y ≡ escape.Nothing)
escape_after-takes before x y t =
    elim (cases_Bool (x == 92)) [
      | inl backslash ↦ rw (eqb-true x 92 backslash) (refl, refl, refl)
      | inr other ↦
          let parts = and_parts (x == 94 && not (before == 37)) (not (y == 44)) (rw other at t) in
          let caret = and_parts (x == 94) (not (before == 37)) parts.0 in
          let no_comma : y == 44 ≡ false = not_true (y == 44) parts.1 in
          rw (eqb-true x 94 caret.0, caret.1) (refl, no_comma, refl)
    ]

items_of-pair : (before : ℕ) (x y : PlacedByte) (text : List PlacedByte) → takes before x.0 y.0 ≡ true
    → items_of escape.Nothing before (x ∷ y ∷ text) ≡ with_first x (with_first y (items_of escape.Nothing y.0 text))
items_of-pair before x y text t =
    let facts = escape_after-takes before x.0 y.0 t in
    items_of-plain escape.Nothing before x (y ∷ text) facts.0
    ∙ ap (with_first x) (items_of-plain (escape_after escape.Nothing before x.0) x.0 y text facts.1 ∙ ap (λ by. with_first y (items_of by y.0 text)) facts.2)

-- a byte that takes nothing is by itself
alone-same : (before x : ℕ) (text : List PlacedByte) → stands_alone before x text ≡ true → items_of (escape_after escape.Nothing before x) x text
    ≡ items_of escape.Nothing x text
alone-same before x [] alone = refl
alone-same before x (y ∷ ys) alone =
    elim (cases_Bool (x == 92)) [
      | inl backslash ↦ absurd (false≢true (rw backslash at alone))
      | inr other ↦
          elim (cases_Bool (x == 94 && not (before == 37))) [
            | inl caret ↦ let comma : y.0 == 44 ≡ true = not_not (y.0 == 44) (rw (other, caret) at alone) in rw (other, caret, comma) refl
            | inr plain ↦ rw (other, plain) refl
          ]
    ]

items_of-alone : (before : ℕ) (x : PlacedByte) (text : List PlacedByte) → x.0 ≢ 44 → stands_alone before x.0 text ≡ true
    → items_of escape.Nothing before (x ∷ text) ≡ with_first x (items_of escape.Nothing x.0 text)
items_of-alone before x text h alone = items_of-plain escape.Nothing before x text (ne_eqb x.0 44 h) ∙ ap (with_first x) (alone-same before x.0 text alone)

-- every text has an item
AreItems-cons : (before : ℕ) (text : List PlacedByte) (all : List (List PlacedByte)) → AreItems before text all → (item : List PlacedByte)
    × (items : List (List PlacedByte)) × (all ≡ item ∷ items)
AreItems-cons _ _ _ (last_item _) = ([], [], refl)
AreItems-cons _ _ _ (item_ends _ _ _ items _) = ([], items, refl)
AreItems-cons _ _ _ (pair_of_bytes _ x y _ item items _ _) = (x ∷ y ∷ item, items, refl)
AreItems-cons _ _ _ (single_byte _ x _ item items _ _ _) = (x ∷ item, items, refl)

more_pair : (before : ℕ) (x y : PlacedByte) (text : List PlacedByte) (all : List (List PlacedByte)) → takes before x.0 y.0 ≡ true → AreItems y.0 text all
    → AreItems before (x ∷ y ∷ text) (with_first x (with_first y all))
more_pair before x y text all t are =
    let c = AreItems-cons y.0 text all are in
    rw c.2 (pair_of_bytes before x y text c.0 c.1 t (rw c.2 at are))

more_single : (before : ℕ) (x : PlacedByte) (text : List PlacedByte) (all : List (List PlacedByte)) → x.0 ≢ 44 → stands_alone before x.0 text ≡ true
    → AreItems x.0 text all
    → AreItems before (x ∷ text) (with_first x all)
more_single before x text all h alone are =
    let c = AreItems-cons x.0 text all are in
    rw c.2 (single_byte before x text c.0 c.1 h alone (rw c.2 at are))

more_cut : (before : ℕ) (x : PlacedByte) (text : List PlacedByte) → x.0 ≡ 44 → AreItems 44 text (items_of escape.Nothing 44 text)
    → AreItems before (x ∷ text) (items_of escape.Nothing before (x ∷ text))
more_cut before x text e are =
    let items = items_of escape.Nothing 44 text in
    let P : ℕ → Type 0 = λ b. AreItems before ((b, x.1) ∷ text) ([] ∷ items) in
    rw (eq-eqb x.0 44 e) (subst P (sym e) (item_ends before x.1 text items are))

pub has_items : (before : ℕ) (text : List PlacedByte) → AreItems before text (items_of escape.Nothing before text)
has_items before [] = last_item before
has_items before (x ∷ []) =
    elim (eqb_tells x.0 44) [
      | inl comma ↦ more_cut before x [] comma.1 (last_item 44)
      | inr other ↦ rw (items_of-alone before x [] other.1 refl) (more_single before x [] ([] ∷ []) other.1 refl (last_item x.0))
    ]
has_items before (x ∷ y ∷ text) =
    elim (eqb_tells x.0 44) [
      | inl comma ↦ more_cut before x (y ∷ text) comma.1 (has_items 44 (y ∷ text))
      | inr other ↦
          elim (cases_Bool (takes before x.0 y.0)) [
            | inl t ↦ rw (items_of-pair before x y text t) (more_pair before x y text (items_of escape.Nothing y.0 text) t (has_items y.0 text))
            | inr f ↦
                let alone : stands_alone before x.0 (y ∷ text) ≡ true = ap not f in
                rw (items_of-alone before x (y ∷ text) other.1 alone)
                (more_single before x (y ∷ text) (items_of escape.Nothing x.0 (y ∷ text)) other.1 alone (has_items x.0 (y ∷ text)))
          ]
    ]

pub one_items : (before : ℕ) (text : List PlacedByte) (items : List (List PlacedByte)) → AreItems before text items
    → items ≡ items_of escape.Nothing before text
one_items _ _ _ (last_item before) = refl
one_items _ _ _ (item_ends before line text items are) = ap (λ later. [] ∷ later) (one_items 44 text items are)
one_items _ _ _ (pair_of_bytes before x y text item items t are) =
    ap (λ all. with_first x (with_first y all)) (one_items y.0 text (item ∷ items) are) ∙ sym (items_of-pair before x y text t)
one_items _ _ _ (single_byte before x text item items h alone are) =
    ap (with_first x) (one_items x.0 text (item ∷ items) are) ∙ sym (items_of-alone before x text h alone)

-- ---- what an item states

-- an item that is in a text with no white space at its front
abbrev pub BeginsVisible : List ℕ → Type 0
BeginsVisible [] = Unit {0}
BeginsVisible (x ∷ xs) = is_white_space x ≡ false

statement-of : (text : List ℕ) → IsEnabled text → text ≢ [] → statement_of text ≡ Some (statement_by_mark text (from_mark text))
statement-of [] on some = absurd (some refl)
statement-of (x ∷ xs) on some = rw on refl

-- the first mark after a name without one
mark_behind : (name : List ℕ) (mark : ℕ) (value : List ℕ) → HasNoMark name → is_mark mark ≡ true
    → (before_mark (name ++ mark ∷ value) ≡ name) × (from_mark (name ++ mark ∷ value) ≡ mark ∷ value)
mark_behind [] mark value none m = rw m (refl, refl)
mark_behind (x ∷ xs) mark value none m = let later = mark_behind xs mark value none.1 m in rw none.0 (ap (λ s. x ∷ s) later.0, later.1)

-- no mark is in a name, nor in white space
from_mark-none : (s : List ℕ) → HasNoMark s → from_mark s ≡ []
from_mark-none [] none = refl
from_mark-none (x ∷ xs) none = rw none.0 (from_mark-none xs none.1)

HasNoMark-append : (s t : List ℕ) → HasNoMark s → HasNoMark t → HasNoMark (s ++ t)
HasNoMark-append [] t a b = b
HasNoMark-append (x ∷ xs) t a b = (a.0, HasNoMark-append xs t a.1 b)

white-no_mark : (x : ℕ) → is_white_space x ≡ true → is_mark x ≡ false
white-no_mark x w =
    elim (eqb_tells x 32) [
      | inl space ↦ rw space.1 refl
      | inr other ↦ rw (eqb-true x 9 (rw other.0 at w)) refl
    ]

IsWhite-no_mark : (s : List ℕ) → IsWhite s → HasNoMark s
IsWhite-no_mark [] w = tt
IsWhite-no_mark (x ∷ xs) w = (white-no_mark x w.0, IsWhite-no_mark xs w.1)

-- white space at the end is left out, up to a byte that is not white space
without_end-IsWhite : (s : List ℕ) → IsWhite s → without_end s ≡ []
without_end-IsWhite [] w = refl
without_end-IsWhite (x ∷ xs) w = rw (without_end-IsWhite xs w.1, w.0) refl

without_end-before : (s : List ℕ) (x : ℕ) (end : List ℕ) → is_white_space x ≡ false → IsWhite end → without_end (s ++ x ∷ end) ≡ s ++ x ∷ []
without_end-before [] x end f w = rw (without_end-IsWhite end w, f) refl
without_end-before (y ∷ []) x end f w = ap (kept_before y) (without_end-before [] x end f w)
without_end-before (y ∷ z ∷ zs) x end f w = ap (kept_before y) (without_end-before (z ∷ zs) x end f w)

-- a text is all but its last byte, and its last byte
last_split : (x : ℕ) (xs : List ℕ) → x ∷ xs ≡ without_last (x ∷ xs) ++ last_byte 0 (x ∷ xs) ∷ []
last_split x [] = refl
last_split x (y ∷ ys) = ap (λ s. x ∷ s) (last_split y ys)

cons≢nil : (s : List ℕ) (x : ℕ) (t : List ℕ) → s ++ x ∷ t ≢ []
cons≢nil [] x t e = cc
cons≢nil (y ∷ ys) x t e = cc

states-number : (name value : List ℕ) → HasNoMark name → IsEnabled (name ++ 35 ∷ value) → Some (record { name = name; claim = claims_number value })
    ≡ statement_of (name ++ 35 ∷ value)
states-number name value none on =
    let behind = mark_behind name 35 value none refl in
    rw (statement-of (name ++ 35 ∷ value) on (cons≢nil name 35 value), behind.1, behind.0) refl

states-text : (name value : List ℕ) → HasNoMark name → IsEnabled (name ++ 61 ∷ value) → Some (record { name = name; claim = claims_text value })
    ≡ statement_of (name ++ 61 ∷ value)
states-text name value none on =
    let behind = mark_behind name 61 value none refl in
    rw (statement-of (name ++ 61 ∷ value) on (cons≢nil name 61 value), behind.1, behind.0) refl

states-cancel : (name end : List ℕ) → HasNoMark name → IsWhite end → IsEnabled (name ++ 64 ∷ end)
    → Some (record { name = name; claim = claims_cancel }) ≡ statement_of (name ++ 64 ∷ end)
states-cancel name end none white on =
    rw (
      statement-of (name ++ 64 ∷ end) on (cons≢nil name 64 end),
      from_mark-none (name ++ 64 ∷ end) (HasNoMark-append name (64 ∷ end) none (refl, IsWhite-no_mark end white)),
      trimmed-is (name ++ 64 ∷ end),
      without_end-before name 64 end refl white,
      last_byte-push 0 name 64,
      without_last-push name 64,
    ) refl

plain_statement-flag : (x : ℕ) (xs : List ℕ) → last_byte x xs ≢ 64 → record { name = x ∷ xs; claim = claims_flag } ≡ plain_statement (x ∷ xs)
plain_statement-flag x xs other = rw (ne_eqb (last_byte x xs) 64 other) refl

-- the name of a boolean is not empty, and ends in a visible byte other than `@`
states-flag : (name end : List ℕ) → HasNoMark name → IsWhite end → IsEnabled (name ++ end) → is_white_space (last_byte 64 name) ≡ false → last_byte 64 name ≢ 64
    → Some (record { name = name; claim = claims_flag }) ≡ statement_of (name ++ end)
states-flag [] end none white on visible other = absurd (other refl)
states-flag (x ∷ xs) end none white on visible other =
    let text = x ∷ xs ++ end in
    let front = without_last (x ∷ xs) in
    let last = last_byte 0 (x ∷ xs) in
    let split : x ∷ xs ≡ front ++ last ∷ [] = last_split x xs in
    let joined : text ≡ front ++ last ∷ end = ap (λ s. s ++ end) split ∙ append_assoc front (last ∷ []) end in
    let trims : without_trailing_space text ≡ x ∷ xs = trimmed-is text ∙ ap without_end joined ∙ without_end-before front last end visible white ∙ sym split in
    let plain : from_mark text ≡ [] = from_mark-none text (HasNoMark-append (x ∷ xs) end none (IsWhite-no_mark end white)) in
    let states_it : statement_of text ≡ Some (statement_by_mark text (from_mark text)) = statement-of text on (λ e. cc) in
    ap Some (plain_statement-flag x xs other ∙ ap plain_statement (sym trims) ∙ ap (statement_by_mark text) (sym plain)) ∙ sym states_it

pub one_statement : (text : List ℕ) (o : Option Statement) → States text o → o ≡ statement_of text
one_statement _ _ empty_item = refl
one_statement _ _ (disabled_item text) = refl
one_statement _ _ (number_item name value none on) = states-number name value none on
one_statement _ _ (text_item name value none on) = states-text name value none on
one_statement _ _ (cancel_item name end none white on) = states-cancel name end none white on
one_statement _ _ (flag_item name end none white on visible other) = states-flag name end none white on visible other

-- a text is what is before its first mark, and the rest, which begins with one
mark_split : (s : List ℕ) → (s ≡ before_mark s ++ from_mark s) × HasNoMark (before_mark s)
    × ((m : ℕ) (value : List ℕ) → from_mark s ≡ m ∷ value → is_mark m ≡ true)
mark_split [] = (refl, tt, λ m value e. cc)
mark_split (x ∷ xs) =
    let later = mark_split xs in
    elim (cases_Bool (is_mark x)) [
      | inl t ↦ rw t (refl, tt, λ m value e. let same : x ≡ m = cc in rw (← same) t)
      | inr f ↦ rw f (ap (λ s. x ∷ s) later.0, (f, later.1), later.2)
    ]

-- a text is what is left of it, and the white space at its end
end_split : (s : List ℕ) → (end : List ℕ) × (s ≡ without_end s ++ end) × IsWhite end
end_split [] = ([], refl, tt)
end_split (x ∷ xs) =
    let later = end_split xs in
    elim (without_end xs) as (λ t. (xs ≡ t ++ later.0) → (end : List ℕ) × (x ∷ xs ≡ kept_before x t ++ end) × IsWhite end) [
      | [] ↦ λ e.
          elim (cases_Bool (is_white_space x)) [
            | inl w ↦ rw w (x ∷ later.0, ap (λ s. x ∷ s) e, (w, later.2))
            | inr v ↦ rw v (later.0, ap (λ s. x ∷ s) e, later.2)
          ]
      | y ∷ ys ↦ λ e. (later.0, ap (λ s. x ∷ s) e, later.2)
    ] later.1

valued_states : (name : List ℕ) (mark : ℕ) (value : List ℕ) → HasNoMark name → is_mark mark ≡ true → IsEnabled (name ++ mark ∷ value)
    → States (name ++ mark ∷ value) (Some (statement_with_value name mark value))
valued_states name mark value none m on =
    elim (eqb_tells mark 35) [
      | inl number ↦
          let P : ℕ → Type 0 = λ b. IsEnabled (name ++ b ∷ value) → States (name ++ b ∷ value) (Some (statement_with_value name b value)) in
          subst P (sym number.1) (number_item name value none) on
      | inr other ↦
          let text : mark ≡ 61 = eqb-true mark 61 (rw other.0 at m) in
          let P : ℕ → Type 0 = λ b. IsEnabled (name ++ b ∷ value) → States (name ++ b ∷ value) (Some (statement_with_value name b value)) in
          subst P (sym text) (text_item name value none) on
    ]

HasNoMark-front : (s t : List ℕ) → HasNoMark (s ++ t) → HasNoMark s
HasNoMark-front [] t none = tt
HasNoMark-front (x ∷ xs) t none = (none.0, HasNoMark-front xs t none.1)

-- what is left of a text does not end in white space
ends_visible : (s : List ℕ) → is_white_space (last_byte 64 (without_end s)) ≡ false
ends_visible [] = refl
ends_visible (x ∷ xs) =
    elim (without_end xs) as (λ t. is_white_space (last_byte 64 t) ≡ false → is_white_space (last_byte 64 (kept_before x t)) ≡ false) [
      | [] ↦ λ e. elim (cases_Bool (is_white_space x)) [ inl w ↦ rw w refl | inr v ↦ rw v v ]
      | y ∷ ys ↦ λ e. e
    ] (ends_visible xs)

-- a text without a mark, which is `x ∷ core` and white space
unmarked_states : (x : ℕ) (core end : List ℕ) → HasNoMark (x ∷ core) → IsWhite end → IsEnabled (x ∷ core) → is_white_space (last_byte x core) ≡ false
    → States (x ∷ core ++ end) (Some (plain_statement (x ∷ core)))
unmarked_states x core end none white on visible =
    elim (eqb_tells (last_byte x core) 64) [
      | inl cancel ↦
          let name = without_last (x ∷ core) in
          let split : x ∷ core ≡ name ++ 64 ∷ [] = rw cancel.1 at (last_split x core) in
          let whole : x ∷ core ++ end ≡ name ++ 64 ∷ end = ap (λ s. s ++ end) split ∙ append_assoc name (64 ∷ []) end in
          let no_mark : HasNoMark name = HasNoMark-front name (64 ∷ []) (subst (λ (t : List ℕ). HasNoMark t) split none) in
          let enabled : IsEnabled (name ++ 64 ∷ end) = rw (← whole) on in
          rw (cancel.0, whole) (cancel_item name end no_mark white enabled)
      | inr other ↦ rw other.0 (flag_item (x ∷ core) end none white on visible other.1)
    ]

marked_states : (x : ℕ) (xs rest : List ℕ) → (x == 46) ≡ false → is_white_space x ≡ false → from_mark (x ∷ xs) ≡ rest
    → States (x ∷ xs) (Some (statement_by_mark (x ∷ xs) rest))
marked_states x xs (mark ∷ value) on visible e =
    let parts = mark_split (x ∷ xs) in
    let name = before_mark (x ∷ xs) in
    let split : x ∷ xs ≡ name ++ mark ∷ value = rw e at parts.0 in
    let enabled : IsEnabled (name ++ mark ∷ value) = rw (← split) on in
    let P : List ℕ → Type 0 = λ t. States t (Some (statement_with_value name mark value)) in
    subst P (sym split) (valued_states name mark value parts.1 (parts.2 mark value e) enabled)
marked_states x xs [] on visible e =
    let parts = mark_split (x ∷ xs) in
    let ends = end_split (x ∷ xs) in
    let core = without_end xs in
    let kept : without_end (x ∷ xs) ≡ x ∷ core = kept_before-visible x core visible in
    let split : x ∷ xs ≡ x ∷ core ++ ends.0 = rw kept at ends.1 in
    let all_name : before_mark (x ∷ xs) ≡ x ∷ xs = sym (append-nil (before_mark (x ∷ xs))) ∙ sym (rw e at parts.0) in
    let none : HasNoMark (x ∷ core) = HasNoMark-front (x ∷ core) ends.0 (subst (λ (t : List ℕ). HasNoMark t) (all_name ∙ split) parts.1) in
    let seen : is_white_space (last_byte x core) ≡ false = rw kept at (ends_visible (x ∷ xs)) in
    let P : List ℕ → Type 0 = λ t. States t (Some (plain_statement (x ∷ core))) in
    let Q : List ℕ → Type 0 = λ t. States (x ∷ xs) (Some (plain_statement t)) in
    subst Q (sym (trimmed-is (x ∷ xs) ∙ kept)) (subst P (sym split) (unmarked_states x core ends.0 none ends.2 on seen))

pub has_statement : (text : List ℕ) → BeginsVisible text → States text (statement_of text)
has_statement [] visible = empty_item
has_statement (x ∷ xs) visible =
    elim (eqb_tells x 46) [
      | inl dot ↦
          let P : ℕ → Type 0 = λ b. States (b ∷ xs) None in
          rw dot.0 (subst P (sym dot.1) (disabled_item xs))
      | inr other ↦ rw other.0 (marked_states x xs (from_mark (x ∷ xs)) other.0 visible refl)
    ]
