-- An item that has a mark is a name, the mark and a value.
use Rattle.std.proofs.Common.{◌≡◌, ℕ, ◌+◌, ◌-◌, ◌<◌, ◌==◌, ◌&&◌, true, false, cond, List, [], ◌∷◌, ◌++◌, Option, None, Some, drop, length, nat_lt, take}
use Rattle.std.proofs.Common.{refl, ap, inl, inr, arith, ◌∙◌}
use Rattle.std.specs.List.{list_all, position_or_len}
use Rattle.std.proofs.Math.Seq.{drop-append-add, drop-append_seam, take-append_seam}
use Rattle.std.proofs.lemmas.Bool.{and_parts, cases_Bool, eqb-true, le-ltb, lt-ltb}
use Rattle.std.proofs.lemmas.List.{drop_all, length-append, map-append}
use Rattle.ti_text.specs.Texts.{is_empty, last_byte}
use Rattle.ti_text.specs.WhiteSpace.{is_white_space}
use Rattle.ti_spelling.specs.WhiteSpace.{without_trailing_space}
use Rattle.ti_source.specs.Folding.{PlacedByte}
use Rattle.ti_source.specs.Items.{HasNoMark, IsEnabled, IsWhite, bytes, is_mark}
use Rattle.ti_source.specs.Stating.{before_mark, from_mark}
use Rattle.source_spans.specs.Subjects.{without_end}
use Rattle.source_spans.specs.Touching.{marked_name, name_of, name_or}
use Rattle.source_edits.specs.Pieces.{after_name, value_of, written_name}

-- an item is cut at its first mark, or has none
pub data MarkSays : List PlacedByte → Type 0 where
  has_mark : (name value : List PlacedByte) (mark : PlacedByte) → HasNoMark (bytes name) → is_mark mark.0 ≡ true → MarkSays (name ++ mark ∷ value)
  has_none : (item : List PlacedByte) → HasNoMark (bytes item) → MarkSays item

one_more : (x : PlacedByte) (item : List PlacedByte) → is_mark x.0 ≡ false → MarkSays item → MarkSays (x ∷ item)
one_more x _ f (has_mark name value mark none is) = has_mark (x ∷ name) value mark (f, none) is
one_more x _ f (has_none item none) = has_none (x ∷ item) (f, none)

pub mark_says : (item : List PlacedByte) → MarkSays item
mark_says [] = has_none [] tt
mark_says (x ∷ xs) =
    elim (cases_Bool (is_mark x.0)) [
      | inl t ↦ has_mark [] xs x tt t
      | inr f ↦ one_more x xs f (mark_says xs)
    ]

pub bytes_cut : (name value : List PlacedByte) (mark : PlacedByte) → bytes (name ++ mark ∷ value) ≡ bytes name ++ mark.0 ∷ bytes value
bytes_cut name value mark = map-append (λ (x : PlacedByte). x.0) name (mark ∷ value)

pub cut_at_mark : (name value : List ℕ) (mark : ℕ) → HasNoMark name → is_mark mark ≡ true → (before_mark (name ++ mark ∷ value) ≡ name)
    × (from_mark (name ++ mark ∷ value) ≡ mark ∷ value)
cut_at_mark [] value mark none is = (rw is refl, rw is refl)
cut_at_mark (x ∷ xs) value mark none is =
    let later = cut_at_mark xs value mark none.1 is in
    (rw none.0 (ap (λ (t : List ℕ). x ∷ t) later.0), rw none.0 later.1)

pub no_mark_left : (text : List ℕ) → HasNoMark text → from_mark text ≡ []
no_mark_left [] none = refl
no_mark_left (x ∷ xs) none = rw none.0 (no_mark_left xs none.1)

mark_visible : (mark : ℕ) → is_mark mark ≡ true → is_white_space mark ≡ false
mark_visible mark is =
    elim (cases_Bool (mark == 35)) [
      | inl t ↦ rw (eqb-true mark 35 t) refl
      | inr f ↦ rw (eqb-true mark 61 (rw f at is)) refl
    ]

not_all_white : (name value : List PlacedByte) (mark : PlacedByte) → is_white_space mark.0 ≡ false
    → list_all is_white_space (bytes (name ++ mark ∷ value)) ≡ false
not_all_white [] value mark visible = rw visible refl
not_all_white (x ∷ xs) value mark visible =
    elim (is_white_space x.0) as (λ b. (b && list_all is_white_space (bytes (xs ++ mark ∷ value)))
    ≡ false) [ true ↦ not_all_white xs value mark visible | false ↦ refl ]

end_of_value : (name value : List PlacedByte) (mark : PlacedByte) → is_white_space mark.0 ≡ false
    → without_end (name ++ mark ∷ value) ≡ name ++ mark ∷ without_end value
end_of_value [] value mark visible = rw visible refl
end_of_value (x ∷ xs) value mark visible =
    rw (not_all_white (x ∷ xs) value mark visible) (ap (λ (t : List PlacedByte). x ∷ t) (end_of_value xs value mark visible))

place_of_mark : (name value : List PlacedByte) (mark : PlacedByte) → HasNoMark (bytes name) → is_mark mark.0 ≡ true
    → position_or_len (λ (x : PlacedByte). is_mark x.0) (name ++ mark ∷ value) ≡ length name
place_of_mark [] value mark none is = rw is refl
place_of_mark (x ∷ xs) value mark none is = rw none.0 (ap (λ (n : ℕ). 1 + n) (place_of_mark xs value mark none.1 is) ∙ omega arith)

marked : (name value : List PlacedByte) (mark : PlacedByte) → HasNoMark (bytes name) → is_mark mark.0 ≡ true → marked_name (name ++ mark ∷ value) ≡ Some name
marked name value mark none is =
    let within : length name < length (name ++ mark ∷ value) = omega (arith, length-append name (mark ∷ value)) in
    rw (place_of_mark name value mark none is, lt-ltb (length name) (length (name ++ mark ∷ value)) within, take-append_seam name (mark ∷ value)) refl

-- the parts of an item that has a mark
pub name_cut : (name value : List PlacedByte) (mark : PlacedByte) → HasNoMark (bytes name) → is_mark mark.0 ≡ true → written_name (name ++ mark ∷ value) ≡ name
name_cut name value mark none is =
    ap name_of (end_of_value name value mark (mark_visible mark.0 is))
    ∙ ap (λ (o : Option (List PlacedByte)). name_or o (name ++ mark ∷ without_end value)) (marked name (without_end value) mark none is)

pub rest_cut : (name value : List PlacedByte) (mark : PlacedByte) → HasNoMark (bytes name) → is_mark mark.0 ≡ true
    → after_name (name ++ mark ∷ value) ≡ mark ∷ without_end value
rest_cut name value mark none is =
    ap (λ (n : List PlacedByte). drop (length n) (without_end (name ++ mark ∷ value))) (name_cut name value mark none is)
    ∙ ap (drop (length name)) (end_of_value name value mark (mark_visible mark.0 is)) ∙ drop-append_seam name (mark ∷ without_end value)

pub value_cut : (name value : List PlacedByte) (mark : PlacedByte) → HasNoMark (bytes name) → is_mark mark.0 ≡ true → value_of (name ++ mark ∷ value) ≡ value
value_cut name value mark none is =
    ap (λ (n : List PlacedByte). drop (length n + 1) (name ++ mark ∷ value)) (name_cut name value mark none is) ∙ drop-append-add name (mark ∷ value) 1

-- ---- an item that has none

pub end_bytes : (item : List PlacedByte) → bytes (without_end item) ≡ without_trailing_space (bytes item)
end_bytes [] = refl
end_bytes (x ∷ xs) =
    elim (list_all is_white_space (bytes (x ∷ xs))) as (λ b. bytes (cond b [] (x ∷ without_end xs)) ≡ cond b [] (x.0 ∷ without_trailing_space (bytes xs))) [
      | true ↦ refl
      | false ↦ ap (λ (t : List ℕ). x.0 ∷ t) (end_bytes xs)
    ]

no_place : (item : List PlacedByte) → HasNoMark (bytes item) → position_or_len (λ (x : PlacedByte). is_mark x.0) item ≡ length item
no_place [] none = refl
no_place (x ∷ xs) none = rw none.0 (ap (λ (n : ℕ). 1 + n) (no_place xs none.1) ∙ omega arith)

end_has_none : (item : List PlacedByte) → HasNoMark (bytes item) → HasNoMark (bytes (without_end item))
end_has_none [] none = tt
end_has_none (x ∷ xs) none =
    elim (list_all is_white_space (bytes (x ∷ xs))) as (λ b. HasNoMark (bytes (cond b [] (x ∷ without_end xs)))) [
      | true ↦ tt
      | false ↦
          (none.0, end_has_none xs none.1)
    ]

not_below : (n : ℕ) → nat_lt n n ≡ false
not_below n = le-ltb n n (omega arith)

unmarked : (item : List PlacedByte) → HasNoMark (bytes item) → marked_name item ≡ None
unmarked item none = rw (no_place item none, not_below (length item)) refl

-- nothing is after the name unless it is cancelled
pub plain_name : (item : List PlacedByte) → HasNoMark (bytes item) → (last_byte 0 (bytes (without_end item)) == 64) ≡ false
    → (written_name item ≡ without_end item) × (after_name item ≡ [])
plain_name item none plain =
    let core = without_end item in
    let named : written_name item ≡ core = ap (λ (o : Option (List PlacedByte)). name_or o core) (unmarked core (end_has_none item none)) ∙ (rw plain refl) in
    (named, ap (λ (n : List PlacedByte). drop (length n) core) named ∙ drop_all (length core) core (omega arith))

-- what a cancel is: a name, and an `@`
pub record IsCancel (item front : List PlacedByte) (sign : PlacedByte) : Type 0 where
  pub whole : without_end item ≡ front ++ sign ∷ []
  pub is_sign : sign.0 ≡ 64
  pub name : written_name item ≡ front
  pub rest : after_name item ≡ sign ∷ []

last_split : (x : PlacedByte) (xs : List PlacedByte) → last_byte x.0 (bytes xs) ≡ 64 → (front : List PlacedByte) × (sign : PlacedByte)
    × (x ∷ xs ≡ front ++ sign ∷ []) × (sign.0 ≡ 64)
last_split x [] e = ([], x, refl, e)
last_split x (y ∷ ys) e = let later = last_split y ys e in (x ∷ later.0, later.1, ap (λ (t : List PlacedByte). x ∷ t) later.2, later.3)

core_split : (core : List PlacedByte) → last_byte 0 (bytes core) ≡ 64 → (front : List PlacedByte) × (sign : PlacedByte) × (core ≡ front ++ sign ∷ [])
    × (sign.0 ≡ 64)
core_split [] e = absurd (omega (arith, e))
core_split (x ∷ xs) e = last_split x xs e

pub cancel_of : (item : List PlacedByte) → HasNoMark (bytes item) → (last_byte 0 (bytes (without_end item)) == 64) ≡ true → (front : List PlacedByte)
    × (sign : PlacedByte) × IsCancel item front sign
cancel_of item none at =
    let core = without_end item in
    let split = core_split core (eqb-true (last_byte 0 (bytes core)) 64 at) in
    let front = split.0 in
    let sign = split.1 in
    let shorter : length (front ++ sign ∷ []) - 1 ≡ length front = omega (arith, length-append front (sign ∷ [])) in
    let cut : take (length core - 1) core ≡ front =
    ap (λ (t : List PlacedByte). take (length t - 1) t) split.2 ∙ ap (λ (n : ℕ). take n (front ++ sign ∷ [])) shorter
    ∙ take-append_seam front (sign ∷ []) in
    let named : written_name item ≡ front = ap (λ (o : Option (List PlacedByte)). name_or o core) (unmarked core (end_has_none item none)) ∙ (rw at cut) in (
      front,
      sign,
      record {
        whole = split.2;
        is_sign = split.3;
        name = named;
        rest = ap (λ (n : List PlacedByte). drop (length n) core) named ∙ ap (drop (length front)) split.2 ∙ drop-append_seam front (sign ∷ []);
      },
    )

-- ---- white space after a name

all_white : (text : List ℕ) → list_all is_white_space text ≡ true → IsWhite text
all_white [] all = tt
all_white (x ∷ xs) all = let both = and_parts (is_white_space x) (list_all is_white_space xs) all in (both.0, all_white xs both.1)

pub empty_end : (value : List PlacedByte) → is_empty (bytes (without_end value)) ≡ true → IsWhite (bytes value)
empty_end [] e = tt
empty_end (x ∷ xs) e =
    elim (cases_Bool (list_all is_white_space (bytes (x ∷ xs)))) [
      | inl all ↦ all_white (bytes (x ∷ xs)) all
      | inr some ↦ let no = rw some at e in cc
    ]

-- an item is what is left of it, and the white space at its end
pub end_split : (item : List PlacedByte) → (end : List PlacedByte) × (item ≡ without_end item ++ end) × IsWhite (bytes end)
end_split [] = ([], refl, tt)
end_split (x ∷ xs) =
    elim (cases_Bool (list_all is_white_space (bytes (x ∷ xs)))) [
      | inl all ↦ (x ∷ xs, rw all refl, all_white (bytes (x ∷ xs)) all)
      | inr some ↦ let later = end_split xs in (later.0, rw some (ap (λ (t : List PlacedByte). x ∷ t) later.1), later.2)
    ]

-- ---- another mark

pub mark_enabled : (name a b : List ℕ) (mark : ℕ) → (mark == 46) ≡ false → IsEnabled (name ++ a) → IsEnabled (name ++ mark ∷ b)
mark_enabled [] a b mark other on = other
mark_enabled (x ∷ xs) a b mark other on = on
