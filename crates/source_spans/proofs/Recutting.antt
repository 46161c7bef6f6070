-- The items of a text of which one item is exchanged.
use Rattle.std.proofs.Common.{◌≡◌, ℕ, zero, suc, ◌==◌, true, false, List, [], ◌∷◌, ◌++◌, append_assoc, None, Some, slice_get, slice_set, inl, inr, ◌⊎◌}
use Rattle.std.proofs.Common.{refl, sym, ap, subst, ◌∙◌}
use Rattle.std.proofs.lemmas.Bool.{cases_Bool, eqb-true}
use Rattle.std.proofs.lemmas.List.{append-nil}
use Rattle.ti_text.specs.WhiteSpace.{is_white_space}
use Rattle.ti_source.specs.Folding.{PlacedByte}
use Rattle.ti_source.specs.Items.{bytes, without_front}
use Rattle.source_spans.specs.Parts.{field_of, rest_of, with_first}
use Rattle.source_spans.proofs.Escaping.{Escape, cuts, escape_after, items_of, nothing}

-- ---- the names field and the rest

-- a text with a comma is a names field, the comma and a rest
pub record HasRest (text : List PlacedByte) : Type 0 where
  pub comma : PlacedByte
  pub whole : text ≡ field_of text ++ comma ∷ rest_of text
  pub rest : (other : List PlacedByte) → rest_of (field_of text ++ comma ∷ other) ≡ other
  pub field : (other : List PlacedByte) → field_of (field_of text ++ comma ∷ other) ≡ field_of text

rest_later : (x : PlacedByte) (xs : List PlacedByte) → (x.0 == 44) ≡ false → HasRest xs → HasRest (x ∷ xs)
rest_later x xs f later = record {
  comma = later.comma;
  whole = rw f (ap (λ (t : List PlacedByte). x ∷ t) later.whole);
  rest = λ other. rw (f, f) (later.rest other);
  field = λ other. rw (f, f) (ap (λ (t : List PlacedByte). x ∷ t) (later.field other));
}

pub has_rest : (text : List PlacedByte) → (rest_of text ≡ []) ⊎ HasRest text
has_rest [] = inl refl
has_rest (x ∷ xs) =
    elim (cases_Bool (x.0 == 44)) [
      | inl t ↦ inr (record { comma = x; whole = rw t refl; rest = λ other. rw (t, t) refl; field = λ other. rw (t, t) refl })
      | inr f ↦ elim (has_rest xs) [ inl none ↦ inl (rw f none) | inr later ↦ inr (rest_later x xs f later) ]
    ]

-- ---- a text in which no item ends

-- no byte of a text ends an item
unfoldable pub Goes : Escape → ℕ → List PlacedByte → Type 0
Goes by before [] = Unit {0}
Goes by before (x ∷ xs) = (cuts by x.0 ≡ false) × Goes (escape_after by before x.0) x.0 xs

-- what takes the byte after a text
unfoldable pub by_after : Escape → ℕ → List PlacedByte → Escape
by_after by before [] = by
by_after by before (x ∷ xs) = by_after (escape_after by before x.0) x.0 xs

-- an item ends where the text after it begins
unfoldable pub Ends : Escape → List PlacedByte → Type 0
Ends by [] = Unit {0}
Ends by (x ∷ xs) = cuts by x.0 ≡ true

-- the items after one that ends where this begins
after_cut : List PlacedByte → List (List PlacedByte)
after_cut [] = []
after_cut (x ∷ xs) = items_of nothing 44 xs

first_is : (by : Escape) (before : ℕ) (item tail : List PlacedByte) → Goes by before item → Ends (by_after by before item) tail
    → items_of by before (item ++ tail) ≡ item ∷ after_cut tail
unfolding Goes by_after Ends after_cut
first_is by before [] [] goes ends = refl
first_is by before [] (c ∷ tail) goes ends = rw ends refl
first_is by before (x ∷ xs) tail goes ends = rw goes.0 (ap (with_first x) (first_is (escape_after by before x.0) x.0 xs tail goes.1 ends))

-- the first item of a text
record HasFirst (by : Escape) (before : ℕ) (text : List PlacedByte) : Type 0 where
  item : List PlacedByte
  tail : List PlacedByte
  whole : text ≡ item ++ tail
  goes : Goes by before item
  ends : Ends (by_after by before item) tail

has_first : (by : Escape) (before : ℕ) (text : List PlacedByte) → HasFirst by before text
unfolding Goes by_after Ends
has_first by before [] = record { item = []; tail = []; whole = refl; goes = tt; ends = tt }
has_first by before (x ∷ xs) =
    elim (cases_Bool (cuts by x.0)) [
      | inl t ↦ record { item = []; tail = x ∷ xs; whole = refl; goes = tt; ends = t }
      | inr f ↦
          let later = has_first (escape_after by before x.0) x.0 xs in
          record {
            item = x ∷ later.item;
            tail = later.tail;
            whole = ap (λ (t : List PlacedByte). x ∷ t) later.whole;
            goes = (f, later.goes);
            ends =
                later.ends;
          }
    ]

-- where an item of a text is, and the text's items once it is another
pub record IsAt (text : List PlacedByte) (at : ℕ) (item : List PlacedByte) : Type 0 where
  pub front : List PlacedByte
  pub tail : List PlacedByte
  pub whole : text ≡ front ++ (item ++ tail)
  pub goes : Goes nothing 44 item
  pub ends : Ends (by_after nothing 44 item) tail
  pub swap : (other : List PlacedByte) → Goes nothing 44 other → Ends (by_after nothing 44 other) tail
      → items_of nothing 44 (front ++ (other ++ tail)) ≡ slice_set (items_of nothing 44 text) at other

first_at : (text item : List PlacedByte) → HasFirst nothing 44 text → slice_get (items_of nothing 44 text) zero ≡ Some item → IsAt text zero item
first_at text item f is =
    let items : items_of nothing 44 text ≡ f.item ∷ after_cut f.tail = ap (items_of nothing 44) f.whole ∙ first_is nothing 44 f.item f.tail f.goes f.ends in
    let got : Some f.item ≡ Some item = ap (λ (l : List (List PlacedByte)). slice_get l zero) (sym items) ∙ is in
    let same : f.item ≡ item = cc in
    subst (IsAt text zero) same (record {
      front = [];
      tail = f.tail;
      whole = f.whole;
      goes = f.goes;
      ends = f.ends;
      swap = λ other goes ends. first_is nothing 44 other f.tail goes ends ∙ ap (λ (l : List (List PlacedByte)). slice_set l zero other) (sym items);
    })

inner : (first front : List PlacedByte) (c : PlacedByte) (more : List PlacedByte) → (first ++ c ∷ front) ++ more ≡ first ++ c ∷ (front ++ more)
inner first front c more = append_assoc first (c ∷ front) more

later_at : (at : ℕ) (text item first tail : List PlacedByte) → ((t : List PlacedByte) → slice_get (items_of nothing 44 t) at ≡ Some item → IsAt t at item)
    → text ≡ first ++ tail → Goes nothing 44 first → Ends (by_after nothing 44 first) tail → items_of nothing 44 text ≡ first ∷ after_cut tail
    → slice_get (items_of nothing 44 text) (suc at) ≡ Some item → IsAt text (suc at) item
unfolding after_cut Ends
later_at at text item first [] rec whole goes ends items is =
    let none : None ≡ Some item = ap (λ (l : List (List PlacedByte)). slice_get l (suc at)) (sym items) ∙ is in
    absurd cc
later_at at text item first (c ∷ t) rec whole goes ends items is =
    let later = rec t (ap (λ (l : List (List PlacedByte)). slice_get l (suc at)) (sym items) ∙ is) in
    record {
      front = first ++ c ∷ later.front;
      tail = later.tail;
      whole = whole ∙ ap (λ (u : List PlacedByte). first ++ c ∷ u) later.whole ∙ sym (inner first later.front c (item ++ later.tail));
      goes = later.goes;
      ends = later.ends;
      swap = λ other on end.
          ap (items_of nothing 44) (inner first later.front c (other ++ later.tail))
          ∙ first_is nothing 44 first (c ∷ (later.front ++ (other ++ later.tail))) goes ends
          ∙ ap (λ (l : List (List PlacedByte)). first ∷ l) (later.swap other on end)
          ∙ ap (λ (l : List (List PlacedByte)). slice_set l (suc at) other) (sym items);
    }

pub item_is_at : (at : ℕ) (text item : List PlacedByte) → slice_get (items_of nothing 44 text) at ≡ Some item → IsAt text at item
item_is_at zero text item is = first_at text item (has_first nothing 44 text) is
item_is_at (suc at) text item is =
    let f = has_first nothing 44 text in
    later_at at text item f.item f.tail (λ t got. item_is_at at t item got) f.whole f.goes f.ends
    (ap (items_of nothing 44) f.whole ∙ first_is nothing 44 f.item f.tail f.goes f.ends) is

-- ---- a text that by itself is one item

some_items : (by : Escape) (before : ℕ) (text : List PlacedByte) → items_of by before text ≡ [] → ⊥
unfolding Goes by_after Ends
some_items by before text e =
    let f = has_first by before text in
    let items : items_of by before text ≡ f.item ∷ after_cut f.tail = ap (items_of by before) f.whole ∙ first_is by before f.item f.tail f.goes f.ends in
    cc

one_goes : (by : Escape) (before : ℕ) (text one item tail : List PlacedByte) → text ≡ item ++ tail → Goes by before item
    → Ends (by_after by before item) tail → items_of by before text ≡ one ∷ []
    → Goes by before text
unfolding after_cut
one_goes by before text one item [] whole goes ends e = subst (Goes by before) (sym (whole ∙ append-nil item)) goes
one_goes by before text one item (c ∷ t) whole goes ends e =
    let items : items_of by before text ≡ item ∷ items_of nothing 44 t = ap (items_of by before) whole ∙ first_is by before item (c ∷ t) goes ends in
    absurd (some_items nothing 44 t cc)

-- if there is one item, it goes on
pub goes_if_one : (by : Escape) (before : ℕ) (text one : List PlacedByte) → items_of by before text ≡ one ∷ [] → Goes by before text
goes_if_one by before text one e = let f = has_first by before text in one_goes by before text one f.item f.tail f.whole f.goes f.ends e

one_less : (x : PlacedByte) (items : List (List PlacedByte)) (one other : List PlacedByte) → with_first x items ≡ one ∷ other ∷ []
    → (item : List PlacedByte) × (items ≡ item ∷ other ∷ [])
one_less x [] one other e = absurd cc
one_less x (item ∷ items) one other e = let rest : items ≡ other ∷ [] = cc in (item, ap (λ (l : List (List PlacedByte)). item ∷ l) rest)

-- if a byte after it begins another item, it ends there
pub ends_if_two : (by : Escape) (before : ℕ) (text : List PlacedByte) (c : PlacedByte) (one other : List PlacedByte) → Goes by before text
    → items_of by before (text ++ c ∷ []) ≡ one ∷ other ∷ []
    → cuts (by_after by before text) c.0 ≡ true
unfolding Goes by_after
ends_if_two by before [] c one other goes e =
    elim (cases_Bool (cuts by c.0)) [ inl t ↦ t | inr f ↦ let one : with_first c ([] ∷ []) ≡ one ∷ other ∷ [] = rw f at e in absurd cc ]
ends_if_two by before (x ∷ xs) c one other goes e =
    let less = one_less x (items_of (escape_after by before x.0) x.0 (xs ++ c ∷ [])) one other (rw goes.0 at e) in
    ends_if_two (escape_after by before x.0) x.0 xs c less.0 other goes.1 less.1

pub two_if_ends : (by : Escape) (before : ℕ) (text : List PlacedByte) (c : PlacedByte) → Goes by before text → cuts (by_after by before text) c.0 ≡ true
    → items_of by before (text ++ c ∷ []) ≡ text ∷ [] ∷ []
unfolding Ends after_cut
two_if_ends by before text c goes ends = first_is by before text (c ∷ []) goes ends

pub one_if_goes : (by : Escape) (before : ℕ) (text : List PlacedByte) → Goes by before text → items_of by before text ≡ text ∷ []
unfolding Ends after_cut
one_if_goes by before text goes = ap (items_of by before) (sym (append-nil text)) ∙ first_is by before text [] goes tt

-- ---- white space before an item

pub White : List PlacedByte → Type 0
White [] = Unit {0}
White (x ∷ xs) = (is_white_space x.0 ≡ true) × White xs

pub record IsFronted (raw : List PlacedByte) : Type 0 where
  pub white : List PlacedByte
  pub are : White white
  pub whole : raw ≡ white ++ without_front raw

pub front_split : (raw : List PlacedByte) → IsFronted raw
unfolding White
front_split [] = record { white = []; are = tt; whole = refl }
front_split (x ∷ xs) =
    elim (cases_Bool (is_white_space x.0)) [
      | inl t ↦ let later =
          front_split xs in record { white = x ∷ later.white; are = (t, later.are); whole = rw t (ap (λ (l : List PlacedByte). x ∷ l) later.whole) }
      | inr f ↦ record { white = []; are = tt; whole = rw f refl }
    ]

pub front_dropped : (white : List PlacedByte) (x : PlacedByte) (xs : List PlacedByte) → White white → is_white_space x.0 ≡ false
    → without_front (white ++ x ∷ xs) ≡ x ∷ xs
unfolding White
front_dropped [] x xs are visible = rw visible refl
front_dropped (y ∷ ys) x xs are visible = rw are.0 (front_dropped ys x xs are.1 visible)

-- what white space is not
record IsBlank (x : ℕ) : Type 0 where
  comma : (x == 44) ≡ false
  percent : (x == 37) ≡ false
  backslash : (x == 92) ≡ false
  caret : (x == 94) ≡ false

is_blank_at : (x : ℕ) → is_white_space x ≡ true → IsBlank x
is_blank_at x white =
    elim (cases_Bool (x == 32)) [
      | inl t ↦ subst IsBlank (sym (eqb-true x 32 t)) (record { comma = refl; percent = refl; backslash = refl; caret = refl })
      | inr f ↦ subst IsBlank (sym (eqb-true x 9 (rw f at white))) (record { comma = refl; percent = refl; backslash = refl; caret = refl })
    ]

same_start : (b x : ℕ) → (b == 37) ≡ false → escape_after nothing b x ≡ escape_after nothing 44 x
same_start b x plain = rw plain refl

takes_none : (b x : ℕ) → IsBlank x → escape_after nothing b x ≡ nothing
takes_none b x blank = rw (blank.backslash, blank.caret) refl

pub goes_after_white : (b : ℕ) (white text : List PlacedByte) → (b == 37) ≡ false → White white → Goes nothing 44 text → Goes nothing b (white ++ text)
unfolding White Goes
goes_after_white b [] [] plain are goes = tt
goes_after_white b [] (x ∷ xs) plain are goes = (goes.0, rw (same_start b x.0 plain) goes.1)
goes_after_white b (y ∷ ys) text plain are goes =
    let blank = is_blank_at y.0 are.0 in
    (blank.comma, rw (blank.backslash, blank.caret) (goes_after_white y.0 ys text blank.percent are.1 goes))

pub goes_without_white : (b : ℕ) (white text : List PlacedByte) → (b == 37) ≡ false → White white → Goes nothing b (white ++ text) → Goes nothing 44 text
unfolding White Goes
goes_without_white b [] [] plain are goes = tt
goes_without_white b [] (x ∷ xs) plain are goes = (goes.0, rw (same_start b x.0 plain) at goes.1)
goes_without_white b (y ∷ ys) text plain are goes =
    let blank = is_blank_at y.0 are.0 in
    goes_without_white y.0 ys text blank.percent are.1 (rw (blank.backslash, blank.caret) at goes.1)

pub by_after_white : (b : ℕ) (white text : List PlacedByte) → (b == 37) ≡ false → White white → by_after nothing b (white ++ text) ≡ by_after nothing 44 text
unfolding White by_after
by_after_white b [] [] plain are = refl
by_after_white b [] (x ∷ xs) plain are = ap (λ (e : Escape). by_after e x.0 xs) (same_start b x.0 plain)
by_after_white b (y ∷ ys) text plain are =
    let blank = is_blank_at y.0 are.0 in
    ap (λ (e : Escape). by_after e y.0 (ys ++ text)) (takes_none b y.0 blank) ∙ by_after_white y.0 ys text blank.percent are.1

-- ---- the places of bytes do not count

pub goes_at : (by : Escape) (before : ℕ) (one other : List PlacedByte) → bytes one ≡ bytes other → Goes by before one → Goes by before other
unfolding Goes
goes_at by before [] [] e goes = tt
goes_at by before [] (y ∷ ys) e goes = absurd cc
goes_at by before (x ∷ xs) [] e goes = absurd cc
goes_at by before (x ∷ xs) (y ∷ ys) e goes =
    let same : x.0 ≡ y.0 = cc in
    let rest : bytes xs ≡ bytes ys = cc in
    rw (← same) (goes.0, goes_at (escape_after by before x.0) x.0 xs ys rest goes.1)

pub by_after_at : (by : Escape) (before : ℕ) (one other : List PlacedByte) → bytes one ≡ bytes other → by_after by before one ≡ by_after by before other
unfolding by_after
by_after_at by before [] [] e = refl
by_after_at by before [] (y ∷ ys) e = absurd cc
by_after_at by before (x ∷ xs) [] e = absurd cc
by_after_at by before (x ∷ xs) (y ∷ ys) e =
    let same : x.0 ≡ y.0 = cc in
    let rest : bytes xs ≡ bytes ys = cc in
    rw (← same) (by_after_at (escape_after by before x.0) x.0 xs ys rest)
