-- What is read from a place on: the names field and the items, without the white space before each.
use Rattle.std.proofs.Common.{◌≡◌, ℕ, ◌<◌, ◌≤◌, ◌==◌, ◌&&◌, not, Bool, true, false, cond, List, [], ◌∷◌, ◌++◌, map, refl, sym, ap, subst, ◌∙◌, inl, inr, arith}
use Rattle.std.specs.List.{concat}
use Rattle.std.proofs.lemmas.Bool.{cases_Bool, eqb-true, false≢true}
use Rattle.ti_text.specs.WhiteSpace.{is_white_space}
use Rattle.ti_source.specs.Folding.{PlacedByte}
use Rattle.ti_source.specs.Items.{ItemPiece, bytes, item_piece, line_of, without_front}
use Rattle.ti_source.specs.inside.Items.{after_field, field_of}
use Rattle.source_spans.specs.Parts.{with_first}
use Rattle.source_spans.proofs.Escaping.{Escape, backslash, caret, cuts, escape_after, items_of, nothing}
use Rattle.source_format.specs.Laws.{texts_after}
use Rattle.source_format.specs.Pieces.{with_first_byte}
use Rattle.source_format.proofs.Numbered.{nat_lt-no, nat_lt-yes}
use Rattle.source_kept_lines.specs.Parts.{after, after_byte, by_byte, by_taken, ends, is_between, is_gap, parts}
use Rattle.source_kept_lines.specs.declared.parts.Reached.{Reached}
use Rattle.source_kept_lines.specs.declared.parts.Reached.TheVariants.{Backslash, Caret, Item, Names, NoItem, Percent}
use Rattle.source_kept_lines.proofs.Reaching.{step_of}

-- ---- what is read

-- at the end: what is begun; and an empty item after names that no comma ends
abbrev pub ended : {X : Type 0} → Reached → List (List X)
ended Names = [] ∷ [] ∷ []
ended r = [] ∷ []

abbrev pub cut_from : Reached → List PlacedByte → List (List PlacedByte)
cut_from r [] = ended r
cut_from r (x ∷ xs) =
    cond (is_gap r x.0) (cut_from (after_byte r x.0) xs)
    (cond (ends r x.0) ([] ∷ cut_from (after_byte r x.0) xs) (with_first x (cut_from (after_byte r x.0) xs)))

abbrev pub texts : Reached → List ℕ → List (List ℕ)
texts r [] = ended r
texts r (x ∷ xs) = cond (is_gap r x) (texts (after_byte r x) xs) (cond (ends r x) ([] ∷ texts (after_byte r x) xs) (with_first_byte x (texts (after_byte r x) xs)))

bytes-ended : (r : Reached) → map bytes (ended r) ≡ ended r
bytes-ended Names = refl
bytes-ended NoItem = refl
bytes-ended Item = refl
bytes-ended Percent = refl
bytes-ended Backslash = refl
bytes-ended Caret = refl

bytes-first : (x : PlacedByte) (is : List (List PlacedByte)) → map bytes (with_first x is) ≡ with_first_byte x.0 (map bytes is)
bytes-first x [] = refl
bytes-first x (i ∷ is) = refl

pub texts_read : (r : Reached) (s : List PlacedByte) → map bytes (cut_from r s) ≡ texts r (bytes s)
texts_read r [] = bytes-ended r
texts_read r (x ∷ xs) =
    let later = texts_read (after_byte r x.0) xs in
    elim (cases_Bool (is_gap r x.0)) [
      | inl g ↦ rw g later
      | inr h ↦ elim (cases_Bool (ends r x.0)) [
        | inl e ↦ rw (h, e) (ap (λ (ts : List (List ℕ)). [] ∷ ts) later)
        | inr f ↦ rw (h, f) (bytes-first x (cut_from (after_byte r x.0) xs) ∙ ap (with_first_byte x.0) later)
      ]
    ]

-- ---- it is that of a block

-- what takes a byte, after that one, where so much is reached
abbrev Takes : Reached → Escape → ℕ → Type 0
Takes Names by before = ⊥
Takes NoItem nothing before = (before == 37) ≡ false
Takes NoItem by before = ⊥
Takes Item nothing before = (before == 37) ≡ false
Takes Item by before = ⊥
Takes Percent nothing before = (before == 37) ≡ true
Takes Percent by before = ⊥
Takes Backslash backslash before = Unit {0}
Takes Backslash by before = ⊥
Takes Caret caret before = Unit {0}
Takes Caret by before = ⊥

takes_byte : (percent : Bool) (before x : ℕ) → (before == 37) ≡ percent → (x == 44) ≡ false → Takes (by_byte percent x) (escape_after nothing before x) x
takes_byte percent before x same f =
    elim (cases_Bool (x == 92)) [
      | inl a ↦ rw (f, a) tt
      | inr b ↦ elim (cases_Bool (x == 94 && not percent)) [
        | inl c ↦ rw (same, f, b, c) tt
        | inr d ↦ elim (cases_Bool (x == 37)) [ inl e ↦ rw (same, f, b, d, e) e | inr g ↦ rw (same, f, b, d, g) g ]
      ]
    ]

takes_taken : (x : ℕ) → Takes (by_taken x) nothing x
takes_taken x = elim (cases_Bool (x == 37)) [ inl e ↦ rw e e | inr g ↦ rw g g ]

takes_more : (r : Reached) (by : Escape) (before x : ℕ) → Takes r by before → is_gap r x ≡ false → ends r x ≡ false
    → Takes (after_byte r x) (escape_after by before x) x
takes_more Names by before x t g e = absurd t
takes_more NoItem nothing before x t g e = rw g (takes_byte false before x t e)
takes_more NoItem backslash before x t g e = absurd t
takes_more NoItem caret before x t g e = absurd t
takes_more Item nothing before x t g e = takes_byte false before x t e
takes_more Item backslash before x t g e = absurd t
takes_more Item caret before x t g e = absurd t
takes_more Percent nothing before x t g e = takes_byte true before x t e
takes_more Percent backslash before x t g e = absurd t
takes_more Percent caret before x t g e = absurd t
takes_more Backslash nothing before x t g e = absurd t
takes_more Backslash backslash before x t g e = takes_taken x
takes_more Backslash caret before x t g e = absurd t
takes_more Caret nothing before x t g e = absurd t
takes_more Caret backslash before x t g e = absurd t
takes_more Caret caret before x t g e = rw e (takes_taken x)

cuts_same : (r : Reached) (by : Escape) (before x : ℕ) → Takes r by before → cuts by x ≡ ends r x
cuts_same Names by before x t = absurd t
cuts_same NoItem nothing before x t = refl
cuts_same NoItem backslash before x t = absurd t
cuts_same NoItem caret before x t = absurd t
cuts_same Item nothing before x t = refl
cuts_same Item backslash before x t = absurd t
cuts_same Item caret before x t = absurd t
cuts_same Percent nothing before x t = refl
cuts_same Percent backslash before x t = absurd t
cuts_same Percent caret before x t = absurd t
cuts_same Backslash nothing before x t = absurd t
cuts_same Backslash backslash before x t = refl
cuts_same Backslash caret before x t = absurd t
cuts_same Caret nothing before x t = absurd t
cuts_same Caret backslash before x t = absurd t
cuts_same Caret caret before x t = refl

-- white space between two items takes nothing
record GapTakes (by : Escape) (before x : ℕ) : Type 0 where
  pub cuts : cuts by x ≡ false
  pub takes : Takes NoItem (escape_after by before x) x

gap_takes : (by : Escape) (before x : ℕ) → Takes NoItem by before → is_white_space x ≡ true → GapTakes by before x
gap_takes backslash before x t w = absurd t
gap_takes caret before x t w = absurd t
gap_takes nothing before x t w =
    elim (cases_Bool (x == 32)) [
      | inl a ↦ rw (eqb-true x 32 a) (record { cuts = refl; takes = refl })
      | inr b ↦ rw (eqb-true x 9 (rw b at w)) (record { cuts = refl; takes = refl })
    ]

-- items without the white space in front, the first of them only if no item is begun
abbrev cooked : Reached → List (List PlacedByte) → List (List PlacedByte)
cooked r [] = []
cooked r (i ∷ is) = cond (is_between r) (without_front i) i ∷ map without_front is

abbrev HasItem : List (List PlacedByte) → Type 0
HasItem is = (i : List PlacedByte) × (js : List (List PlacedByte)) × (is ≡ i ∷ js)

first_some : (x : PlacedByte) (is : List (List PlacedByte)) → HasItem (with_first x is)
first_some x [] = (x ∷ [], [], refl)
first_some x (i ∷ is) = (x ∷ i, is, refl)

items_some : (by : Escape) (before : ℕ) (s : List PlacedByte) → HasItem (items_of by before s)
items_some by before [] = ([], [], refl)
items_some by before (x ∷ xs) =
    elim (cases_Bool (cuts by x.0)) [
      | inl t ↦ rw t ([], items_of nothing 44 xs, refl)
      | inr f ↦ rw f (first_some x (items_of (escape_after by before x.0) x.0 xs))
    ]

cooked_end : (r : Reached) (by : Escape) (before : ℕ) → Takes r by before → ended r ≡ cooked r ([] ∷ [])
cooked_end Names by before t = absurd t
cooked_end NoItem by before t = refl
cooked_end Item by before t = refl
cooked_end Percent by before t = refl
cooked_end Backslash by before t = refl
cooked_end Caret by before t = refl

cooked_gap : (x : PlacedByte) (is : List (List PlacedByte)) → is_white_space x.0 ≡ true → HasItem is → cooked NoItem (with_first x is) ≡ cooked NoItem is
cooked_gap x [] w some = let bad : [] ≡ some.0 ∷ some.1 = some.2 in cc
cooked_gap x (i ∷ is) w some = rw w refl

cooked_all : (is : List (List PlacedByte)) → cooked NoItem is ≡ map without_front is
cooked_all [] = refl
cooked_all (i ∷ is) = refl

cooked_ended : (r : Reached) (is : List (List PlacedByte)) → [] ∷ cooked NoItem is ≡ cooked r ([] ∷ is)
cooked_ended r is =
    elim (cases_Bool (is_between r)) [
      | inl t ↦ rw t (ap (λ (js : List (List PlacedByte)). [] ∷ js) (cooked_all is))
      | inr f ↦ rw f (ap (λ (js : List (List PlacedByte)). [] ∷ js) (cooked_all is))
    ]

visible_here : (r : Reached) (x : ℕ) → is_between r ≡ true → is_gap r x ≡ false → is_white_space x ≡ false
visible_here Names x b g = absurd (false≢true b)
visible_here NoItem x b g = g
visible_here Item x b g = absurd (false≢true b)
visible_here Percent x b g = absurd (false≢true b)
visible_here Backslash x b g = absurd (false≢true b)
visible_here Caret x b g = absurd (false≢true b)

cooked_byte : (r q : Reached) (x : PlacedByte) (is : List (List PlacedByte)) → is_gap r x.0 ≡ false → is_between q ≡ false
    → with_first x (cooked q is) ≡ cooked r (with_first x is)
cooked_byte r q x [] g b =
    elim (cases_Bool (is_between r)) [
      | inl t ↦ rw (t, visible_here r x.0 t g) refl
      | inr f ↦ rw f refl
    ]
cooked_byte r q x (i ∷ is) g b =
    elim (cases_Bool (is_between r)) [
      | inl t ↦ rw (t, b, visible_here r x.0 t g) refl
      | inr f ↦ rw (f, b) refl
    ]

pub cut_is : (r : Reached) (by : Escape) (before : ℕ) (s : List PlacedByte) → Takes r by before → cut_from r s ≡ cooked r (items_of by before s)
cut_is r by before [] t = cooked_end r by before t
cut_is r by before (x ∷ xs) t =
    elim (step_of r x.0) [
      | inl g ↦
          let here : Takes NoItem by before = subst (λ (q : Reached). Takes q by before) g.before t in
          let white : is_white_space x.0 ≡ true = subst (λ (q : Reached). is_gap q x.0 ≡ true) g.before g.gap in
          let gap = gap_takes by before x.0 here white in
          let is = items_of (escape_after by before x.0) x.0 xs in
          rw (g.gap, gap.cuts) (ap (λ (q : Reached). cut_from q xs) g.after ∙ cut_is NoItem (escape_after by before x.0) x.0 xs gap.takes
          ∙ sym (cooked_gap x is white (items_some (escape_after by before x.0) x.0 xs))
          ∙ ap (λ (q : Reached). cooked q (with_first x is)) (sym g.before))
      | inr (inl e) ↦
          let cut : cuts by x.0 ≡ true = cuts_same r by before x.0 t ∙ e.end in
          rw (e.gap, e.end, cut) (ap (λ (q : Reached). [] ∷ cut_from q xs) e.after
          ∙ ap (λ (is : List (List PlacedByte)). [] ∷ is) (cut_is NoItem nothing 44 xs refl) ∙ cooked_ended r (items_of nothing 44 xs))
      | inr (inr w) ↦
          let cut : cuts by x.0 ≡ false = cuts_same r by before x.0 t ∙ w.end in
          let is = items_of (escape_after by before x.0) x.0 xs in
          rw (w.gap, w.end, cut) (ap (with_first x) (cut_is (after_byte r x.0) (escape_after by before x.0) x.0 xs (takes_more r by before x.0 t w.gap w.end))
          ∙ cooked_byte r (after_byte r x.0) x is w.gap w.after)
    ]

-- the names field and the items
pub names_cut : (s : List PlacedByte) → cut_from Names s ≡ field_of s ∷ map without_front (items_of nothing 44 (after_field s))
names_cut [] = refl
names_cut (x ∷ xs) =
    elim (cases_Bool (x.0 == 44)) [
      | inl t ↦ rw t (ap (λ (is : List (List PlacedByte)). [] ∷ is) (cut_is NoItem nothing 44 xs refl ∙ cooked_all (items_of nothing 44 xs)))
      | inr f ↦ rw f (ap (with_first x) (names_cut xs))
    ]

-- ---- the items that begin after a line

abbrev pub piece : List PlacedByte → ItemPiece
piece i = item_piece (bytes i) (line_of i)

abbrev pub but_first : {X : Type 0} → List X → List X
but_first [] = []
but_first (x ∷ xs) = xs

-- those that begin from a place on: all but one that is begun
abbrev pub begun : {X : Type 0} → Reached → List X → List X
begun r xs = cond (is_between r) xs (but_first xs)

abbrev pub after_number : ℕ → Reached → List PlacedByte → List (List ℕ)
after_number number r s = texts_after number (map piece (begun r (cut_from r s)))

but_first-byte : (x : PlacedByte) (is : List (List PlacedByte)) → but_first (with_first x is) ≡ but_first is
but_first-byte x [] = refl
but_first-byte x (i ∷ is) = refl

abbrev seen : ℕ → List (List PlacedByte) → List (List ℕ)
seen number is = texts_after number (map piece is)

seen_first : (number : ℕ) (x : PlacedByte) (is : List (List PlacedByte)) → x.1 ≤ number → seen number (with_first x is) ≡ seen number (but_first is)
seen_first number x [] h = rw (nat_lt-no number x.1 h) refl
seen_first number x (i ∷ is) h = rw (nat_lt-no number x.1 h) refl

seen_empty : (number : ℕ) (is : List (List PlacedByte)) → seen number ([] ∷ is) ≡ seen number is
seen_empty number is = rw (nat_lt-no number 0 (omega arith)) refl

-- a byte on a line up to that one
past_byte : (number : ℕ) (r : Reached) (x : PlacedByte) (xs : List PlacedByte) → x.1 ≤ number
    → after_number number r (x ∷ xs) ≡ after_number number (after_byte r x.0) xs
past_byte number r x xs h =
    let is = cut_from (after_byte r x.0) xs in
    elim (step_of r x.0) [
      | inl g ↦ rw g.gap (ap (λ (q : Reached). seen number (begun q is)) (g.before ∙ sym g.after))
      | inr (inl e) ↦
          let right : begun (after_byte r x.0) is ≡ is = ap (λ (q : Reached). begun q is) e.after in
          rw (e.gap, e.end) (elim (cases_Bool (is_between r)) [
            | inl t ↦ rw t (seen_empty number is ∙ ap (seen number) (sym right))
            | inr f ↦ rw f (ap (seen number) (sym right))
          ])
      | inr (inr w) ↦ rw (w.gap, w.end, w.after) (elim (cases_Bool (is_between r)) [
        | inl t ↦ rw t (seen_first number x is h)
        | inr f ↦ rw f (ap (seen number) (but_first-byte x is))
      ])
    ]

-- each byte is on a line up to a number; each is on one after it
abbrev pub UpTo : ℕ → List PlacedByte → Type 0
UpTo number [] = Unit {0}
UpTo number (x ∷ xs) = (x.1 ≤ number) × UpTo number xs

abbrev pub Above : ℕ → List PlacedByte → Type 0
Above number [] = Unit {0}
Above number (x ∷ xs) = (number < x.1) × Above number xs

pub past : (number : ℕ) (r : Reached) (s t : List PlacedByte) → UpTo number s → after_number number r (s ++ t) ≡ after_number number (after r (bytes s)) t
past number r [] t up = refl
past number r (x ∷ xs) t up = past_byte number r x (xs ++ t) up.0 ∙ past number (after_byte r x.0) xs t up.1

-- ---- where all is after the line

-- texts that are not empty
abbrev pub full : List (List ℕ) → List (List ℕ)
full [] = []
full ([] ∷ ts) = full ts
full ((x ∷ xs) ∷ ts) = (x ∷ xs) ∷ full ts

abbrev AllAbove : ℕ → List (List PlacedByte) → Type 0
AllAbove number [] = Unit {0}
AllAbove number (i ∷ is) = Above number i × AllAbove number is

above_ended : (number : ℕ) (r : Reached) → AllAbove number (ended r)
above_ended number Names = (tt, (tt, tt))
above_ended number NoItem = (tt, tt)
above_ended number Item = (tt, tt)
above_ended number Percent = (tt, tt)
above_ended number Backslash = (tt, tt)
above_ended number Caret = (tt, tt)

above_first : (number : ℕ) (x : PlacedByte) (is : List (List PlacedByte)) → number < x.1 → AllAbove number is → AllAbove number (with_first x is)
above_first number x [] h all = ((h, tt), tt)
above_first number x (i ∷ is) h all = ((h, all.0), all.1)

above_cut : (number : ℕ) (r : Reached) (s : List PlacedByte) → Above number s → AllAbove number (cut_from r s)
above_cut number r [] a = above_ended number r
above_cut number r (x ∷ xs) a =
    let later = above_cut number (after_byte r x.0) xs a.1 in
    elim (cases_Bool (is_gap r x.0)) [
      | inl g ↦ rw g later
      | inr h ↦ elim (cases_Bool (ends r x.0)) [
        | inl e ↦ rw (h, e) (tt, later)
        | inr f ↦ rw (h, f) (above_first number x (cut_from (after_byte r x.0) xs) a.0 later)
      ]
    ]

above_begun : (number : ℕ) (r : Reached) (is : List (List PlacedByte)) → AllAbove number is → AllAbove number (begun r is)
above_begun number r is all = elim (cases_Bool (is_between r)) [ inl t ↦ rw t all | inr f ↦ rw f (above_rest is all) ]
  where
    above_rest : (js : List (List PlacedByte)) → AllAbove number js → AllAbove number (but_first js)
    above_rest [] a = tt
    above_rest (j ∷ js) a = a.1

seen_above : (number : ℕ) (is : List (List PlacedByte)) → AllAbove number is → seen number is ≡ full (map bytes is)
seen_above number [] all = refl
seen_above number ([] ∷ is) all = seen_empty number is ∙ seen_above number is all.1
seen_above number ((x ∷ xs) ∷ is) all = rw (nat_lt-yes number x.1 all.0.0) (ap (λ (ts : List (List ℕ)). bytes (x ∷ xs) ∷ ts) (seen_above number is all.1))

bytes-begun : (r : Reached) (is : List (List PlacedByte)) → map bytes (begun r is) ≡ begun r (map bytes is)
bytes-begun r is = elim (cases_Bool (is_between r)) [ inl t ↦ rw t refl | inr f ↦ rw f (of_rest is) ]
  where
    of_rest : (js : List (List PlacedByte)) → map bytes (but_first js) ≡ but_first (map bytes js)
    of_rest [] = refl
    of_rest (j ∷ js) = refl

pub all_after : (number : ℕ) (r : Reached) (s : List PlacedByte) → Above number s → after_number number r s ≡ full (begun r (texts r (bytes s)))
all_after number r s a =
    seen_above number (begun r (cut_from r s)) (above_begun number r (cut_from r s) (above_cut number r s a))
    ∙ ap full (bytes-begun r (cut_from r s) ∙ ap (begun r) (texts_read r s))

-- ---- what comes after counts by what is read of it

texts_byte : (r : Reached) (x : ℕ) (s t : List ℕ) → texts (after_byte r x) s ≡ texts (after_byte r x) t → texts r (x ∷ s) ≡ texts r (x ∷ t)
texts_byte r x s t e =
    elim (cases_Bool (is_gap r x)) [
      | inl g ↦ rw g e
      | inr h ↦ elim (cases_Bool (ends r x)) [
        | inl d ↦ rw (h, d) (ap (λ (ts : List (List ℕ)). [] ∷ ts) e)
        | inr f ↦ rw (h, f) (ap (with_first_byte x) e)
      ]
    ]

pub texts_after_text : (r : Reached) (u s t : List ℕ) → texts (after r u) s ≡ texts (after r u) t → texts r (u ++ s) ≡ texts r (u ++ t)
texts_after_text r [] s t e = e
texts_after_text r (x ∷ u) s t e = texts_byte r x (u ++ s) (u ++ t) (texts_after_text (after_byte r x) u s t e)

-- the parts of a text, joined, are read as the text
concat_first : (x : ℕ) (ps : List (List ℕ)) → concat (with_first_byte x ps) ≡ x ∷ concat ps
concat_first x [] = refl
concat_first x (p ∷ ps) = refl

pub parts_read : (r : Reached) (s t : List ℕ) → texts r (concat (parts r s) ++ t) ≡ texts r (s ++ t)
parts_read r [] t = refl
parts_read r (x ∷ xs) t =
    let ps = parts (after_byte r x) xs in
    let later = parts_read (after_byte r x) xs t in
    elim (step_of r x) [
      | inl g ↦ rw g.gap (ap (λ (q : Reached). texts q (concat ps ++ t)) (g.before ∙ sym g.after) ∙ later)
      | inr (inl e) ↦
          let whole : parts r (x ∷ xs) ≡ (x ∷ []) ∷ ps = rw (e.gap, e.end) refl in
          ap (λ (qs : List (List ℕ)). texts r (concat qs ++ t)) whole ∙ texts_byte r x (concat ps ++ t) (xs ++ t) later
      | inr (inr w) ↦
          let whole : parts r (x ∷ xs) ≡ with_first_byte x ps = rw (w.gap, w.end) refl in
          ap (λ (s : List ℕ). texts r (s ++ t)) (ap concat whole ∙ concat_first x ps) ∙ texts_byte r x (concat ps ++ t) (xs ++ t) later
    ]
