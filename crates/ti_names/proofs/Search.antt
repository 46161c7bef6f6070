-- What a search of the keys of an index says of the words of its list.
use Rattle.std.proofs.Common.{◌≡◌, ◌≢◌, ℕ, zero, suc, ◌<◌, ◌≤◌, Bool, true, false, if◌then◌else◌, inl, inr, List, [], ◌∷◌, length, get_or, Some, None}
use Rattle.std.proofs.Common.{refl, sym, ◌∙◌, ap, subst, arith, ltb-true, bytes_eq}
use Rattle.std.specs.List.{Contains}
use Rattle.std.proofs.lemmas.Bool.{and_parts, cases_lt}
use Rattle.std.proofs.lemmas.List.{get_or-map, length-map}
use Rattle.std.proofs.lemmas.List.Elements.{at_from_Contains}
use Rattle.std.proofs.lemmas.Slice.Eq.{bytes_eq-Decides}
use Rattle.ti_names.specs.Names.{last_place_of}
use Rattle.ti_names.specs.inside.Index.{IsIndex, IsIndexed, climbs, climbs_from, key_of, word_at}
use Rattle.ti_names.proofs.Places.{PlaceSays, is_last_place}

-- ---- numbers that rise

above : (x : ℕ) (xs : List ℕ) → climbs_from x xs ≡ true → (j : ℕ) → j < length xs → x < get_or xs j 0
above x [] h j l = absurd (omega arith)
above x (y ∷ ys) h zero l = ltb-true _ _ (and_parts _ _ h).0
above x (y ∷ ys) h (suc j) l =
    let low : x < y = ltb-true _ _ (and_parts _ _ h).0 in
    let high : y < get_or ys j 0 = above y ys (and_parts _ _ h).1 j (omega arith) in
    omega (arith, low, high)

apart : (x : ℕ) (xs : List ℕ) → climbs_from x xs ≡ true → (i j : ℕ) → i < j → j < length (x ∷ xs) → get_or (x ∷ xs) i 0 < get_or (x ∷ xs) j 0
apart x xs h zero zero low l = absurd (omega arith)
apart x xs h zero (suc j) low l = above x xs h j (omega arith)
apart x [] h (suc i) j low l = absurd (omega arith)
apart x (y ∷ ys) h (suc i) zero low l = absurd (omega arith)
apart x (y ∷ ys) h (suc i) (suc j) low l = apart y ys (and_parts _ _ h).1 i j (omega arith) (omega arith)

rise_from : (xs : List ℕ) → climbs xs ≡ true → (i j : ℕ) → i < j → j < length xs → get_or xs i 0 < get_or xs j 0
rise_from [] h i j low l = absurd (omega arith)
rise_from (x ∷ xs) h i j low l = apart x xs h i j low l

-- ---- the rows of an index

module _ (words : List (List ℕ)) (keys places : List ℕ) (index : IsIndex words keys places) where
  -- the place of a row
  abbrev place_in : ℕ → ℕ
  place_in row = get_or places row 0

  pub as_long : length keys ≡ length places
  as_long = ap (λ ks. length ks) index.keyed ∙ length-map places (λ p. key_of (word_at words p))

  pub keys_do_not_fall : (i j : ℕ) → i ≤ j → j < length keys → get_or keys i 0 ≤ get_or keys j 0
  keys_do_not_fall i j l within = elim (cases_lt i j) [
    | inl below ↦ let rise = rise_from keys index.rise i j below within in omega (arith, rise)
    | inr not_below ↦ let one : i ≡ j = omega arith in rw one (omega arith)
  ]

  -- the key of a row is that of its word
  key_at : (row : ℕ) → row < length places → get_or keys row 0 ≡ key_of (word_at words (place_in row))
  key_at row l = ap (λ ks. get_or ks row 0) index.keyed ∙ get_or-map (λ p. key_of (word_at words p)) places row 0 0 l

  -- only one row has a key
  one_row : (x : List ℕ) (i j : ℕ) → i < length places → j < length places → get_or keys i 0 ≡ key_of x → get_or keys j 0 ≡ key_of x → i ≡ j
  one_row x i j here there first second = elim (cases_lt i j) [
    | inl below ↦ let rise = rise_from keys index.rise i j below (rw as_long there) in absurd (omega (arith, rise, first, second))
    | inr not_below ↦ elim (cases_lt j i) [
      | inl over ↦ let rise = rise_from keys index.rise j i over (rw as_long here) in absurd (omega (arith, rise, first, second))
      | inr not_over ↦ omega arith
    ]
  ]

  -- each word has a row, whose place is its own or a later one
  record HasRow (x : List ℕ) (k : ℕ) : Type 0 where
    row : ℕ
    within : row < length places
    later : k ≤ place_in row
    same : word_at words (place_in row) ≡ x
    key : get_or keys row 0 ≡ key_of x

  row_of : (x : List ℕ) (k : ℕ) → k < length words → word_at words k ≡ x → HasRow x k
  row_of x k l same =
      let there : IsIndexed words places k = index.all k l in
      let (j, within, at) = at_from_Contains places there.place there.listed in
      let is : place_in j ≡ there.place = at 0 in
      let word : word_at words (place_in j) ≡ x = ap (λ p. word_at words p) is ∙ there.same ∙ same in
      record {
        row = j;
        within = within;
        later = subst (λ p. k ≤ p) (sym is) there.later;
        same = word;
        key = key_at j within ∙ ap key_of word;
      }

  -- what the row with the key of a word says of the word
  says_in_row : (x : List ℕ) (row : ℕ) → row < length places → get_or keys row 0 ≡ key_of x → (b : Bool) → bytes_eq (word_at words (place_in row)) x ≡ b
      → PlaceSays x words (if b then Some (place_in row) else None)
  unfolding PlaceSays
  says_in_row x row within at true e = (
    index.within row within,
    (bytes_eq-Decides _ x).0 e,
    λ k later l same.
        let other : HasRow x k = row_of x k l same in
        let one : other.row ≡ row = one_row x other.row row other.within within other.key at in
        let high : k ≤ place_in row = subst (λ r. k ≤ place_in r) one other.later in
        omega (arith, later, high),
  )
  says_in_row x row within at false e = λ k l same.
      let other : HasRow x k = row_of x k l same in
      let one : other.row ≡ row = one_row x other.row row other.within within other.key at in
      let t = (bytes_eq-Decides _ x).1 (subst (λ r. word_at words (place_in r) ≡ x) one other.same) in
      cc

  pub is_in_row : (x : List ℕ) (row : ℕ) → row < length keys → get_or keys row 0 ≡ key_of x
      → (if bytes_eq (word_at words (place_in row)) x then Some (place_in row) else None) ≡ last_place_of x words
  is_in_row x row within at =
      is_last_place x words _ (says_in_row x row (subst (λ n. row < n) as_long within) at (bytes_eq (word_at words (place_in row)) x) refl)

  -- a word whose key no row has is nowhere
  pub is_nowhere : (x : List ℕ) → ((row : ℕ) → row < length keys → get_or keys row 0 ≢ key_of x) → None ≡ last_place_of x words
  unfolding PlaceSays
  is_nowhere x none = is_last_place x words None (λ k l same.
      let other : HasRow x k = row_of x k l same in
      none other.row (rw as_long other.within) other.key)

  -- a place that a row has is the last of its word
  pub is_last : (i : ℕ) → i < length words → Contains places i → Some i ≡ last_place_of (word_at words i) words
  is_last i l listed =
      let (row, within, at) = at_from_Contains places i listed in
      let is : place_in row ≡ i = at 0 in
      let word : word_at words (place_in row) ≡ word_at words i = ap (λ p. word_at words p) is in
      let found = is_in_row (word_at words i) row (rw as_long within) (key_at row within ∙ ap key_of word) in
      let same : bytes_eq (word_at words (place_in row)) (word_at words i) ≡ true = (bytes_eq-Decides _ _).1 word in
      ap (λ p. Some p) (sym is) ∙ sym (ap (λ b. if b then Some (place_in row) else None) same) ∙ found

  -- the key of a word whose place a row has
  pub key_of_last : (i : ℕ) → Contains places i → (row : ℕ) × (row < length keys) × (get_or keys row 0 ≡ key_of (word_at words i))
  key_of_last i listed =
      let (row, within, at) = at_from_Contains places i listed in
      (row, rw as_long within, key_at row within ∙ ap (λ p. key_of (word_at words p)) (at 0))
