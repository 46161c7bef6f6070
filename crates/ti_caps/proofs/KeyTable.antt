-- What a search of the keys says of the names.
use Rattle.std.proofs.Common.{◌≡◌, ◌≢◌, ℕ, zero, suc, ◌<◌, ◌≤◌, Bool, true, ◌&&◌, nat_lt, inl, inr, List, [], ◌∷◌, map, length, get_or, Option, Some, None}
use Rattle.std.proofs.Common.{IfNone, refl, sym, ◌∙◌, ap, subst, arith, ltb-true}
use Rattle.std.proofs.lemmas.Bool.{and_parts, cases_lt}
use Rattle.std.proofs.lemmas.List.{get_or-map, length-map}
use Rattle.ti_caps.specs.declared.keys.TheConstants.{KEYS}
use Rattle.ti_caps.specs.declared.tables.TheConstants.{BY_NAME}
use Rattle.ti_caps.specs.Names.{flag_names, number_names, text_names}
use Rattle.ti_caps.specs.Tables.{Capability, IsCapability, name_of, names}
use Rattle.ti_caps.specs.inside.Lookup.{NameRow, capability_numbered, row_of, by_name}
use Rattle.ti_caps.specs.inside.Lookup.{IsTableRow, IsOfAnother, HasNoRow}
use Rattle.ti_caps.specs.inside.Keys.{key_of}
use Rattle.ti_caps.proofs.Table.{row_names}

-- each key is that of the name at its place
keys_are : KEYS ≡ map (λ (r : NameRow). key_of r.0) by_name
unfolding by_name key_of names flag_names number_names text_names
keys_are = refl

-- numbers that rise from one to the next
abbrev climbs_from : ℕ → List ℕ → Bool
climbs_from x [] = true
climbs_from x (y ∷ ys) = nat_lt x y && climbs_from y ys

abbrev climbs : List ℕ → Bool
climbs [] = true
climbs (x ∷ xs) = climbs_from x xs

above : (x : ℕ) (xs : List ℕ) → climbs_from x xs ≡ true → (j : ℕ) → j < length xs → x < get_or xs j 0
above x [] h j l = absurd (omega arith)
above x (y ∷ ys) h zero l = ltb-true _ _ (and_parts _ _ h).0
above x (y ∷ ys) h (suc j) l =
    let low : x < y = ltb-true _ _ (and_parts _ _ h).0 in
    let high : y < get_or ys j 0 = above y ys (and_parts _ _ h).1 j (omega arith) in
    omega (arith, low, high)

apart : (x : ℕ) (xs : List ℕ) → climbs_from x xs ≡ true → (i j : ℕ) → i < j → j < length (x ∷ xs) → get_or (x ∷ xs) i 0 < get_or (x ∷ xs) j 0
apart x xs h zero zero low l = absurd (omega arith)
apart x xs h zero (suc j) low l = above x xs h j (omega arith)
apart x [] h (suc i) j low l = absurd (omega arith)
apart x (y ∷ ys) h (suc i) zero low l = absurd (omega arith)
apart x (y ∷ ys) h (suc i) (suc j) low l = apart y ys (and_parts _ _ h).1 i j (omega arith) (omega arith)

rise_from : (xs : List ℕ) → climbs xs ≡ true → (i j : ℕ) → i < j → j < length xs → get_or xs i 0 < get_or xs j 0
rise_from [] h i j low l = absurd (omega arith)
rise_from (x ∷ xs) h i j low l = apart x xs h i j low l

keys_climb : climbs KEYS ≡ true
keys_climb = refl

pub keys_rise : (i j : ℕ) → i < j → j < length KEYS → get_or KEYS i 0 < get_or KEYS j 0
keys_rise = rise_from KEYS keys_climb

pub keys_do_not_fall : (i j : ℕ) → i ≤ j → j < length KEYS → get_or KEYS i 0 ≤ get_or KEYS j 0
keys_do_not_fall i j l within = elim (cases_lt i j) [
  | inl below ↦ let rise = keys_rise i j below within in omega (arith, rise)
  | inr not_below ↦ let one : i ≡ j = omega arith in rw one (omega arith)
]

-- there are as many keys as rows
pub as_long : length KEYS ≡ length by_name
unfolding by_name
as_long = refl

-- the key at the place of a row is that of its name
key_at : (x : List ℕ) (k : ℕ) (d : NameRow) → k < length by_name → (get_or by_name k d).0 ≡ x → get_or KEYS k 0 ≡ key_of x
key_at x k d within same = ap (λ ks. get_or ks k 0) keys_are ∙ get_or-map (λ (r : NameRow). key_of r.0) by_name k d 0 within ∙ ap key_of same

-- if the one row of a key has another name, no row has the name
pub only_place : (x : List ℕ) (i : ℕ) → i < length KEYS → get_or KEYS i 0 ≡ key_of x → ((d : NameRow) → (get_or by_name i d).0 ≢ x) → HasNoRow by_name x
only_place x i there here other = λ k d within same.
    let at : get_or KEYS k 0 ≡ key_of x = key_at x k d within same in
    let inside : k < length KEYS = rw as_long within in
    elim (cases_lt i k) [
      | inl above ↦ let rise = keys_rise i k above inside in absurd (omega (arith, rise, at, here))
      | inr not_above ↦ elim (cases_lt k i) [
        | inl below ↦ let rise = keys_rise k i below there in absurd (omega (arith, rise, at, here))
        | inr not_below ↦ let one : k ≡ i = omega arith in other d (subst (λ (n : ℕ). (get_or by_name n d).0 ≡ x) one same)
      ]
    ]

-- if no row has that key, no row has the name
pub no_place : (x : List ℕ) (i : ℕ) → ((k : ℕ) → k < i → get_or KEYS k 0 < key_of x) → ((k : ℕ) → i ≤ k → k < length KEYS → key_of x < get_or KEYS k 0)
    → HasNoRow by_name x
no_place x i low high = λ k d within same.
    let at : get_or KEYS k 0 ≡ key_of x = key_at x k d within same in
    let inside : k < length KEYS = rw as_long within in
    elim (cases_lt k i) [
      | inl below ↦ let less = low k below in absurd (omega (arith, less, at))
      | inr above ↦ let more = high k above inside in absurd (omega (arith, more, at))
    ]

-- there are as many numbers in the order by name as rows
pub numbers_as_long : length BY_NAME ≡ length by_name
unfolding by_name
numbers_as_long = sym (length-map BY_NAME (λ n. row_of (capability_numbered n)))

-- the row at a place is that of the capability whose number is there
row_at_place : (i n : ℕ) (d : NameRow) → i < length by_name → n ≡ get_or BY_NAME i 0 → get_or by_name i d ≡ row_of (capability_numbered n)
unfolding by_name
row_at_place i n d within at =
    get_or-map (λ m. row_of (capability_numbered m)) BY_NAME i 0 d (rw numbers_as_long within) ∙ ap (λ m. row_of (capability_numbered m)) (sym at)

module _ (i n : ℕ) (c : Capability) (within : i < length by_name) (at : n ≡ get_or BY_NAME i 0) (is : c ≡ capability_numbered n) where
  -- the number is that of a capability
  pub is_there : IsCapability c
  is_there = rw is (row_names (row_of (capability_numbered n)) (i, within, row_at_place i n (row_of (capability_numbered n)) within at)).0

  -- a row with that name is a row of the name
  pub row_here : (x : List ℕ) → name_of c ≡ x → IsTableRow by_name x c.kind c.index
  row_here x same = (i, within, row_at_place i n (x, c.kind, c.index) within at ∙ ap row_of (sym is) ∙ ap (λ (m : List ℕ). (m, c.kind, c.index)) same)

  -- a row with another name is a row of another name
  pub other_here : (x : List ℕ) → name_of c ≢ x → IsOfAnother by_name i x
  other_here x other = λ d same. other (ap name_of is ∙ sym (ap (λ (r : NameRow). r.0) (row_at_place i n d within at)) ∙ same)

-- what follows if there is no row
pub none_then : {X P Q : Type 0} → (o : Option X) → (P → Q) → IfNone o P → IfNone o Q
none_then None so h = so h
none_then (Some x) so h = tt
