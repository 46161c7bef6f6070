-- The names of a kind among the rows of an extension, one row after the other, and of two lists.
use Rattle.std.proofs.Common.{◌≡◌, ℕ, ◌+◌, ◌<◌, ◌≤◌, true, false, List, [], ◌∷◌, ◌++◌, length, drop, get_or, slice_get, option_map, Option, Some}
use Rattle.std.proofs.Common.{refl, sym, ◌∙◌, ap, append_assoc, append-nil, add-one, unwrap_or, map, ◌⊎◌, inl, inr}
use Rattle.std.specs.Ordering.{nat_cmp}
use Rattle.std.specs.Cmp.Lexicographic.{slice_cmp}
use Rattle.std.specs.declared.cmp.Ordering.TheVariants.{Less, Equal, Greater}
use Rattle.std.proofs.Math.Seq.{drop-cons}
use Rattle.std.proofs.lemmas.List.{drop_all}
use Rattle.std.proofs.lemmas.Option.{slice_get-get_or}
use Rattle.ti_caps.specs.declared.capability.Kind.{Kind}
use Rattle.ti_layout.specs.Values.{Content}
use Rattle.user_extension.specs.Reading.{ReadRow}
use Rattle.user_listing.specs.Names.{is_of_kind, names_of_both, names_of_kind}

-- what is at a place, and then what follows it
pub rest-at : {X : Type 0} (xs : List X) (place : ℕ) (d : X) → place < length xs → drop place xs ≡ get_or xs place d ∷ drop (place + 1) xs
rest-at xs place d within = rw add-one (drop-cons xs place d within)

-- a row that has a value of the kind
pub names-there : (kind : Kind) (rows : List ReadRow) (place : ℕ) (name : List ℕ) (value : Option Content) (before all : List (List ℕ)) → place < length rows
    → Some name ≡ option_map (λ (row : ReadRow). row.0) (slice_get rows place) → Some value ≡ option_map (λ (row : ReadRow). row.1) (slice_get rows place)
    → is_of_kind kind value ≡ true
    → before ++ names_of_kind kind (drop place rows) ≡ all
    → (before ++ name ∷ []) ++ names_of_kind kind (drop (place + 1) rows) ≡ all
names-there kind rows place name value before all within of_name of_value is invariant =
    let d : ReadRow = (name, value) in
    let r : ReadRow = get_or rows place d in
    let there : slice_get rows place ≡ Some r = slice_get-get_or rows place d within in
    let named : name ≡ r.0 = ap (λ (o : Option (List ℕ)). unwrap_or o name) (of_name ∙ ap (option_map (λ (row : ReadRow). row.0)) there) in
    let valued : value ≡ r.1 = ap (λ (o : Option (Option Content)). unwrap_or o value) (of_value ∙ ap (option_map (λ (row : ReadRow). row.1)) there) in
    let kinded : is_of_kind kind r.1 ≡ true = rw (← valued) is in
    let of : names_of_kind kind (r ∷ drop (place + 1) rows) ≡ r.0 ∷ names_of_kind kind (drop (place + 1) rows) = rw kinded refl in
    append_assoc before (name ∷ []) _
    ∙ ap (λ (t : List (List ℕ)). before ++ t) (ap (λ (n : List ℕ). n ∷ names_of_kind kind (drop (place + 1) rows)) named ∙ sym of
    ∙ ap (names_of_kind kind) (sym (rest-at rows place d within)))
    ∙ invariant

-- a row that has none
pub names-not : (kind : Kind) (rows : List ReadRow) (place : ℕ) (value : Option Content) (before all : List (List ℕ)) → place < length rows
    → Some value ≡ option_map (λ (row : ReadRow). row.1) (slice_get rows place) → is_of_kind kind value ≡ false
    → before ++ names_of_kind kind (drop place rows) ≡ all
    → before ++ names_of_kind kind (drop (place + 1) rows) ≡ all
names-not kind rows place value before all within of_value is invariant =
    let d : ReadRow = ([], value) in
    let r : ReadRow = get_or rows place d in
    let there : slice_get rows place ≡ Some r = slice_get-get_or rows place d within in
    let valued : value ≡ r.1 = ap (λ (o : Option (Option Content)). unwrap_or o value) (of_value ∙ ap (option_map (λ (row : ReadRow). row.1)) there) in
    let kinded : is_of_kind kind r.1 ≡ false = rw (← valued) is in
    let of : names_of_kind kind (r ∷ drop (place + 1) rows) ≡ names_of_kind kind (drop (place + 1) rows) = rw kinded refl in
    ap (λ (t : List (List ℕ)). before ++ t) (sym of ∙ ap (names_of_kind kind) (sym (rest-at rows place d within))) ∙ invariant

-- ---- the names of both lists, by their first ones

pub both-less : (x y : List ℕ) (xs ys : List (List ℕ)) → slice_cmp nat_cmp x y ≡ Less → names_of_both (x ∷ xs) (y ∷ ys) ≡ x ∷ names_of_both xs (y ∷ ys)
both-less x y xs ys is = rw is refl

pub both-equal : (x y : List ℕ) (xs ys : List (List ℕ)) → slice_cmp nat_cmp x y ≡ Equal → names_of_both (x ∷ xs) (y ∷ ys) ≡ x ∷ names_of_both xs ys
both-equal x y xs ys is = rw is refl

pub both-greater : (x y : List ℕ) (xs ys : List (List ℕ)) → slice_cmp nat_cmp x y ≡ Greater → names_of_both (x ∷ xs) (y ∷ ys) ≡ y ∷ names_of_both (x ∷ xs) ys
both-greater x y xs ys is = rw is refl

pub both-left : (xs : List (List ℕ)) → names_of_both xs [] ≡ xs
both-left [] = refl
both-left (x ∷ xs) = refl

module _ {X : Type 0} (f : X → List ℕ) (one other : List X) (left right : ℕ) where
  -- one of the lists is at its end
  pub both-ended : (names all : List (List ℕ)) → (length one ≤ left) ⊎ (length other ≤ right)
      → names ++ names_of_both (map f (drop left one)) (map f (drop right other)) ≡ all → (names ++ map f (drop left one)) ++ map f (drop right other) ≡ all
  both-ended names all (inl past) invariant =
      let none : drop left one ≡ [] = drop_all left one past in
      let here : names_of_both (map f (drop left one)) (map f (drop right other)) ≡ map f (drop right other) =
      ap (λ (xs : List X). names_of_both (map f xs) (map f
      (drop right other))) none in
      let front : names ++ map f (drop left one) ≡ names = ap (λ (xs : List X). names ++ map f xs) none ∙ append-nil names in
      ap (λ (ns : List (List ℕ)). ns ++ map f (drop right other)) front ∙ ap (λ (ns : List (List ℕ)). names ++ ns) (sym here) ∙ invariant
  both-ended names all (inr past) invariant =
      let none : drop right other ≡ [] = drop_all right other past in
      let here : names_of_both (map f (drop left one)) (map f (drop right other)) ≡ map f (drop left one) =
      ap (λ (xs : List X). names_of_both (map f (drop left one)) (map f xs)) none ∙ both-left (map f (drop left one)) in
      ap (λ (xs : List X). (names ++ map f (drop left one)) ++ map f xs) none ∙ append-nil (names ++ map f (drop left one))
      ∙ ap (λ (ns : List (List ℕ)). names ++ ns) (sym here) ∙ invariant
