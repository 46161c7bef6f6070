-- An item, once its block is edited.
use Rattle.std.proofs.Common.{◌≡◌, ℕ, zero, suc, Contains, get_or, length, ◌<◌, ◌≤◌, ◌&&◌, Bool, true, false, List, [], ◌∷◌, ◌++◌, append_assoc, filter, map}
use Rattle.std.proofs.Common.{nat_le, nat_lt, Some, refl, ap, arith, subst, ◌∙◌}
use Rattle.std.specs.List.{AllByRecursion}
use Rattle.std.proofs.lemmas.Bool.{le-leb, le-ltb, lt-leb, lt-ltb}
use Rattle.std.proofs.lemmas.List.{append-nil}
use Rattle.std.proofs.lemmas.List.Elements.{filter-append}
use Rattle.ti_source.specs.Folding.{PlacedByte}
use Rattle.ti_source.specs.Items.{bytes}
use Rattle.source_spans.specs.Parts.{end_of, spanned}
use Rattle.source_spans.specs.declared.parts.Part.{Part}
use Rattle.source_edits.specs.Edits.{EditSeen}
use Rattle.source_edits.specs.Laws.{IsInOrder, edited}

all_kept : (p : PlacedByte → Bool) (xs : List PlacedByte) → AllByRecursion (λ (x : PlacedByte). p x ≡ true) xs → filter p xs ≡ xs
all_kept p [] all = refl
all_kept p (x ∷ xs) all = rw all.0 (ap (λ (t : List PlacedByte). x ∷ t) (all_kept p xs all.1))

none_kept : (p : PlacedByte → Bool) (xs : List PlacedByte) → AllByRecursion (λ (x : PlacedByte). p x ≡ false) xs → filter p xs ≡ []
none_kept p [] none = refl
none_kept p (x ∷ xs) none = rw none.0 (none_kept p xs none.1)

-- the parts of an item before, in and after the part that is exchanged
pub record IsCutAt (start end : ℕ) (front middle back : List PlacedByte) : Type 0 where
  pub before : AllByRecursion (λ (x : PlacedByte). x.1 < start) front
  pub within : AllByRecursion (λ (x : PlacedByte). (start ≤ x.1) × (x.1 < end)) middle
  pub after : AllByRecursion (λ (x : PlacedByte). end ≤ x.1) back
  pub forward : start ≤ end

mapped : (P Q : PlacedByte → Type 0) (xs : List PlacedByte) → ((x : PlacedByte) → P x → Q x) → AllByRecursion P xs → AllByRecursion Q xs
mapped P Q [] f all = tt
mapped P Q (x ∷ xs) f all = (f x all.0, mapped P Q xs f all.1)

three_filtered : (p : PlacedByte → Bool) (front middle back : List PlacedByte) → filter p (front ++ (middle ++ back)) ≡ filter p front
    ++ (filter p middle ++ filter p back)
three_filtered p front middle back = filter-append p front (middle ++ back) ∙ ap (λ (t : List PlacedByte). filter p front ++ t) (filter-append p middle back)

front_kept : (start end : ℕ) (front middle back : List PlacedByte) → IsCutAt start end front middle back
    → filter (λ (x : PlacedByte). nat_lt x.1 start) (front ++ (middle ++ back)) ≡ front
front_kept start end front middle back cut =
    let p : PlacedByte → Bool = λ x. nat_lt x.1 start in
    three_filtered p front middle back
    ∙ (rw (
      all_kept p front (mapped (λ x. x.1 < start) (λ x. p x ≡ true) front (λ x l. lt-ltb x.1 start l) cut.before),
      none_kept p middle (mapped (λ x. (start ≤ x.1) × (x.1 < end)) (λ x. p x ≡ false) middle (λ x l. le-ltb x.1 start l.0) cut.within),
      none_kept p back (mapped (λ x. end ≤ x.1) (λ x. p x ≡ false) back (λ x l. le-ltb x.1 start (let f = cut.forward in omega (arith, f, l))) cut.after),
    )
    (append-nil front))

back_kept : (start end : ℕ) (front middle back : List PlacedByte) → IsCutAt start end front middle back
    → filter (λ (x : PlacedByte). nat_le end x.1) (front ++ (middle ++ back)) ≡ back
back_kept start end front middle back cut =
    let p : PlacedByte → Bool = λ x. nat_le end x.1 in
    three_filtered p front middle back
    ∙ (rw (
      none_kept p front (mapped (λ x. x.1 < start) (λ x. p x ≡ false) front (λ x l. lt-leb end x.1 (let f = cut.forward in omega (arith, f, l))) cut.before),
      none_kept p middle (mapped (λ x. (start ≤ x.1) × (x.1 < end)) (λ x. p x ≡ false) middle (λ x l. lt-leb end x.1 l.1) cut.within),
      all_kept p back (mapped (λ x. end ≤ x.1) (λ x. p x ≡ true) back (λ x l. le-leb end x.1 l) cut.after),
    ) refl)

pub middle_kept : (start end : ℕ) (front middle back : List PlacedByte) → IsCutAt start end front middle back
    → filter (λ (x : PlacedByte). nat_le start x.1 && nat_lt x.1 end) (front ++ (middle ++ back)) ≡ middle
middle_kept start end front middle back cut =
    let p : PlacedByte → Bool = λ x. nat_le start x.1 && nat_lt x.1 end in
    three_filtered p front middle back
    ∙ (rw (
      none_kept p front (mapped (λ x. x.1 < start) (λ x. p x ≡ false) front (λ x l. rw (lt-leb start x.1 l) refl) cut.before),
      all_kept p middle
          (mapped (λ x. (start ≤ x.1) × (x.1 < end)) (λ x. p x ≡ true) middle (λ x l. rw (le-leb start x.1 l.0, lt-ltb x.1 end l.1) refl) cut.within),
      none_kept p back (mapped (λ x. end ≤ x.1) (λ x. p x ≡ false) back
          (λ x l. rw (le-leb start x.1 (let f = cut.forward in omega (arith, f, l)), le-ltb x.1 end l) refl) cut.after),
    )
    (append-nil middle))

-- the part is exchanged
pub edited_cut : (edit : EditSeen) (front middle back : List PlacedByte) → IsCutAt edit.part.start edit.part.end front middle back
    → edited (front ++ (middle ++ back)) edit ≡ bytes front ++ edit.text ++ bytes back
edited_cut edit front middle back cut =
    rw (front_kept edit.part.start edit.part.end front middle back cut, back_kept edit.part.start edit.part.end front middle back cut) refl

-- ---- the parts of an item in order

rising_parts : (front : List PlacedByte) (x : PlacedByte) (back : List PlacedByte) → IsInOrder (front ++ x ∷ back)
    → AllByRecursion (λ (y : PlacedByte). y.1 < x.1) front × AllByRecursion (λ (y : PlacedByte). x.1 < y.1) back × IsInOrder (x ∷ back)
rising_parts [] x back order = (tt, unmapped back order.0, order)
  where
    unmapped : (xs : List PlacedByte) → AllByRecursion (λ (n : ℕ). x.1 < n) (map (λ (y : PlacedByte). y.1) xs)
        → AllByRecursion (λ (y : PlacedByte). x.1 < y.1) xs
    unmapped [] all = tt
    unmapped (y ∷ ys) all = (all.0, unmapped ys all.1)
rising_parts (y ∷ ys) x back order =
    let later = rising_parts ys x back order.1 in
    ((first ys order.0, later.0), later.1, later.2)
  where
    first : (xs : List PlacedByte) → AllByRecursion (λ (n : ℕ). y.1 < n) (map (λ (z : PlacedByte). z.1) (xs ++ x ∷ back)) → y.1 < x.1
    first [] all = all.0
    first (z ∷ zs) all = first zs all.1

-- one byte
pub one_byte : (front : List PlacedByte) (x : PlacedByte) (back : List PlacedByte) → IsInOrder (front ++ x ∷ back) → IsCutAt x.1 (suc x.1) front (x ∷ []) back
one_byte front x back order =
    let parts = rising_parts front x back order in
    record {
      before = parts.0;
      within = ((omega arith, omega arith), tt);
      after = mapped (λ y. x.1 < y.1) (λ y. suc x.1 ≤ y.1) back (λ y l. omega (arith, l)) parts.1;
      forward = omega arith;
    }

all_before_end : (x : PlacedByte) (xs : List PlacedByte) → IsInOrder (x ∷ xs)
    → AllByRecursion (λ (y : PlacedByte). (x.1 ≤ y.1) × (y.1 < end_of (suc x.1) xs)) (x ∷ xs)
all_before_end x [] order = ((omega arith, omega arith), tt)
all_before_end x (y ∷ ys) order =
    let later = all_before_end y ys order.1 in
    let next : x.1 < y.1 = order.0.0 in (
      (omega arith, let l = later.0.1 in omega (arith, l, next)),
      mapped (λ z. (y.1 ≤ z.1) × (z.1 < end_of (suc y.1) ys)) (λ z. (x.1 ≤ z.1) × (z.1 < end_of (suc y.1) ys)) (y ∷ ys)
          (λ z l. (let a = l.0 in omega (arith, a, next), l.1)) later,
    )

-- what is left from a byte on
pub all_left : (front : List PlacedByte) (x : PlacedByte) (xs : List PlacedByte) → IsInOrder (front ++ x ∷ xs)
    → IsCutAt x.1 (end_of (suc x.1) xs) front (x ∷ xs) []
all_left front x xs order =
    let parts = rising_parts front x xs order in
    let within = all_before_end x xs parts.2 in
    record {
      before = parts.0;
      within = within;
      after = tt;
      forward = let l = within.0.1 in omega (arith, l);
    }

-- what a text begins with
mapped_offsets : (n : ℕ) (xs ys : List PlacedByte) → AllByRecursion (λ (m : ℕ). n < m) (map (λ (y : PlacedByte). y.1) (xs ++ ys))
    → AllByRecursion (λ (m : ℕ). n < m) (map (λ (y : PlacedByte). y.1) xs)
mapped_offsets n [] ys all = tt
mapped_offsets n (x ∷ xs) ys all = (all.0, mapped_offsets n xs ys all.1)

front_rises : (xs ys : List PlacedByte) → IsInOrder (xs ++ ys) → IsInOrder xs
front_rises [] ys order = tt
front_rises (x ∷ xs) ys order = (mapped_offsets x.1 xs ys order.0, front_rises xs ys order.1)

past_end : (x : PlacedByte) (xs ys : List PlacedByte) → IsInOrder (x ∷ (xs ++ ys)) → AllByRecursion (λ (y : PlacedByte). end_of (suc x.1) xs ≤ y.1) ys
past_end x [] ys order = after ys order.0
  where
    after : (zs : List PlacedByte) → AllByRecursion (λ (m : ℕ). x.1 < m) (map (λ (z : PlacedByte). z.1) zs)
        → AllByRecursion (λ (z : PlacedByte). suc x.1 ≤ z.1) zs
    after [] all = tt
    after (z ∷ zs) all = (let l = all.0 in omega (arith, l), after zs all.1)
past_end x (y ∷ ys) zs order = past_end y ys zs order.1

pub front_cut : (x : PlacedByte) (xs rest : List PlacedByte) → IsInOrder (x ∷ (xs ++ rest)) → IsCutAt x.1 (end_of (suc x.1) xs) [] (x ∷ xs) rest
front_cut x xs rest order =
    let within = all_before_end x xs (front_rises (x ∷ xs) rest order) in
    record {
      before = tt;
      within = within;
      after = past_end x xs rest order;
      forward = let l = within.0.1 in omega (arith, l);
    }

-- ---- any part of an item

pub any_cut : (front : List PlacedByte) (x : PlacedByte) (xs back : List PlacedByte) → IsInOrder (front ++ x ∷ (xs ++ back))
    → IsCutAt x.1 (end_of (suc x.1) xs) front (x ∷ xs) back
any_cut front x xs back order =
    let parts = rising_parts front x (xs ++ back) order in
    let within = all_before_end x xs (front_rises (x ∷ xs) back parts.2) in
    record {
      before = parts.0;
      within = within;
      after = past_end x xs back parts.2;
      forward = let l = within.0.1 in omega (arith, l);
    }

-- the text of an item once a part of it is exchanged
pub edited_at : (edit : EditSeen) (front middle back : List PlacedByte) → IsInOrder (front ++ (middle ++ back)) → spanned middle ≡ Some edit.part
    → edited (front ++ (middle ++ back)) edit ≡ bytes front ++ (edit.text ++ bytes back)
edited_at edit front [] back order there = absurd cc
edited_at edit front (x ∷ xs) back order there =
    let one : Part = record { start = x.1; end = end_of (suc x.1) xs } in
    let same : one ≡ edit.part = cc in
    edited_cut edit front (x ∷ xs) back (subst (λ (p : Part). IsCutAt p.start p.end front (x ∷ xs) back) same (any_cut front x xs back order))
    ∙ append_assoc (bytes front) edit.text (bytes back)

-- ---- edits in a list

pub no_edit : (edit : EditSeen) → Contains {X = EditSeen} [] edit → ⊥
no_edit edit has = let l = has.1 in omega (arith, l)

pub only_edit : (one edit : EditSeen) → Contains (one ∷ []) edit → one ≡ edit
only_edit one edit has = at has.0 has.1 has.2
  where
    at : (k : ℕ) → k < length (one ∷ []) → get_or (one ∷ []) k edit ≡ edit → one ≡ edit
    at zero within is = is
    at (suc k) within is = absurd (omega (arith, within))
