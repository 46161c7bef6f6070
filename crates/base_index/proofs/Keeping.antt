-- What an order of ids keeps as an id is put in or taken out.
use Rattle.std.proofs.Common.{◌≡◌, ℕ, zero, suc, ◌+◌, ◌^◌, ◌<◌, ◌≤◌, ◌⊎◌, inl, inr, List, [], ◌∷◌, ◌++◌, length, set, Some, slice_get, refl, sym, ◌∙◌, ap}
use Rattle.std.proofs.Common.{arith, length-set, length-append}
use Rattle.std.specs.List.{insert, remove}
use Rattle.std.proofs.lemmas.Option.{same_Some, none-some, slice_get_within}
use Rattle.base_index.specs.inside.Labels.{HasLabel, AreLabelled, FitsAt}
use Rattle.ti_text.specs.Lists.{Has}
use Rattle.base_index.specs.inside.Order.{IsOrder}
use Rattle.ti_text.proofs.Lists.{get_front, get_last, push_cases, get-set_same, get-set_other, item_at}

-- ---- elements of a list that one was put into, or taken out of

pub insert_cases : (xs : List ℕ) (p x i y : ℕ) → p ≤ length xs → slice_get (insert xs p x) i ≡ Some y → ((i < p) × (slice_get xs i ≡ Some y))
    ⊎ (((i ≡ p) × (y ≡ x)) ⊎ ((j : ℕ) × (i ≡ suc j) × (p ≤ j) × (slice_get xs j ≡ Some y)))
insert_cases xs zero x zero y l e = inr (inl (refl, sym (same_Some x y e)))
insert_cases xs zero x (suc i) y l e = inr (inr (i, refl, omega arith, e))
insert_cases [] (suc p) x i y l e = absurd (omega arith)
insert_cases (z ∷ xs) (suc p) x zero y l e = inl (omega arith, e)
insert_cases (z ∷ xs) (suc p) x (suc i) y l e =
    elim (insert_cases xs p x i y (omega arith) e) [
      | inl before ↦ inl ((let a = before.0 in omega arith), before.1)
      | inr late ↦ elim late [
        | inl here ↦ inr (inl (ap suc here.0, here.1))
        | inr behind ↦ inr (inr (suc behind.0, ap suc behind.1, (let a = behind.2 in omega arith), behind.3))
      ]
    ]

pub remove_cases : (xs : List ℕ) (p i y : ℕ) → slice_get (remove xs p) i ≡ Some y → ((i < p) × (slice_get xs i ≡ Some y))
    ⊎ ((p ≤ i) × (slice_get xs (suc i) ≡ Some y))
remove_cases [] zero i y e = absurd (none-some y e)
remove_cases [] (suc p) i y e = absurd (none-some y e)
remove_cases (z ∷ xs) zero i y e = inr (omega arith, e)
remove_cases (z ∷ xs) (suc p) zero y e = inl (omega arith, e)
remove_cases (z ∷ xs) (suc p) (suc i) y e =
    elim (remove_cases xs p i y e) [
      | inl before ↦ inl ((let a = before.0 in omega arith), before.1)
      | inr behind ↦ inr ((let a = behind.0 in omega arith), behind.1)
    ]

length-insert_at : (xs : List ℕ) (p x : ℕ) → length (insert xs p x) ≡ suc (length xs)
length-insert_at xs zero x = refl
length-insert_at [] (suc p) x = refl
length-insert_at (z ∷ xs) (suc p) x = ap suc (length-insert_at xs p x)

length-remove_at : (xs : List ℕ) (p : ℕ) → p < length xs → suc (length (remove xs p)) ≡ length xs
length-remove_at [] p l = absurd (omega arith)
length-remove_at (z ∷ xs) zero l = refl
length-remove_at (z ∷ xs) (suc p) l = ap suc (length-remove_at xs p (omega arith))

-- ---- labels given anew

pub order_relabelled : (ids labels new free : List ℕ) (m n : ℕ) → IsOrder ids labels free m n → AreLabelled ids new → length new ≡ length labels
    → IsOrder ids new free m n
order_relabelled ids labels new free m n h labelled same = record {
  labelled = labelled;
  ids_known = rw same h.ids_known;
  free_known = rw same h.free_known;
  ids_distinct = h.ids_distinct;
  free_distinct = h.free_distinct;
  apart = h.apart;
  count = rw same h.count;
  few = rw same h.few;
  ids_fit = rw same h.ids_fit;
  free_fit = rw same h.free_fit;
}

-- ---- an id is put in

-- the id that was freed last, and why it is in no list
pub order_fresh : (ids labels free rest : List ℕ) (m n id : ℕ) → IsOrder ids labels free m n → free ≡ rest ++ id ∷ [] → Has ids id → ⊥
order_fresh ids labels free rest m n id h e has = h.apart has.0 (length rest) id has.1 (rw e (get_last rest id))

label_cases : (ids labels free rest : List ℕ) (m n p id x : ℕ) → IsOrder ids labels free m n → free ≡ rest ++ id ∷ [] → p ≤ length ids → (i y : ℕ)
    → HasLabel (insert ids p id) (set labels id x) i y
    → ((i < p) × HasLabel ids labels i y) ⊎ (((i ≡ p) × (y ≡ x)) ⊎ ((j : ℕ) × (i ≡ suc j) × (p ≤ j) × HasLabel ids labels j y))
label_cases ids labels free rest m n p id x h f l i y (a, e, b) =
    let lacks = order_fresh ids labels free rest m n id h f in
    let other : (j : ℕ) → slice_get ids j ≡ Some a → slice_get labels a ≡ Some y = λ j here.
    sym (get-set_other labels id a x (λ same. lacks (j, rw same at here))) ∙ b in
    elim (insert_cases ids p id i a l e) [
      | inl before ↦ inl (before.0, (a, before.1, other i before.1))
      | inr late ↦ elim late [
        | inl here ↦
            let known = h.free_known (length rest) id (rw f (get_last rest id)) in
            let old = item_at labels id known in
            let new = get-set_same labels id old.0 x old.1 in
            inr (inl (here.0, same_Some y x (sym b ∙ rw here.1 new)))
        | inr behind ↦ inr (inr (behind.0, behind.1, behind.2, (a, behind.3, other behind.0 behind.3)))
      ]
    ]

labelled_inserted : (ids labels free rest : List ℕ) (m n p id x : ℕ) → IsOrder ids labels free m n → free ≡ rest ++ id ∷ [] → p ≤ length ids
    → FitsAt ids labels p x → AreLabelled (insert ids p id) (set labels id x)
labelled_inserted ids labels free rest m n p id x h f l fits =
    let cases = label_cases ids labels free rest m n p id x h f l in
    record {
      rises = λ i j y z less a b. elim (cases i y a) [
        | inl i_before ↦ elim (cases j z b) [
          | inl j_before ↦ h.labelled.rises i j y z less i_before.1 j_before.1
          | inr j_late ↦ elim j_late [
            | inl j_here ↦ (let q = fits.behind i y i_before.0 i_before.1 in let r = j_here.1 in omega arith)
            | inr j_behind ↦ (let q = i_before.0 in let r = j_behind.2 in h.labelled.rises i j_behind.0 y z (omega arith) i_before.1 j_behind.3)
          ]
        ]
        | inr i_late ↦ elim i_late [
          | inl i_here ↦ elim (cases j z b) [
            | inl j_before ↦ (let q = i_here.0 in let r = j_before.0 in absurd (omega arith))
            | inr j_late ↦ elim j_late [
              | inl j_here ↦ (let q = i_here.0 in let r = j_here.0 in absurd (omega arith))
              | inr j_behind ↦ (let q = fits.before j_behind.0 z j_behind.2 j_behind.3 in let r = i_here.1 in omega arith)
            ]
          ]
          | inr i_behind ↦ elim (cases j z b) [
            | inl j_before ↦ (let q = i_behind.1 in let r = i_behind.2 in let s = j_before.0 in absurd (omega arith))
            | inr j_late ↦ elim j_late [
              | inl j_here ↦ (let q = i_behind.1 in let r = i_behind.2 in let s = j_here.0 in absurd (omega arith))
              | inr j_behind ↦ (let q = i_behind.1 in let r = j_behind.1 in h.labelled.rises i_behind.0 j_behind.0 y z (omega arith) i_behind.3 j_behind.3)
            ]
          ]
        ]
      ];
      above = λ i y a. elim (cases i y a) [
        | inl before ↦ h.labelled.above i y before.1
        | inr late ↦ elim late [
          | inl here ↦ (let q = fits.above in let r = here.1 in omega arith)
          | inr behind ↦ h.labelled.above behind.0 y behind.3
        ]
      ];
      below = λ i y a. elim (cases i y a) [
        | inl before ↦ h.labelled.below i y before.1
        | inr late ↦ elim late [
          | inl here ↦ (let q = fits.below in let r = here.1 in omega arith)
          | inr behind ↦ h.labelled.below behind.0 y behind.3
        ]
      ];
    }

pub order_inserted : (ids labels free rest : List ℕ) (m n o q p id x : ℕ) → IsOrder ids labels free m n → free ≡ rest ++ id ∷ [] → p ≤ length ids
    → FitsAt ids labels p x → m ≤ o → n ≤ q → IsOrder (insert ids p id) (set labels id x) rest o q
order_inserted ids labels free rest m n o q p id x h f l fits wide wide_free =
    let known = h.free_known (length rest) id (rw f (get_last rest id)) in
    let many = length-set labels id x in
    let lacks = order_fresh ids labels free rest m n id h f in
    let was_free : (i a : ℕ) → slice_get rest i ≡ Some a → slice_get free i ≡ Some a = λ i a e. rw f (get_front rest (id ∷ []) i a e) in
    record {
      labelled = labelled_inserted ids labels free rest m n p id x h f l fits;
      ids_known = λ i a e. elim (insert_cases ids p id i a l e) [
        | inl before ↦ (let k = h.ids_known i a before.1 in omega (arith, many))
        | inr late ↦ elim late [
          | inl here ↦ (let r = here.1 in omega (arith, many, known))
          | inr behind ↦ (let k = h.ids_known behind.0 a behind.3 in omega (arith, many))
        ]
      ];
      free_known = λ i a e. (let k = h.free_known i a (was_free i a e) in omega (arith, many));
      ids_distinct = λ i j a e g. elim (insert_cases ids p id i a l e) [
        | inl i_before ↦ elim (insert_cases ids p id j a l g) [
          | inl j_before ↦ h.ids_distinct i j a i_before.1 j_before.1
          | inr j_late ↦ elim j_late [
            | inl j_here ↦ absurd (lacks (i, rw j_here.1 at i_before.1))
            | inr j_behind ↦ (let same = h.ids_distinct i j_behind.0 a i_before.1 j_behind.3 in let r = i_before.0 in let s = j_behind.2 in
                absurd (omega arith))
          ]
        ]
        | inr i_late ↦ elim i_late [
          | inl i_here ↦ elim (insert_cases ids p id j a l g) [
            | inl j_before ↦ absurd (lacks (j, rw i_here.1 at j_before.1))
            | inr j_late ↦ elim j_late [
              | inl j_here ↦ i_here.0 ∙ sym j_here.0
              | inr j_behind ↦ absurd (lacks (j_behind.0, rw i_here.1 at j_behind.3))
            ]
          ]
          | inr i_behind ↦ elim (insert_cases ids p id j a l g) [
            | inl j_before ↦ (let same = h.ids_distinct i_behind.0 j a i_behind.3 j_before.1 in let r = i_behind.2 in let s = j_before.0 in
                absurd (omega arith))
            | inr j_late ↦ elim j_late [
              | inl j_here ↦ absurd (lacks (i_behind.0, rw j_here.1 at i_behind.3))
              | inr j_behind ↦ i_behind.1 ∙ (ap suc (h.ids_distinct i_behind.0 j_behind.0 a i_behind.3 j_behind.3) ∙ sym j_behind.1)
            ]
          ]
        ]
      ];
      free_distinct = λ i j a e g. h.free_distinct i j a (was_free i a e) (was_free j a g);
      apart = λ i j a e g. elim (insert_cases ids p id i a l e) [
        | inl before ↦ h.apart i j a before.1 (was_free j a g)
        | inr late ↦ elim late [
          | inl here ↦
              let same = h.free_distinct j (length rest) id (was_free j id (rw here.1 at g)) (rw f (get_last rest id)) in
              (let within = slice_get_within rest j a g in omega arith)
          | inr behind ↦ h.apart behind.0 j a behind.3 (was_free j a g)
        ]
      ];
      count = omega (arith, many, length-insert_at ids p id, h.count, ap length f, length-append rest (id ∷ []));
      few = omega (arith, many, h.few);
      ids_fit = omega (arith, many, h.ids_fit);
      free_fit = omega (arith, many, h.free_fit);
    }

-- ---- an id is taken out

remove_places : (xs : List ℕ) (p i y : ℕ) → slice_get (remove xs p) i ≡ Some y → (j : ℕ) × (slice_get xs j ≡ Some y)
    × (((i < p) × (j ≡ i)) ⊎ ((p ≤ i) × (j ≡ suc i)))
remove_places xs p i y e = elim (remove_cases xs p i y e) [
  | inl before ↦ (i, before.1, inl (before.0, refl))
  | inr behind ↦ (suc i, behind.1, inr (behind.0, refl))
]

-- places keep their order
places_rise : (p i j a b : ℕ) → i < j → ((i < p) × (a ≡ i)) ⊎ ((p ≤ i) × (a ≡ suc i)) → ((j < p) × (b ≡ j)) ⊎ ((p ≤ j) × (b ≡ suc j)) → a < b
places_rise p i j a b l (inl x) (inl y) = (let q = x.1 in let r = y.1 in omega arith)
places_rise p i j a b l (inl x) (inr y) = (let q = x.1 in let r = y.1 in omega arith)
places_rise p i j a b l (inr x) (inl y) = (let q = x.0 in let r = y.0 in absurd (omega arith))
places_rise p i j a b l (inr x) (inr y) = (let q = x.1 in let r = y.1 in omega arith)

places_once : (p i j a b : ℕ) → a ≡ b → ((i < p) × (a ≡ i)) ⊎ ((p ≤ i) × (a ≡ suc i)) → ((j < p) × (b ≡ j)) ⊎ ((p ≤ j) × (b ≡ suc j)) → i ≡ j
places_once p i j a b l (inl x) (inl y) = (let q = x.1 in let r = y.1 in omega arith)
places_once p i j a b l (inl x) (inr y) = (let q = x in let r = y in omega (arith, x.0, x.1, y.0, y.1))
places_once p i j a b l (inr x) (inl y) = omega (arith, x.0, x.1, y.0, y.1)
places_once p i j a b l (inr x) (inr y) = (let q = x.1 in let r = y.1 in omega arith)

pub order_removed : (ids labels free : List ℕ) (m n o q p id : ℕ) → IsOrder ids labels free m n → slice_get ids p ≡ Some id → m ≤ o → n ≤ q
    → IsOrder (remove ids p) labels (free ++ id ∷ []) o q
order_removed ids labels free m n o q p id h here wide wide_free = record {
  labelled = record {
    rises = λ i j x y l a b.
        let s = remove_places ids p i a.0 a.1 in
        let t = remove_places ids p j b.0 b.1 in
        h.labelled.rises s.0 t.0 x y (places_rise p i j s.0 t.0 l s.2 t.2) (a.0, s.1, a.2) (b.0, t.1, b.2);
    above = λ i x a. let s = remove_places ids p i a.0 a.1 in h.labelled.above s.0 x (a.0, s.1, a.2);
    below = λ i x a. let s = remove_places ids p i a.0 a.1 in h.labelled.below s.0 x (a.0, s.1, a.2);
  };
  ids_known = λ i a e. let s = remove_places ids p i a e in h.ids_known s.0 a s.1;
  free_known = λ i a e. elim (push_cases free id i a e) [
    | inl old ↦ h.free_known i a old
    | inr new ↦ rw new.1 (h.ids_known p id here)
  ];
  ids_distinct = λ i j a e g.
      let s = remove_places ids p i a e in
      let t = remove_places ids p j a g in
      places_once p i j s.0 t.0 (h.ids_distinct s.0 t.0 a s.1 t.1) s.2 t.2;
  free_distinct = λ i j a e g. elim (push_cases free id i a e) [
    | inl i_old ↦ elim (push_cases free id j a g) [
      | inl j_old ↦ h.free_distinct i j a i_old j_old
      | inr j_new ↦ absurd (h.apart p i id here (rw j_new.1 at i_old))
    ]
    | inr i_new ↦ elim (push_cases free id j a g) [
      | inl j_old ↦ absurd (h.apart p j id here (rw i_new.1 at j_old))
      | inr j_new ↦ i_new.0 ∙ sym j_new.0
    ]
  ];
  apart = λ i j a e g.
      let s = remove_places ids p i a e in
      elim (push_cases free id j a g) [
        | inl old ↦ h.apart s.0 j a s.1 old
        | inr new ↦
            let same = h.ids_distinct s.0 p a s.1 (rw new.1 here) in
            elim s.2 [ inl before ↦ (let x = before.0 in let y = before.1 in omega arith) | inr behind ↦ (let x = behind.0 in let y = behind.1 in omega arith) ]
      ];
  count = omega (arith, h.count, length-remove_at ids p (slice_get_within ids p id here), length-append free (id ∷ []));
  few = h.few;
  ids_fit = omega (arith, h.ids_fit);
  free_fit = omega (arith, h.free_fit);
}

-- ---- one more id

pub order_reserved : (ids labels free : List ℕ) (m n o q : ℕ) → IsOrder ids labels free m n → length free ≡ 0 → length ids < 2 ^ 31 → length labels + 1 ≤ o
    → length labels + 1 ≤ q → IsOrder ids (labels ++ 0 ∷ []) (free ++ length labels ∷ []) o q
order_reserved ids labels free m n o q h empty few wide wide_free =
    let none : (i a : ℕ) → slice_get free i ≡ Some a → ⊥ = λ i a e. (let l = slice_get_within free i a e in omega arith) in
    let old : (i x : ℕ) → HasLabel ids (labels ++ 0 ∷ []) i x → HasLabel ids labels i x = λ i x (a, e, b). (
      a,
      e,
      elim (push_cases labels 0 a x b) [
        | inl there ↦ there
        | inr last ↦ (let k = h.ids_known i a e in let r = last.0 in absurd (omega arith))
      ],
    ) in
    let one = length-append labels (0 ∷ []) in
    record {
      labelled = record {
        rises = λ i j x y l a b. h.labelled.rises i j x y l (old i x a) (old j y b);
        above = λ i x a. h.labelled.above i x (old i x a);
        below = λ i x a. h.labelled.below i x (old i x a);
      };
      ids_known = λ i a e. (let k = h.ids_known i a e in omega (arith, one));
      free_known = λ i a e. elim (push_cases free (length labels) i a e) [
        | inl there ↦ absurd (none i a there)
        | inr last ↦ (let r = last.1 in omega (arith, one))
      ];
      ids_distinct = h.ids_distinct;
      free_distinct = λ i j a e g. elim (push_cases free (length labels) i a e) [
        | inl there ↦ absurd (none i a there)
        | inr last ↦ elim (push_cases free (length labels) j a g) [
          | inl there ↦ absurd (none j a there)
          | inr also ↦ last.0 ∙ sym also.0
        ]
      ];
      apart = λ i j a e g. elim (push_cases free (length labels) j a g) [
        | inl there ↦ none j a there
        | inr last ↦ (let k = h.ids_known i a e in let r = last.1 in omega arith)
      ];
      count = omega (arith, h.count, one, length-append free (length labels ∷ []));
      few = omega (arith, h.count, one);
      ids_fit = omega (arith, one);
      free_fit = omega (arith, one);
    }
