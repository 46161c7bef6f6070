-- Lists of the ids that pass a test, in the order of all.
use Rattle.std.proofs.Common.{◌≡◌, ℕ, zero, suc, ◌+◌, ◌<◌, ◌≤◌, inl, inr, Bool, true, false, cond, ◌&&◌, ◌||◌, not, List, [], ◌∷◌, ◌++◌, length, filter}
use Rattle.std.proofs.Common.{insert, remove, take, drop, get_or, nat_eq, ltb, Some, slice_get, refl, sym, ◌∙◌, ap, arith}
use Rattle.std.specs.List.Sorted.{IsPartitionedBy, IsPartitionPoint}
use Rattle.std.proofs.lemmas.Bool.{cases_lt, cases_eq, cases_Bool, false≢true, eqb-true, eq-eqb, ltb-true, lt-ltb}
use Rattle.std.proofs.lemmas.List.{length-take-le}
use Rattle.std.proofs.lemmas.List.Elements.{filter-append}
use Rattle.std.proofs.lemmas.Option.{same_Some, none-some, slice_get_within, slice_get-get_or}
use Rattle.base_index.specs.inside.Labels.{AreLabelled}
use Rattle.ti_text.specs.Lists.{Has, AreBelow, AreDistinct}
use Rattle.base_index.specs.Listing.{Lists, ListsBefore, ListsToo, ListsNoMore}
use Rattle.base_index.proofs.Placing.{labels_decide_before}
use Rattle.ti_text.proofs.Lists.{get_back, take_get, drop_get}

-- ---- the place of an element that passes

-- an element that passes is somewhere in the whole list; it is before a place there exactly if
-- fewer pass before
-- it than before that place
abbrev pub IsPlaced : (ℕ → Bool) → List ℕ → ℕ → ℕ → Type 0
IsPlaced test xs k x =
    (q : ℕ) × (slice_get xs q ≡ Some x) × ((p : ℕ) → (q < p → k < length (filter test (take p xs))) × (k < length (filter test (take p xs)) → q < p))

-- how many pass, with one more in front
count_cons : (test : ℕ → Bool) (y : ℕ) (xs : List ℕ) (b : Bool) → test y ≡ b → length (filter test (y ∷ xs)) ≡ cond b 1 0 + length (filter test xs)
count_cons test y xs true t = rw t (omega arith)
count_cons test y xs false t = rw t (omega arith)

placed_first : (test : ℕ → Bool) (y : ℕ) (xs : List ℕ) → test y ≡ true → IsPlaced test (y ∷ xs) 0 y
placed_first test y xs t = (0, refl, before) where
  before : (p : ℕ) → (0 < p → 0 < length (filter test (take p (y ∷ xs)))) × (0 < length (filter test (take p (y ∷ xs))) → 0 < p)
  before zero = ((λ l. absurd (omega arith)), λ l. absurd (omega arith))
  before (suc p) = ((λ l. omega (arith, count_cons test y (take p xs) true t)), λ l. omega arith)

placed_behind : (test : ℕ → Bool) (y : ℕ) (xs : List ℕ) (b : Bool) (k x : ℕ) → test y ≡ b → IsPlaced test xs k x → IsPlaced test (y ∷ xs) (cond b 1 0 + k) x
placed_behind test y xs b k x t (q, e, h) = (suc q, e, before) where
  before : (p : ℕ) → (suc q < p → cond b 1 0 + k < length (filter test (take p (y ∷ xs))))
      × (cond b 1 0 + k < length (filter test (take p (y ∷ xs))) → suc q < p)
  before zero = ((λ l. absurd (omega arith)), λ l. absurd (omega arith))
  before (suc p) =
      let many = count_cons test y (take p xs) b t in
      let f = h p in
      ((λ l. (let m = f.0 (omega arith) in omega arith)), λ l. (let m = f.1 (omega arith) in omega arith))

placed_passing : (test : ℕ → Bool) (y : ℕ) (xs : List ℕ) (x : ℕ) → test y ≡ true → ((k : ℕ) → slice_get (filter test xs) k ≡ Some x → IsPlaced test xs k x)
    → (k : ℕ) → slice_get (y ∷ filter test xs) k ≡ Some x → IsPlaced test (y ∷ xs) k x
placed_passing test y xs x t rest zero f = let same : y ≡ x = same_Some y x f in rw (← same) (placed_first test y xs t)
placed_passing test y xs x t rest (suc k) f = let z : cond true 1 0 + k ≡ suc k = omega arith in rw z at (placed_behind test y xs true k x t (rest k f))

pub filter_place : (test : ℕ → Bool) (xs : List ℕ) (k x : ℕ) → slice_get (filter test xs) k ≡ Some x → IsPlaced test xs k x
filter_place test [] k x e = absurd (none-some x e)
filter_place test (y ∷ xs) k x e =
    elim (cases_Bool (test y)) [
      | inl t ↦ placed_passing test y xs x t (λ j. filter_place test xs j x) k (rw t at e)
      | inr t ↦ let z : cond false 1 0 + k ≡ k = omega arith in rw z at (placed_behind test y xs false k x t (filter_place test xs k x (rw t at e)))
    ]

-- ---- the binary search

-- exactly the first elements, so many, pass
abbrev pub PassesBelow : {X : Type 0} → (X → Bool) → List X → ℕ → Type 0
PassesBelow {X} p xs n = (k : ℕ) (d : X) → k < length xs → (p (get_or xs k d) ≡ true → k < n) × (k < n → p (get_or xs k d) ≡ true)

pub passing_first : {X : Type 0} (p : X → Bool) (xs : List X) (n : ℕ) → PassesBelow p xs n → IsPartitionedBy p xs
passing_first p xs n h i j d l m t = let f = (h j d m).0 t in (h i d (omega arith)).1 (omega arith)

-- a search for the first that fails finds it
pub point_is : {X : Type 0} (p : X → Bool) (xs : List X) (n i : ℕ) (d : X) → n ≤ length xs → i ≤ length xs → PassesBelow p xs n
    → IsPartitionPoint (λ y. p y ≡ true) (λ y. p y ≡ false) xs i → i ≡ n
point_is p xs n i d a b h w =
    elim (cases_lt i n) [
      | inl less ↦ absurd (false≢true (sym (w.1 i d (omega arith) (omega arith)) ∙ (h i d (omega arith)).1 less))
      | inr more ↦ elim (cases_lt n i) [
        | inl less ↦ (let t = (h n d (omega arith)).0 (w.0 n d (omega arith) less) in absurd (omega arith))
        | inr same ↦ omega arith
      ]
    ]

filter-take_le : (test : ℕ → Bool) (n : ℕ) (xs : List ℕ) → length (filter test (take n xs)) ≤ length (filter test xs)
filter-take_le test zero xs = omega arith
filter-take_le test (suc n) [] = omega arith
filter-take_le test (suc n) (x ∷ xs) =
    elim (cases_Bool (test x)) [
      | inl t ↦ omega (arith, count_cons test x (take n xs) true t, count_cons test x xs true t, filter-take_le test n xs)
      | inr t ↦ omega (arith, count_cons test x (take n xs) false t, count_cons test x xs false t, filter-take_le test n xs)
    ]

-- whether the label of an id is below a number
abbrev pub is_below : List ℕ → ℕ → ℕ → Bool
is_below labels label x = ltb (get_or labels x 0) label

-- of a list in the order of all, those whose labels are below that of an id are before it
labels_pass : (ids labels list : List ℕ) (id : ℕ) (test : ℕ → Bool) (place : ℕ) → AreLabelled ids labels → AreBelow ids (length labels)
    → list ≡ filter test ids → slice_get ids place ≡ Some id → PassesBelow (is_below labels (get_or labels id 0)) list (length (filter test (take place ids)))
labels_pass ids labels list id test place labelled known e f k d l =
    let x = get_or list k d in
    let p = filter_place test ids k x (ap (λ xs. slice_get xs k) (sym e) ∙ slice_get-get_or list k d l) in
    let decided = labels_decide_before ids labels p.0 place x id labelled known p.1 f in (
      (λ t. (p.2 place).0 (decided.0 (ltb-true (get_or labels x 0) (get_or labels id 0) t))),
      λ m. lt-ltb (get_or labels x 0) (get_or labels id 0) (decided.1 ((p.2 place).1 m)),
    )

-- the place that a search by labels gives counts those before the id
pub counted : (ids labels list : List ℕ) (id i : ℕ) → AreLabelled ids labels → AreBelow ids (length labels) → i ≤ length list
    → (IsPartitionedBy (is_below labels (get_or labels id 0)) list
    → IsPartitionPoint (λ x. is_below labels (get_or labels id 0) x ≡ true) (λ x. is_below labels (get_or labels id 0) x ≡ false) list i)
    → ListsBefore ids list id i
counted ids labels list id i labelled known within point test place e f =
    let p = is_below labels (get_or labels id 0) in
    let n = length (filter test (take place ids)) in
    let passes = labels_pass ids labels list id test place labelled known e f in
    point_is p list n i 0 (omega (arith, filter-take_le test place ids, ap length e)) within passes (point (passing_first p list n passes))

-- the position of an id, as the number of all that are before it
pub position_is : (listed : List ℕ) (id i : ℕ) → Has listed id → ListsBefore listed listed id i → slice_get listed i ≡ Some id
position_is listed id i h before =
    let all : (xs : List ℕ) → xs ≡ filter (λ x. true) xs = all_pass in
    let l = slice_get_within listed h.0 id h.1 in
    let is : h.0 ≡ i = sym (before (λ x. true) h.0 (all listed) h.1 ∙ (ap length (sym (all (take h.0 listed))) ∙ length-take-le h.0 listed (omega arith))) in
    rw is at h.1
  where
    all_pass : (xs : List ℕ) → xs ≡ filter (λ x. true) xs
    all_pass [] = refl
    all_pass (x ∷ xs) = ap (λ ys. x ∷ ys) (all_pass xs)

-- ---- an id is put into a list, or taken out of it

split_place : (xs : List ℕ) (p x : ℕ) → slice_get xs p ≡ Some x → xs ≡ take p xs ++ x ∷ drop (suc p) xs
split_place [] p x e = absurd (none-some x e)
split_place (y ∷ xs) zero x e = ap (λ z. z ∷ xs) (same_Some y x e)
split_place (y ∷ xs) (suc p) x e = ap (λ zs. y ∷ zs) (split_place xs p x e)

-- tests that differ at most at an id that the list lacks keep the same
filter_off : (t u : ℕ → Bool) (id : ℕ) (xs : List ℕ) → (Has xs id → ⊥) → ((x : ℕ) → (x ≡ id → ⊥) → t x ≡ u x) → filter t xs ≡ filter u xs
filter_off t u id [] lacks same = refl
filter_off t u id (x ∷ xs) lacks same =
    let rest = filter_off t u id xs (λ h. lacks (suc h.0, h.1)) same in
    let here : t x ≡ u x = same x (λ e. lacks (0, ap (λ z. Some z) e)) in
    rw (here, rest) refl

filter_all : (t u : ℕ → Bool) (xs : List ℕ) → ((x : ℕ) → t x ≡ u x) → filter t xs ≡ filter u xs
filter_all t u [] same = refl
filter_all t u (x ∷ xs) same = rw (same x, filter_all t u xs same) refl

has_first : (t : ℕ → Bool) (y : ℕ) (xs : List ℕ) (x : ℕ) → t y ≡ true → ((k : ℕ) → slice_get xs k ≡ Some x → t x ≡ true) → (k : ℕ)
    → slice_get (y ∷ xs) k ≡ Some x → t x ≡ true
has_first t y xs x passes rest zero f = let same : y ≡ x = same_Some y x f in rw (← same) passes
has_first t y xs x passes rest (suc k) f = rest k f

filter_has : (t : ℕ → Bool) (xs : List ℕ) (k x : ℕ) → slice_get (filter t xs) k ≡ Some x → t x ≡ true
filter_has t [] k x e = absurd (none-some x e)
filter_has t (y ∷ xs) k x e =
    elim (cases_Bool (t y)) [
      | inl passes ↦ has_first t y (filter t xs) x passes (λ j. filter_has t xs j x) k (rw passes at e)
      | inr fails ↦ filter_has t xs k x (rw fails at e)
    ]

-- the whole list about the place of an id, by what passes
filter_split : (t : ℕ → Bool) (xs : List ℕ) (p x : ℕ) → slice_get xs p ≡ Some x → filter t xs ≡ filter t (take p xs) ++ filter t (x ∷ drop (suc p) xs)
filter_split t xs p x e = ap (filter t) (split_place xs p x e) ∙ filter-append t (take p xs) (x ∷ drop (suc p) xs)

lacks_front : (xs : List ℕ) (p x : ℕ) → AreDistinct xs → slice_get xs p ≡ Some x → Has (take p xs) x → ⊥
lacks_front xs p x d e h = let f = take_get p xs h.0 x h.1 in let same = d h.0 p x f.1 e in let l = f.0 in omega arith

lacks_back : (xs : List ℕ) (p x : ℕ) → AreDistinct xs → slice_get xs p ≡ Some x → Has (drop (suc p) xs) x → ⊥
lacks_back xs p x d e h = let same = d (suc p + h.0) p x (drop_get (suc p) xs h.0 x h.1) e in omega arith

insert_at : (xs ys : List ℕ) (x : ℕ) → insert (xs ++ ys) (length xs) x ≡ xs ++ x ∷ ys
insert_at [] ys x = refl
insert_at (z ∷ xs) ys x = ap (λ zs. z ∷ zs) (insert_at xs ys x)

remove_at : (xs ys : List ℕ) (x : ℕ) → remove (xs ++ x ∷ ys) (length xs) ≡ xs ++ ys
remove_at [] ys x = refl
remove_at (z ∷ xs) ys x = ap (λ zs. z ∷ zs) (remove_at xs ys x)

neq_false : (x y : ℕ) → (x ≡ y → ⊥) → nat_eq x y ≡ false
neq_false x y n = elim (cases_Bool (nat_eq x y)) [ inl e ↦ absurd (n (eqb-true x y e)) | inr f ↦ f ]

with_id : (t : ℕ → Bool) (id x : ℕ) → (x ≡ id → ⊥) → (nat_eq x id || t x) ≡ t x
with_id t id x n = rw (neq_false x id n) refl

without_id : (t : ℕ → Bool) (id x : ℕ) → (x ≡ id → ⊥) → (not (nat_eq x id) && t x) ≡ t x
without_id t id x n = rw (neq_false x id n) refl

-- if the id passes, it is in the list after those before it
passing_at : (listed list : List ℕ) (t : ℕ → Bool) (id count place : ℕ) → list ≡ filter t listed → slice_get listed place ≡ Some id
    → ListsBefore listed list id count → t id ≡ true → slice_get list count ≡ Some id
passing_at listed list t id count place e f before passes =
    let b = before t place e f in
    let back = get_back (filter t (take place listed)) (id ∷ filter t (drop (suc place) listed)) 0 id refl in
    let z : length (filter t (take place listed)) + 0 ≡ count = omega arith in
    let all : list ≡ filter t (take place listed) ++ id ∷ filter t (drop (suc place) listed) = e ∙ (filter_split t listed place id f ∙ (rw passes refl)) in
    rw all (rw z at back)

pub lists_at : (listed list : List ℕ) (id count place : ℕ) → Lists listed list id → slice_get listed place ≡ Some id → ListsBefore listed list id count
    → slice_get list count ≡ Some id
lists_at listed list id count place (t, e, passes) f before = passing_at listed list t id count place e f before passes

pub put_there : (listed list : List ℕ) (id k : ℕ) → slice_get list k ≡ Some id → ListsToo listed list list id
put_there listed list id k h t e =
    let passes : t id ≡ true = filter_has t listed k id (ap (λ xs. slice_get xs k) (sym e) ∙ h) in
    e ∙ filter_all t (λ x. nat_eq x id || t x) listed (λ x. elim (cases_eq x id) [
      | inl same ↦ let one : t x ≡ true = rw same passes in rw (same, eq-eqb id id refl) passes
      | inr other ↦ sym (with_id t id x other)
    ])

pub put_new : (listed list : List ℕ) (id count place : ℕ) → AreDistinct listed → slice_get listed place ≡ Some id → ListsBefore listed list id count
    → (slice_get list count ≡ Some id → ⊥) → ListsToo listed list (insert list count id) id
put_new listed list id count place d f before lacks t e =
    elim (cases_Bool (t id)) [
      | inl passes ↦ absurd (lacks (passing_at listed list t id count place e f before passes))
      | inr fails ↦
          let u : ℕ → Bool = λ x. nat_eq x id || t x in
          let front = filter t (take place listed) in
          let back = filter t (drop (suc place) listed) in
          let old : list ≡ front ++ back = e ∙ (filter_split t listed place id f ∙ (rw fails refl)) in
          let passes : u id ≡ true = rw (eq-eqb id id refl) refl in
          let same_front : filter u (take place listed) ≡ front = filter_off u t id (take place listed) (lacks_front listed place id d f) (with_id t id) in
          let same_back : filter u (drop (suc place) listed) ≡ back =
          filter_off u t id (drop (suc place) listed) (lacks_back listed place id d f) (with_id t id) in
          let new : filter u listed ≡ front ++ id ∷ back = filter_split u listed place id f ∙ (rw (passes, same_front, same_back) refl) in
          let b = before t place e f in
          rw (old, b) (insert_at front back id) ∙ sym new
    ]

pub take_not : (listed list : List ℕ) (id count place : ℕ) → slice_get listed place ≡ Some id → ListsBefore listed list id count
    → (slice_get list count ≡ Some id → ⊥) → ListsNoMore listed list list id
take_not listed list id count place f before lacks t e =
    elim (cases_Bool (t id)) [
      | inl passes ↦ absurd (lacks (passing_at listed list t id count place e f before passes))
      | inr fails ↦ e ∙ filter_all t (λ x. not (nat_eq x id) && t x) listed (λ x. elim (cases_eq x id) [
        | inl same ↦ rw (same, eq-eqb id id refl) fails
        | inr other ↦ sym (without_id t id x other)
      ])
    ]

pub take_there : (listed list : List ℕ) (id count place : ℕ) → AreDistinct listed → slice_get listed place ≡ Some id → ListsBefore listed list id count
    → slice_get list count ≡ Some id → ListsNoMore listed list (remove list count) id
take_there listed list id count place d f before h t e =
    let u : ℕ → Bool = λ x. not (nat_eq x id) && t x in
    let front = filter t (take place listed) in
    let back = filter t (drop (suc place) listed) in
    let passes : t id ≡ true = filter_has t listed count id (ap (λ xs. slice_get xs count) (sym e) ∙ h) in
    let old : list ≡ front ++ id ∷ back = e ∙ (filter_split t listed place id f ∙ (rw passes refl)) in
    let fails : u id ≡ false = rw (eq-eqb id id refl) refl in
    let same_front : filter u (take place listed) ≡ front = filter_off u t id (take place listed) (lacks_front listed place id d f) (without_id t id) in
    let same_back : filter u (drop (suc place) listed) ≡ back =
    filter_off u t id (drop (suc place) listed) (lacks_back listed place id d f) (without_id t id) in
    let new : filter u listed ≡ front ++ back = filter_split u listed place id f ∙ (rw (fails, same_front, same_back) refl) in
    let b = before t place e f in
    rw (old, b) (remove_at front back id) ∙ sym new
