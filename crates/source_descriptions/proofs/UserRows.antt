-- The rows of the user-defined capabilities, and the first that has a name.
use Rattle.std.proofs.Common.{◌≡◌, ◌<◌, ◌+◌, ℕ, suc, Bool, ◌++◌, List, [], ◌∷◌, Option, None, Some, map, length, take, drop, get_or}
use Rattle.std.proofs.Common.{refl, sym, ◌∙◌, ap, add-one, append_assoc}
use Rattle.std.proofs.lemmas.List.{append-nil, map-append}
use Rattle.std.proofs.lemmas.List.Folds.{find-append}
use Rattle.std.proofs.lemmas.Grind.{flat_map-append}
use Rattle.std.proofs.Math.Seq.{drop-cons, take-suc}
use Rattle.std.specs.Borrow.{Bor}
use Rattle.std.specs.Fmt.{digits}
use Rattle.std.specs.List.{find, flat_map}
use Rattle.std.specs.Option.{option_or}
use Rattle.source_descriptions.specs.UserDescriptions.{UserDescribed, described_rows, function_keys, modified, modified_by, modified_keys, modifiers, shifted, shifted_keys, user_told}
use Rattle.source_descriptions.specs.declared.user_rows.TheConstants.{CAPITALS, FUNCTION_KEYS, KEYS, MODIFIERS, OTHERS}

-- ---- the tables

pub rows_are : map (λ r. user_told r.0.now r.1.now r.2.now r.3.now) CAPITALS ++ map (λ r. user_told r.0.now r.1.now r.2.now r.3.now) OTHERS ≡ described_rows
unfolding described_rows
rows_are = refl

pub modifiers_are : map (λ m. (m.0.now, m.1.now)) MODIFIERS ≡ modifiers
unfolding modifiers digits
modifiers_are = refl

pub modified_by_are : (key : List ℕ × List ℕ) → map (λ m. modified key (m.0.now, m.1.now)) MODIFIERS ≡ modified_by key
modified_by_are key = ap (map (modified key)) modifiers_are

pub keys_are : flat_map modified_by (map (λ k. (k.0.now, k.1.now)) KEYS) ≡ modified_keys
unfolding modified_keys
keys_are = refl

numbers_are : map (λ n. n.now) FUNCTION_KEYS ≡ function_keys
unfolding function_keys digits
numbers_are = refl

pub shifted_are : map (λ n. shifted n.now) FUNCTION_KEYS ≡ shifted_keys
unfolding shifted_keys
shifted_are = ap (map shifted) numbers_are

-- ---- the first that has a name

-- the first that has a name among two lists is that of the first list, or else that of the second
pub first_of_both : (p : UserDescribed → Bool) (xs ys all : List UserDescribed) → xs ++ ys ≡ all → option_or (find p xs) (find p ys) ≡ find p all
first_of_both p xs ys all e = sym (find-append p xs ys) ∙ ap (find p) e

pub in_first : (p : UserDescribed → Bool) (xs ys all : List UserDescribed) (x : UserDescribed) → xs ++ ys ≡ all → Some x ≡ find p xs → Some x ≡ find p all
in_first p xs ys all x e h = ap (λ (o : Option UserDescribed). option_or o (find p ys)) h ∙ first_of_both p xs ys all e

pub in_second : (p : UserDescribed → Bool) (xs ys all : List UserDescribed) (o : Option UserDescribed) → xs ++ ys ≡ all → None ≡ find p xs → o ≡ find p ys
    → o ≡ find p all
in_second p xs ys all o e none h = h ∙ ap (λ (n : Option UserDescribed). option_or n (find p ys)) none ∙ first_of_both p xs ys all e

-- a key, as it is held
abbrev pub Pair : Type 0
Pair = Bor (List ℕ) × Bor (List ℕ)

-- the first that has a name among the keys from a place on: that of the key there, or else of those
-- after it
pub next_key : (p : UserDescribed → Bool) (ks : List Pair) (i : ℕ) (d : Pair) → i < length ks
    → option_or (find p (modified_by ((get_or ks i d).0.now, (get_or ks i d).1.now)))
    (find p (flat_map modified_by (map (λ k. (k.0.now, k.1.now)) (drop (i + 1) ks))))
    ≡ find p (flat_map modified_by (map (λ k. (k.0.now, k.1.now)) (drop i ks)))
next_key p ks i d within =
    sym (ap (λ (rest : List Pair). find p (flat_map modified_by (map (λ k. (k.0.now, k.1.now)) rest))) (drop-cons ks i d within)
    ∙ find-append p (modified_by ((get_or ks i d).0.now, (get_or ks i d).1.now)) (flat_map modified_by (map (λ k. (k.0.now, k.1.now)) (drop (suc i) ks)))
    ∙ ap (λ (n : ℕ). option_or (find p (modified_by ((get_or ks i d).0.now, (get_or ks i d).1.now)))
    (find p (flat_map modified_by (map (λ k. (k.0.now, k.1.now)) (drop n ks))))) (sym (add-one i)))

-- ---- lists that are pushed

-- what is said about the keys up to a place, and then about the one there
pub one_key_more : (ks : List Pair) (i : ℕ) (d : Pair) (before : List UserDescribed) → i < length ks
    → (before ++ flat_map modified_by (map (λ k. (k.0.now, k.1.now)) (take i ks))) ++ modified_by ((get_or ks i d).0.now, (get_or ks i d).1.now)
    ≡ before ++ flat_map modified_by (map (λ k. (k.0.now, k.1.now)) (take (i + 1) ks))
one_key_more ks i d before within =
    let seen : Pair → List ℕ × List ℕ = λ k. (k.0.now, k.1.now) in
    let key : List ℕ × List ℕ = ((get_or ks i d).0.now, (get_or ks i d).1.now) in
    let taken : take (i + 1) ks ≡ take i ks ++ get_or ks i d ∷ [] = ap (λ (n : ℕ). take n ks) (add-one i) ∙ take-suc ks i d within in
    let more : flat_map modified_by (map seen (take (i + 1) ks)) ≡ flat_map modified_by (map seen (take i ks)) ++ modified_by key =
    ap (λ (l : List Pair). flat_map modified_by (map seen l)) taken
    ∙ (ap (flat_map modified_by) (map-append seen (take i ks) (get_or ks i d ∷ []))
    ∙ (flat_map-append modified_by (map seen (take i ks)) (key ∷ [])
    ∙ ap (λ (l : List UserDescribed). flat_map modified_by (map seen (take i ks)) ++ l) (append-nil (modified_by key)))) in
    append_assoc before (flat_map modified_by (map seen (take i ks))) (modified_by key) ∙ ap (λ (l : List UserDescribed). before ++ l) (sym more)

-- what is said of the elements up to a place, and then of the one there
pub one_more : {A : Type 0} (f : A → UserDescribed) (ms : List A) (i : ℕ) (d : A) (before now : List UserDescribed) (x : UserDescribed) → i < length ms
    → now ≡ before ++ map f (take i ms) → x ≡ f (get_or ms i d) → now ++ x ∷ [] ≡ before ++ map f (take (i + 1) ms)
one_more f ms i d before now x within so here =
    let taken : take (i + 1) ms ≡ take i ms ++ get_or ms i d ∷ [] = ap (λ (n : ℕ). take n ms) (add-one i) ∙ take-suc ms i d within in
    let more : map f (take (i + 1) ms) ≡ map f (take i ms) ++ f (get_or ms i d) ∷ [] = ap (map f) taken ∙ map-append f (take i ms) (get_or ms i d ∷ []) in
    ap (λ (l : List UserDescribed). l ++ x ∷ []) so
    ∙ (ap (λ (y : UserDescribed). (before ++ map f (take i ms)) ++ y ∷ []) here
    ∙ (append_assoc before (map f (take i ms)) (f (get_or ms i d) ∷ []) ∙ ap (λ (l : List UserDescribed). before ++ l) (sym more)))

-- three lists that are pushed one after the other
pub pushed_all : (none first second all xs ys zs rows : List UserDescribed) → none ≡ [] → first ≡ none ++ xs → second ≡ first ++ ys → all ≡ second ++ zs
    → xs ++ ys ≡ rows → all ≡ rows ++ zs
pushed_all none first second all xs ys zs rows n f s a r =
    a ∙ ap (λ (l : List UserDescribed). l ++ zs) (s ∙ (ap (λ (l : List UserDescribed). l ++ ys) (f ∙ ap (λ (l : List UserDescribed). l ++ xs) n) ∙ r))

-- two lists that are pushed one after the other
pub pushed_both : (before first all xs ys keys others : List UserDescribed) → first ≡ before ++ xs → all ≡ first ++ ys → xs ≡ keys → ys ≡ others
    → all ≡ before ++ (keys ++ others)
pushed_both before first all xs ys keys others f a k o =
    a ∙ ap (λ (l : List UserDescribed). l ++ ys) f ∙ append_assoc before xs ys
    ∙ (ap (λ (l : List UserDescribed). before ++ (l ++ ys)) k ∙ ap (λ (l : List UserDescribed). before ++ (keys ++ l)) o)
