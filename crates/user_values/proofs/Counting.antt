-- How many distinct names there are among names.
use Rattle.std.proofs.Common.{◌≡◌, inl, inr, ℕ, suc, ◌+◌, ◌≤◌, Bool, true, false, ◌||◌, cond, List, [], ◌∷◌, ◌++◌, length, map, refl, sym, ap, ◌∙◌, subst}
use Rattle.std.proofs.Common.{arith, length-append}
use Rattle.std.specs.Str.{bytes_eq}
use Rattle.std.specs.List.{AllByRecursion}
use Rattle.std.proofs.lemmas.Bool.{cases_Bool, false≢true}
use Rattle.std.proofs.lemmas.List.{take_all}
use Rattle.std.proofs.lemmas.List.Folds.{list_any-append}
use Rattle.std.proofs.lemmas.Slice.Eq.{bytes_eq-Decides}
use Rattle.user_items.specs.Parsing.{user_reading_of_text}
use Rattle.user_values.specs.Limit.{distinct_after, has_name, name_count, names_in, with_name}
use Rattle.user_values.proofs.Naming.{distinct_after-append, distinct_after-longer}

abbrev pub Names : Type 0
Names = List (List ℕ)

-- ---- one name

or_false : (b : Bool) → (b || false) ≡ b
or_false true = refl
or_false false = refl

or_swap : (a b c : Bool) → ((a || b) || c) ≡ ((a || c) || b)
or_swap true b c = refl
or_swap false true true = refl
or_swap false true false = refl
or_swap false false true = refl
or_swap false false false = refl

has-append : (found : Names) (name other : List ℕ) → has_name (found ++ name ∷ []) other ≡ (has_name found other || bytes_eq name other)
has-append found name other =
    list_any-append (λ n. bytes_eq n other) found (name ∷ []) ∙ ap (λ b. has_name found other || b) (or_false (bytes_eq name other))

abbrev chosen : Names → List ℕ → Bool → Names
chosen found name b = cond b found (found ++ name ∷ [])

with_old : (found : Names) (name : List ℕ) → has_name found name ≡ true → with_name found name ≡ found
with_old found name e = ap (chosen found name) e

with_new : (found : Names) (name : List ℕ) → has_name found name ≡ false → with_name found name ≡ found ++ name ∷ []
with_new found name e = ap (chosen found name) e

longer : (found : Names) (name : List ℕ) → length (found ++ name ∷ []) ≡ suc (length found)
longer found name = omega (arith, length-append found (name ∷ []))

is_not : (x y : List ℕ) → bytes_eq x y ≡ false → bytes_eq y x ≡ false
is_not x y e = elim (cases_Bool (bytes_eq y x)) [
  | inl t ↦
      let same : y ≡ x = (bytes_eq-Decides y x).0 t in
      absurd (false≢true (sym e ∙ (bytes_eq-Decides x y).1 (sym same)))
  | inr n ↦ n
]

-- ---- names found with one more, and without

-- the second list has the same names, or one more
data Beside (x : List ℕ) (one other : Names) : Type 0 where
  same : ((n : List ℕ) → has_name other n ≡ has_name one n) → length other ≡ length one → Beside x one other
  ahead : ((n : List ℕ) → has_name other n ≡ (has_name one n || bytes_eq x n)) → has_name one x ≡ false → length other ≡ suc (length one) → Beside x one other

beside_begin : (x : List ℕ) (found : Names) → Beside x found (with_name found x)
beside_begin x found = elim (cases_Bool (has_name found x)) [
  | inl t ↦ subst (Beside x found) (sym (with_old found x t)) (same (λ n. refl) refl)
  | inr f ↦ subst (Beside x found) (sym (with_new found x f)) (ahead (has-append found x) f (longer found x))
]

beside_at : (x y : List ℕ) (one other : Names) (b c : Bool) → has_name one y ≡ b → has_name other y ≡ c → Beside x (chosen one y b) (chosen other y c)
    → Beside x (with_name one y) (with_name other y)
beside_at x y one other b c e d h = subst (λ v. Beside x (chosen one y v) (with_name other y)) (sym e) (subst (λ v. Beside x (chosen one y b) (chosen other y v)) (sym d) h)

beside_step : (x y : List ℕ) (one other : Names) → Beside x one other → Beside x (with_name one y) (with_name other y)
beside_step x y one other (same h n) = elim (cases_Bool (has_name one y)) [
  | inl t ↦ beside_at x y one other true true t (h y ∙ t) (same h n)
  | inr f ↦ beside_at x y one other false false f (h y ∙ f)
      (same (λ m. has-append other y m ∙ ap (λ b. b || bytes_eq y m) (h m) ∙ sym (has-append one y m)) (longer other y ∙ ap suc n ∙ sym (longer one y)))
]
beside_step x y one other (ahead h none n) = elim (cases_Bool (has_name one y)) [
  | inl t ↦ beside_at x y one other true true t (h y ∙ ap (λ b. b || bytes_eq x y) t) (ahead h none n)
  | inr f ↦ elim (cases_Bool (bytes_eq x y)) [
    | inl e ↦
        let there : x ≡ y = (bytes_eq-Decides x y).0 e in
        beside_at x y one other false true f (h y ∙ ap (λ b. b || bytes_eq x y) f ∙ e)
        (same (λ m. h m ∙ ap (λ (z : List ℕ). has_name one m || bytes_eq z m) there ∙ sym (has-append one y m)) (n ∙ sym (longer one y)))
    | inr d ↦ beside_at x y one other false false f (h y ∙ ap (λ b. b || bytes_eq x y) f ∙ d)
        (ahead
        (λ m. has-append other y m ∙ ap (λ b. b || bytes_eq y m) (h m) ∙ or_swap (has_name one m) (bytes_eq x m) (bytes_eq y m)
        ∙ ap (λ b. b || bytes_eq x m) (sym (has-append one y m)))
        (has-append one y x ∙ ap (λ b. b || bytes_eq y x) none ∙ is_not x y d)
        (longer other y ∙ ap suc n ∙ ap suc (sym (longer one y))))
  ]
]

beside_all : (x : List ℕ) (one other names : Names) → Beside x one other → Beside x (distinct_after one names) (distinct_after other names)
beside_all x one other [] h = h
beside_all x one other (y ∷ names) h = beside_all x (with_name one y) (with_name other y) names (beside_step x y one other h)

beside_long : (x : List ℕ) (one other : Names) → Beside x one other → (length one ≤ length other) × (length other ≤ length one + 1)
beside_long x one other (same h n) = (omega (arith, n), omega (arith, n))
beside_long x one other (ahead h none n) = (omega (arith, n), omega (arith, n))

-- ---- names put in

-- how many distinct names there are, in all
abbrev pub count_after : Names → Names → ℕ
count_after found names = length (distinct_after found names)

pub put_in : (found more names : Names) → (count_after found names ≤ count_after found (more ++ names))
    × (count_after found (more ++ names) ≤ count_after found names + length more)
put_in found [] names = (omega arith, omega arith)
put_in found (x ∷ more) names =
    let rest = put_in (with_name found x) more names in
    let one = beside_long x (distinct_after found names) (distinct_after (with_name found x) names)
    (beside_all x found (with_name found x) names (beside_begin x found)) in
    let a = rest.0 in
    let b = rest.1 in
    let c = one.0 in
    let d = one.1 in
    (omega (arith, a, c), omega (arith, b, d))

-- ---- names that are there anyway

or_true : (b : Bool) → (b || true) ≡ true
or_true true = refl
or_true false = refl

or_later : (b c : Bool) → (b || c) ≡ true → b ≡ false → c ≡ true
or_later true c e f = absurd (false≢true (sym f))
or_later false c e f = e

-- a name is among names, whatever is before them and after them
pub has-front : (xs ys : Names) (name : List ℕ) → has_name xs name ≡ true → has_name (xs ++ ys) name ≡ true
has-front xs ys name e = list_any-append (λ n. bytes_eq n name) xs ys ∙ ap (λ b. b || has_name ys name) e

pub has-back : (xs ys : Names) (name : List ℕ) → has_name ys name ≡ true → has_name (xs ++ ys) name ≡ true
has-back xs ys name e = list_any-append (λ n. bytes_eq n name) xs ys ∙ ap (λ b. has_name xs name || b) e ∙ or_true (has_name xs name)

with-kept : (found : Names) (name x : List ℕ) → has_name found x ≡ true → has_name (with_name found name) x ≡ true
with-kept found name x e = elim (cases_Bool (has_name found name)) [
  | inl t ↦ ap (λ (ns : Names). has_name ns x) (with_old found name t) ∙ e
  | inr f ↦ ap (λ (ns : Names). has_name ns x) (with_new found name f) ∙ has-front found (name ∷ []) x e
]

with-itself : (found : Names) (name x : List ℕ) → bytes_eq name x ≡ true → has_name (with_name found name) x ≡ true
with-itself found name x e = elim (cases_Bool (has_name found name)) [
  | inl t ↦ ap (λ (ns : Names). has_name ns x) (with_old found name t) ∙ subst (λ (n : List ℕ). has_name found n ≡ true) ((bytes_eq-Decides name x).0 e) t
  | inr f ↦
      ap (λ (ns : Names). has_name ns x) (with_new found name f) ∙ has-append found name x ∙ ap (λ b. has_name found x || b) e
      ∙ or_true (has_name found x)
]

all-kept : (names found : Names) (x : List ℕ) → has_name found x ≡ true → has_name (distinct_after found names) x ≡ true
all-kept [] found x e = e
all-kept (name ∷ names) found x e = all-kept names (with_name found name) x (with-kept found name x e)

-- each name is found
all-found : (names found : Names) (x : List ℕ) → has_name names x ≡ true → has_name (distinct_after found names) x ≡ true
all-found [] found x e = absurd (false≢true e)
all-found (name ∷ names) found x e = elim (cases_Bool (bytes_eq name x)) [
  | inl t ↦ all-kept names (with_name found name) x (with-itself found name x t)
  | inr f ↦ all-found names (with_name found name) x (or_later (bytes_eq name x) (has_name names x) e f)
]

not_ahead : (x : List ℕ) (one other : Names) → Beside x one other → has_name one x ≡ true → length other ≡ length one
not_ahead x one other (same h n) e = n
not_ahead x one other (ahead h none n) e = absurd (false≢true (sym none ∙ e))

-- a name that is among others makes them no more
there_anyway : (found names : Names) (x : List ℕ) → has_name names x ≡ true → count_after found (x ∷ names) ≡ count_after found names
there_anyway found names x e =
    not_ahead x (distinct_after found names) (distinct_after (with_name found x) names)
    (beside_all x found (with_name found x) names (beside_begin x found)) (all-found names found x e)

all_there : (found xs ys : Names) → AllByRecursion (λ (x : List ℕ). has_name ys x ≡ true) xs → count_after found (xs ++ ys) ≡ count_after found ys
all_there found [] ys all = refl
all_there found (x ∷ xs) ys all = there_anyway found (xs ++ ys) x (has-back xs ys x all.0) ∙ all_there found xs ys all.1

-- names that are all among others are no more than those
pub no_more_names : (xs ys : Names) → AllByRecursion (λ (x : List ℕ). has_name ys x ≡ true) xs → count_after [] xs ≤ count_after [] ys
no_more_names xs ys all =
    let whole = all_there [] xs ys all in
    let parts = ap (λ (ns : Names). length ns) (distinct_after-append [] xs ys) in
    omega (arith, whole, parts, distinct_after-longer (distinct_after [] xs) ys)

-- ---- the names of a source

-- all names of which its blocks say something
abbrev pub names_there : List (List ℕ) → Names
names_there texts = names_in (map user_reading_of_text texts)

-- how many of them there are
pub count_of_all : (texts : List (List ℕ)) → name_count texts (length texts) ≡ count_after [] (names_there texts)
count_of_all texts = ap (λ (ts : List (List ℕ)). count_after [] (names_there ts)) (take_all (length texts) texts (omega arith))
