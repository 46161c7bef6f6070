-- Each of a list once, at its first place.
use Rattle.std.proofs.Common.{◌≡◌, ℕ, ◌+◌, ◌≤◌, Bool, true, false, not, ◌&&◌, ◌||◌, cond, List, [], ◌∷◌, ◌++◌, refl, sym, subst, ap, ◌∙◌, arith, map, String}
use Rattle.std.specs.Prelude.{count_by, filter}
use Rattle.std.specs.Str.{bytes_eq}
use Rattle.std.specs.List.{list_any}
use Rattle.std.proofs.lemmas.Bool.{true≢false}
use Rattle.std.proofs.lemmas.Slice.Eq.{bytes_eq-Decides}
use Rattle.std.proofs.lemmas.List.Folds.{list_any-append}
use Rattle.std.proofs.lemmas.List.Sums.{sum_by-cons}
use Rattle.std.specs.Global.{Global}
use Rattle.std.specs.String.{string_bytes}
use Rattle.tools_directories.specs.Directories.{EachIsListedOnce, directories_of, each_once, is_among, named_directories}

-- ---- filters

-- a list that passes two filters
filter_both : (p q r : List ℕ → Bool) → ((x : List ℕ) → (q x && p x) ≡ r x) → (xs : List (List ℕ)) → filter p (filter q xs) ≡ filter r xs
filter_both p q r same [] = refl
filter_both p q r same (x ∷ xs) =
    elim (q x) as (λ b. q x ≡ b → filter p (cond b (x ∷ filter q xs) (filter q xs)) ≡ cond (r x) (x ∷ filter r xs) (filter r xs)) [
      | true ↦ λ e. let s : p x ≡ r x = ap (λ b. b && p x) (sym e) ∙ same x in rw (s, filter_both p q r same xs) refl
      | false ↦ λ e. let s : false ≡ r x = ap (λ b. b && p x) (sym e) ∙ same x in rw (← s, filter_both p q r same xs) refl
    ] refl

-- whether a directory is not among those so far
abbrev pub is_new : List (List ℕ) → List ℕ → Bool
is_new listed directory = not (is_among directory listed)

differs_if_new : (b a : Bool) → (b ≡ true → a ≡ true) → (not b && not a) ≡ not a
differs_if_new true a h = ap not (sym (h refl))
differs_if_new false a h = refl

both_new : (b a : Bool) → (not b && not a) ≡ not (a || (b || false))
both_new true true = refl
both_new true false = refl
both_new false true = refl
both_new false false = refl

among_same : (d o : List ℕ) (listed : List (List ℕ)) → is_among d listed ≡ true → bytes_eq d o ≡ true → is_among o listed ≡ true
among_same d o listed there same = ap (λ x. is_among x listed) (sym ((bytes_eq-Decides d o).0 same)) ∙ there

append_one : (xs : List (List ℕ)) (d : List ℕ) (ys : List (List ℕ)) → xs ++ d ∷ ys ≡ (xs ++ d ∷ []) ++ ys
append_one [] d ys = refl
append_one (x ∷ xs) d ys = ap (λ zs. x ∷ zs) (append_one xs d ys)

-- ---- the steps of the list

-- a directory that is listed is passed over
pub listed_before : (listed : List (List ℕ)) (d : List ℕ) (rest : List (List ℕ)) → is_among d listed ≡ true
    → listed ++ filter (is_new listed) (each_once (d ∷ rest)) ≡ listed ++ filter (is_new listed) (each_once rest)
listed_before listed d rest there =
    rw there
    (ap (λ zs. listed ++ zs) (filter_both (is_new listed) (λ o. not (bytes_eq d o)) (is_new listed)
    (λ o. differs_if_new (bytes_eq d o) (is_among o listed) (among_same d o listed there)) (each_once rest)))

-- one that is not comes next
pub listed_next : (listed : List (List ℕ)) (d : List ℕ) (rest : List (List ℕ)) → is_among d listed ≡ false
    → listed ++ filter (is_new listed) (each_once (d ∷ rest)) ≡ (listed ++ d ∷ []) ++ filter (is_new (listed ++ d ∷ [])) (each_once rest)
listed_next listed d rest new =
    let kept : filter (is_new listed) (filter (λ o. not (bytes_eq d o)) (each_once rest)) ≡ filter (is_new (listed ++ d ∷ [])) (each_once rest) =
    filter_both (is_new listed) (λ o. not (bytes_eq d o)) (is_new (listed ++ d ∷ []))
    (λ o. both_new (bytes_eq d o) (is_among o listed) ∙ ap not (sym (list_any-append (λ x. bytes_eq x o) listed (d ∷ [])))) (each_once rest) in
    rw new (append_one listed d _ ∙ ap (λ zs. (listed ++ d ∷ []) ++ zs) kept)

-- those that are listed, and the others of the rest, are all
abbrev pub Kept : List (List ℕ) → List (List ℕ) → List (List ℕ) → Type 0
Kept listed rest all = listed ++ filter (is_new listed) (each_once rest) ≡ all

pub kept_same : (listed now : List (List ℕ)) (d : List ℕ) (rest all : List (List ℕ)) → Kept listed (d ∷ rest) all → is_among d listed ≡ true → now ≡ listed
    → Kept now rest all
kept_same listed now d rest all held there same = rw same (sym (listed_before listed d rest there) ∙ held)

pub kept_next : (listed now : List (List ℕ)) (d : List ℕ) (rest all : List (List ℕ)) → Kept listed (d ∷ rest) all → is_among d listed ≡ false
    → now ≡ listed ++ d ∷ []
    → Kept now rest all
kept_next listed now d rest all held new same = rw same (sym (listed_next listed d rest new) ∙ held)

-- none is listed before the first
pub listed_none : (xs : List (List ℕ)) → filter (is_new []) xs ≡ xs
listed_none [] = refl
listed_none (x ∷ xs) = ap (λ zs. x ∷ zs) (listed_none xs)

-- ---- the law

count-cons : (p : List ℕ → Bool) (x : List ℕ) (xs : List (List ℕ)) → count_by p (x ∷ xs) ≡ cond (p x) 1 0 + count_by p xs
count-cons p x xs = sum_by-cons (λ y. cond (p y) 1 0) x xs

counted : (b : Bool) (p : List ℕ → Bool) (x : List ℕ) (xs : List (List ℕ)) → count_by p (cond b (x ∷ xs) xs) ≤ cond (p x) 1 0 + count_by p xs
counted true p x xs = let e = count-cons p x xs in omega arith
counted false p x xs = omega arith

fewer : (p q : List ℕ → Bool) (xs : List (List ℕ)) → count_by p (filter q xs) ≤ count_by p xs
fewer p q [] = omega arith
fewer p q (x ∷ xs) =
    let a : count_by p (cond (q x) (x ∷ filter q xs) (filter q xs)) ≤ cond (p x) 1 0 + count_by p (filter q xs) = counted (q x) p x (filter q xs) in
    let b = fewer p q xs in
    let e = count-cons p x xs in
    omega arith

differs : (d e x : List ℕ) → bytes_eq d e ≡ true → bytes_eq d x ≡ false → bytes_eq x e ≡ false
differs d e x same f = elim (bytes_eq x e) as (λ b. bytes_eq x e ≡ b → b ≡ false) [
  | true ↦ λ t. let is : x ≡ e = (bytes_eq-Decides x e).0 t in absurd (true≢false (sym same ∙ ap (bytes_eq d) (sym is) ∙ f))
  | false ↦ λ g. refl
] refl

zero_more : {n : ℕ} → n ≡ 0 → 0 + n ≡ 0
zero_more e = omega (arith, e)

no_more : (d e : List ℕ) (xs : List (List ℕ)) → bytes_eq d e ≡ true → count_by (λ o. bytes_eq o e) (filter (λ o. not (bytes_eq d o)) xs) ≡ 0
no_more d e [] same = refl
no_more d e (x ∷ xs) same =
    elim (bytes_eq d x) as (λ b. bytes_eq d x ≡ b
    → count_by (λ o. bytes_eq o e) (cond (not b) (x ∷ filter (λ o. not (bytes_eq d o)) xs) (filter (λ o. not (bytes_eq d o)) xs)) ≡ 0) [
      | true ↦ λ t. no_more d e xs same
      | false ↦ λ f. count-cons (λ o. bytes_eq o e) x (filter (λ o. not (bytes_eq d o)) xs) ∙ (rw (differs d e x same f) (zero_more (no_more d e xs same)))
    ] refl

at_most_once : (xs : List (List ℕ)) (e : List ℕ) → count_by (λ o. bytes_eq o e) (each_once xs) ≤ 1
at_most_once [] e = omega arith
at_most_once (d ∷ xs) e = subst (λ n. n ≤ 1) (sym (count-cons (λ o. bytes_eq o e) d (filter (λ o. not (bytes_eq d o)) (each_once xs))))
    (elim (bytes_eq d e) as (λ b. bytes_eq d e ≡ b → cond b 1 0 + count_by (λ o. bytes_eq o e) (filter (λ o. not (bytes_eq d o)) (each_once xs)) ≤ 1) [
      | true ↦ λ t. let none = no_more d e (each_once xs) t in omega arith
      | false ↦ λ f. let a = fewer (λ o. bytes_eq o e) (λ o. not (bytes_eq d o)) (each_once xs) in let b = at_most_once xs e in omega arith
    ] refl)

still_among : (d e : List ℕ) (xs : List (List ℕ)) → bytes_eq d e ≡ false → is_among e (filter (λ o. not (bytes_eq d o)) xs) ≡ is_among e xs
still_among d e [] other = refl
still_among d e (x ∷ xs) other =
    elim (bytes_eq d x) as (λ b. bytes_eq d x ≡ b
    → is_among e (cond (not b) (x ∷ filter (λ o. not (bytes_eq d o)) xs) (filter (λ o. not (bytes_eq d o)) xs)) ≡ (bytes_eq x e || is_among e xs)) [
      | true ↦ λ t. let is : d ≡ x = (bytes_eq-Decides d x).0 t in
          let no : bytes_eq x e ≡ false = ap (λ y. bytes_eq y e) (sym is) ∙ other in rw no (still_among d e xs other)
      | false ↦ λ f. ap (λ b. bytes_eq x e || b) (still_among d e xs other)
    ] refl

members : (xs : List (List ℕ)) (e : List ℕ) → is_among e (each_once xs) ≡ is_among e xs
members [] e = refl
members (d ∷ xs) e =
    elim (bytes_eq d e) as (λ b. bytes_eq d e ≡ b → (b || is_among e (filter (λ o. not (bytes_eq d o)) (each_once xs))) ≡ (b || is_among e xs)) [
      | true ↦ λ t. refl
      | false ↦ λ f. still_among d e (each_once xs) f ∙ members xs e
    ] refl

pub each_is_listed_once : EachIsListedOnce
unfolding directories_of
each_is_listed_once v = record { once = at_most_once (named_directories v); members = members (named_directories v) }

-- ---- strings

pub among-strings : (d : List ℕ) (xs : List (String Global)) → list_any (λ x. bytes_eq (string_bytes x) d) xs ≡ is_among d (map string_bytes xs)
among-strings d [] = refl
among-strings d (x ∷ xs) = ap (λ b. bytes_eq (string_bytes x) d || b) (among-strings d xs)

-- ---- one after another

pub three : (xs ys zs ws : List (List ℕ)) (a b d : List ℕ) → ys ≡ xs ++ a ∷ [] → zs ≡ ys ++ b ∷ [] → ws ≡ zs ++ d ∷ [] → ws ≡ xs ++ a ∷ b ∷ d ∷ []
three xs ys zs ws a b d f g h =
    h ∙ ap (λ v. v ++ d ∷ []) (g ∙ ap (λ v. v ++ b ∷ []) f) ∙ sym (append_one xs a (b ∷ d ∷ []) ∙ append_one (xs ++ a ∷ []) b (d ∷ []))
