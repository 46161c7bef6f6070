-- What the rows of a kind have of a name, whose names rise.
use Rattle.std.proofs.Common.{◌≡◌, ◌≢◌, ℕ, zero, suc, ◌+◌, ◌-◌, ◌<◌, ◌≤◌, true, false, cond, List, [], ◌∷◌, ◌++◌, length, get_or, take, drop, Option, Some}
use Rattle.std.proofs.Common.{None, refl, sym, ap, ◌∙◌, subst, arith, inl, inr}
use Rattle.std.specs.Prelude.{bytes_eq, IsTrue}
use Rattle.std.specs.Ordering.{nat_cmp, is_lt}
use Rattle.std.specs.declared.cmp.Ordering.TheVariants.{Less, Equal, Greater}
use Rattle.std.specs.Cmp.Lexicographic.{slice_cmp}
use Rattle.std.specs.Option.{option_or}
use Rattle.std.proofs.lemmas.Bool.{cases_Bool, cases_lt}
use Rattle.std.proofs.lemmas.Cmp.{nat_list_cmp_total}
use Rattle.std.proofs.lemmas.List.{drop-drop, length-drop, take-append-drop, take_all}
use Rattle.std.proofs.lemmas.Slice.Eq.{bytes_eq-Decides}
use Rattle.ti_caps.proofs.Order.{unequal_from_less, unequal_from_greater}
use Rattle.ti_layout.specs.Values.{Content}
use Rattle.user_extension.specs.Reading.{ReadRow, said}

-- ---- what is said, part by part

or_assoc : (a b c : Option Content) → option_or a (option_or b c) ≡ option_or (option_or a b) c
or_assoc None b c = refl
or_assoc (Some x) b c = refl

or_none : (a : Option Content) → option_or a None ≡ a
or_none None = refl
or_none (Some x) = refl

pub said-append : (xs ys : List ReadRow) (name : List ℕ) → said (xs ++ ys) name ≡ option_or (said xs name) (said ys name)
said-append [] ys name = refl
said-append (x ∷ xs) ys name =
    let e = said-append xs ys name in
    elim (bytes_eq x.0 name) as (λ b. cond b (option_or x.1 (said (xs ++ ys) name)) (said (xs ++ ys) name)
    ≡ option_or (cond b (option_or x.1 (said xs name)) (said xs name)) (said ys name)) [
      | true ↦ ap (option_or x.1) e ∙ or_assoc x.1 (said xs name) (said ys name)
      | false ↦ e
    ]

-- the rows in three parts
pub said_in_three : (rs : List ReadRow) (name : List ℕ) (second third end : ℕ) → second ≤ third → third ≤ end → length rs ≤ end
    → said rs name ≡ option_or (said (take (second - 0) (drop 0 rs)) name)
    (option_or (said (take (third - second) (drop second rs)) name) (said (take (end - third) (drop third rs)) name))
said_in_three rs name second third end a b c =
    let later : drop second rs ≡ take (third - second) (drop second rs) ++ drop third rs =
    sym (take-append-drop (third - second) (drop second rs)) ∙ ap (λ xs. take (third - second) (drop second rs) ++ xs)
    (drop-drop (third - second) second rs ∙ ap (λ (k : ℕ). drop k rs) (omega arith)) in
    let last : drop third rs ≡ take (end - third) (drop third rs) = sym (take_all (end - third) (drop third rs) (omega (arith, c, length-drop third rs))) in
    let front : said (take second rs) name ≡ said (take (second - 0) (drop 0 rs)) name = ap (λ (k : ℕ). said (take k rs) name) (omega arith) in
    ap (λ xs. said xs name) (sym (take-append-drop second rs)) ∙ said-append (take second rs) (drop second rs) name
    ∙ ap (λ o. option_or o (said (drop second rs) name)) front
    ∙ ap (option_or (said (take (second - 0) (drop 0 rs)) name)) (ap (λ xs. said xs name) later
    ∙ said-append (take (third - second) (drop second rs)) (drop third rs) name
    ∙ ap (λ xs. option_or (said (take (third - second) (drop second rs)) name) (said xs name)) last)

-- the part that is the first to have something
pub found_first : (rs : List ReadRow) (name : List ℕ) (x : Content) (a rest : Option Content) → Some x ≡ a → said rs name ≡ option_or a rest
    → Some x ≡ said rs name
found_first rs name x a rest e f = ap (λ (o : Option Content). option_or o rest) e ∙ sym f

pub found_second : (x : Content) (a b c q : Option Content) → None ≡ a → Some x ≡ b → q ≡ option_or a (option_or b c) → Some x ≡ q
found_second x a b c q e g f = ap (λ (o : Option Content). option_or o c) g ∙ ap (λ (o : Option Content). option_or o (option_or b c)) e ∙ sym f

pub found_third : (o a b c q : Option Content) → None ≡ a → None ≡ b → o ≡ c → q ≡ option_or a (option_or b c) → o ≡ q
found_third o a b c q e g h f = h ∙ ap (λ (o : Option Content). option_or o c) g ∙ ap (λ (o : Option Content). option_or o (option_or b c)) e ∙ sym f

pub said_none : (rs : List ReadRow) (name : List ℕ) → ((k : ℕ) → k < length rs → (get_or rs k ([], None)).0 ≢ name) → said rs name ≡ None
said_none [] name h = refl
said_none (r ∷ rs) name h =
    let later = said_none rs name (λ k lt. h (suc k) (omega (arith, lt))) in
    elim (cases_Bool (bytes_eq r.0 name)) [
      | inl t ↦ absurd (h 0 (omega arith) ((bytes_eq-Decides r.0 name).0 t))
      | inr f ↦ ap (λ b. cond b (option_or r.1 (said rs name)) (said rs name)) f ∙ later
    ]

pub said_one : (rs : List ReadRow) (name : List ℕ) (i : ℕ) → i < length rs → (get_or rs i ([], None)).0 ≡ name
    → ((k : ℕ) → k < length rs → k ≢ i → (get_or rs k ([], None)).0 ≢ name) → said rs name ≡ (get_or rs i ([], None)).1
said_one [] name i lt e h = absurd (omega (arith, lt))
said_one (r ∷ rs) name zero lt e h =
    let later = said_none rs name (λ k l. h (suc k) (omega (arith, l)) (omega arith)) in
    ap (λ b. cond b (option_or r.1 (said rs name)) (said rs name)) ((bytes_eq-Decides r.0 name).1 e) ∙ ap (option_or r.1) later ∙ or_none r.1
said_one (r ∷ rs) name (suc i) lt e h =
    let later = said_one rs name i (omega (arith, lt)) e (λ k l n. h (suc k) (omega (arith, l)) (omega (arith, n))) in
    elim (cases_Bool (bytes_eq r.0 name)) [
      | inl t ↦ absurd (h 0 (omega arith) (omega arith) ((bytes_eq-Decides r.0 name).0 t))
      | inr f ↦ ap (λ b. cond b (option_or r.1 (said rs name)) (said rs name)) f ∙ later
    ]

-- ---- names that rise

less_from_test : (x y : List ℕ) → IsTrue (is_lt (slice_cmp nat_cmp x y)) → slice_cmp nat_cmp x y ≡ Less
less_from_test x y e = elim (slice_cmp nat_cmp x y) as (λ o. IsTrue (is_lt o) → o ≡ Less) [ Less ↦ λ _. refl | Equal ↦ λ h. cc | Greater ↦ λ h. cc ] e

-- each name between two places comes before the next
abbrev pub Rises : (ℕ → List ℕ) → ℕ → ℕ → Type 0
Rises f low high = (k : ℕ) → low ≤ k → suc k < high → IsTrue (is_lt (slice_cmp nat_cmp (f k) (f (suc k))))

rises_on : (f : ℕ → List ℕ) (low high i n j : ℕ) → Rises f low high → low ≤ i → j ≡ suc (i + n) → j < high → slice_cmp nat_cmp (f i) (f j) ≡ Less
rises_on f low high i zero j rises l e lt =
    let one : suc i ≡ j = omega (arith, e) in
    subst (λ (k : ℕ). slice_cmp nat_cmp (f i) (f k) ≡ Less) one (less_from_test (f i) (f (suc i)) (rises i l (omega (arith, lt, e))))
rises_on f low high i (suc n) j rises l e lt =
    let m : ℕ = suc (i + n) in
    let one : suc m ≡ j = omega (arith, e) in
    let before = rises_on f low high i n m rises l refl (omega (arith, lt, e)) in
    let here = subst (λ (k : ℕ). slice_cmp nat_cmp (f m) (f k) ≡ Less) one
    (less_from_test (f m) (f (suc m)) (rises m (omega (arith, l)) (omega (arith, lt, e)))) in
    nat_list_cmp_total.trans (f i) (f m) (f j) before here

pub rising : (f : ℕ → List ℕ) (low high i j : ℕ) → Rises f low high → low ≤ i → i < j → j < high → slice_cmp nat_cmp (f i) (f j) ≡ Less
rising f low high i j rises l a b = rises_on f low high i (j - suc i) j rises l (omega arith) b

-- a name is in one place
pub apart : (f : ℕ → List ℕ) (low high i k : ℕ) (name : List ℕ) → Rises f low high → low ≤ i → i < high → f i ≡ name → low ≤ k → k < high → k ≢ i → f k ≢ name
apart f low high i k name rises li hi e lk hk n same = elim (cases_lt i k) [
  | inl lt ↦ unequal_from_less (f i) (f k) (rising f low high i k rises li lt hk) (e ∙ sym same)
  | inr le ↦ unequal_from_less (f k) (f i) (rising f low high k i rises lk (omega (arith, le, n)) hi) (same ∙ sym e)
]

-- those up to one that comes before a name are not it
pub not_before : (f : ℕ → List ℕ) (low high middle k : ℕ) (name : List ℕ) → Rises f low high → middle < high → slice_cmp nat_cmp (f middle) name ≡ Less
    → low ≤ k → k < middle + 1 → f k ≢ name
not_before f low high middle k name rises m less l lt = elim (cases_lt k middle) [
  | inl before ↦ unequal_from_less (f k) name (nat_list_cmp_total.trans (f k) (f middle) name (rising f low high k middle rises l before m) less)
  | inr at ↦ let same : middle ≡ k = omega (arith, at, lt) in subst (λ (j : ℕ). f j ≢ name) same (unequal_from_less (f middle) name less)
]

-- those from one on that comes after a name are not it
pub not_after : (f : ℕ → List ℕ) (low high middle k : ℕ) (name : List ℕ) → Rises f low high → low ≤ middle → slice_cmp nat_cmp (f middle) name ≡ Greater
    → middle ≤ k → k < high → f k ≢ name
not_after f low high middle k name rises m greater le lt = elim (cases_lt middle k) [
  | inl after ↦ λ same.
      let less : slice_cmp nat_cmp (f middle) name ≡ Less =
      subst (λ (n : List ℕ). slice_cmp nat_cmp (f middle) n ≡ Less) same (rising f low high middle k rises m after lt) in
      absurd cc
  | inr at ↦ let same : middle ≡ k = omega (arith, at, le) in subst (λ (j : ℕ). f j ≢ name) same (unequal_from_greater (f middle) name greater)
]
