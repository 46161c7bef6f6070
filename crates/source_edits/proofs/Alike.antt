-- With how many bytes two texts begin, and end, alike.
use Rattle.std.proofs.Common.{◌≡◌, ◌≢◌, ◌≤◌, ◌⊎◌, ℕ, zero, suc, ◌+◌, ◌<◌, ◌-◌, List, [], ◌∷◌, drop, get_or, length, min, nat_le, reverse}
use Rattle.std.proofs.Common.{add-one, inl, inr, refl, sym, ap, ◌∙◌, arith}
use Rattle.std.proofs.lemmas.Bool.{cases_Bool, eq-eqb, leb-false, leb-true, ne_eqb}
use Rattle.std.proofs.lemmas.List.{get_or-reverse, length-reverse}
use Rattle.ti_source.specs.Folding.{PlacedByte}
use Rattle.ti_source.specs.Items.{bytes}
use Rattle.source_edits.specs.Narrowing.{shared}

pub shared_on : (xs ns : List ℕ) (k : ℕ) → k + 1 < length xs → k + 1 < length ns → get_or xs k 0 ≡ get_or ns k 0
    → shared (drop k xs) (drop k ns) ≡ suc (shared (drop (suc k) xs) (drop (suc k) ns))
shared_on [] ns k long also is = absurd (omega (arith, long))
shared_on (x ∷ xs) [] k long also is = absurd (omega (arith, also))
shared_on (x ∷ []) (n ∷ ns) zero long also is = absurd (omega (arith, long))
shared_on (x ∷ y ∷ ys) (n ∷ []) zero long also is = absurd (omega (arith, also))
shared_on (x ∷ y ∷ ys) (n ∷ m ∷ ms) zero long also is = rw (eq-eqb x n is) refl
shared_on (x ∷ xs) (n ∷ ns) (suc k) long also is = shared_on xs ns k (omega (arith, long)) (omega (arith, also)) is

pub shared_apart : (xs ns : List ℕ) (k : ℕ) → k + 1 < length xs → k + 1 < length ns → get_or xs k 0 ≢ get_or ns k 0
    → shared (drop k xs) (drop k ns) ≡ 0
shared_apart [] ns k long also is = absurd (omega (arith, long))
shared_apart (x ∷ xs) [] k long also is = absurd (omega (arith, also))
shared_apart (x ∷ []) (n ∷ ns) zero long also is = absurd (omega (arith, long))
shared_apart (x ∷ y ∷ ys) (n ∷ []) zero long also is = absurd (omega (arith, also))
shared_apart (x ∷ y ∷ ys) (n ∷ m ∷ ms) zero long also is = rw (ne_eqb x n is) refl
shared_apart (x ∷ xs) (n ∷ ns) (suc k) long also is = shared_apart xs ns k (omega (arith, long)) (omega (arith, also)) is

-- one of them ends
pub shared_ends : (xs ns : List ℕ) (k : ℕ) → (length xs ≤ k + 1) ⊎ (length ns ≤ k + 1) → shared (drop k xs) (drop k ns) ≡ 0
shared_ends [] ns zero ends = refl
shared_ends [] ns (suc k) ends = refl
shared_ends (x ∷ xs) [] zero ends = by_rest x xs
  where
    by_rest : (x : ℕ) (xs : List ℕ) → shared (x ∷ xs) [] ≡ 0
    by_rest x [] = refl
    by_rest x (y ∷ ys) = refl
shared_ends (x ∷ xs) [] (suc k) ends = none (drop k xs)
  where
    none : (xs : List ℕ) → shared xs [] ≡ 0
    none [] = refl
    none (x ∷ []) = refl
    none (x ∷ y ∷ ys) = refl
shared_ends (x ∷ []) (n ∷ ns) zero ends = refl
shared_ends (x ∷ y ∷ ys) (n ∷ []) zero ends = refl
shared_ends (x ∷ y ∷ ys) (n ∷ m ∷ ms) zero ends = elim ends [ inl one ↦ absurd (omega (arith, one)) | inr other ↦ absurd (omega (arith, other)) ]
shared_ends (x ∷ xs) (n ∷ ns) (suc k) ends =
    shared_ends xs ns k (elim ends [ inl one ↦ inl (omega (arith, one)) | inr other ↦ inr (omega (arith, other)) ])

-- the byte at a place
pub byte_at : (text : List PlacedByte) (k : ℕ) (d : PlacedByte) → k < length text → get_or (bytes text) k 0 ≡ (get_or text k d).0
byte_at [] k d within = absurd (omega (arith, within))
byte_at (x ∷ xs) zero d within = refl
byte_at (x ∷ xs) (suc k) d within = byte_at xs k d (omega (arith, within))

pub length_bytes : (text : List PlacedByte) → length (bytes text) ≡ length text
length_bytes [] = refl
length_bytes (x ∷ xs) = ap suc (length_bytes xs)

-- ---- from the front

-- the bytes up to a place are alike
abbrev pub AlikeTo : List ℕ → List ℕ → ℕ → Type 0
AlikeTo xs ns k = k + shared (drop k xs) (drop k ns) ≡ shared xs ns

pub front_apart : (old : List PlacedByte) (new : List ℕ) (k m s : ℕ) → m ≡ min (length old) (length new) → s ≡ m - 1 → k < s
    → ((get_or old k (0, 0)).0 ≡ get_or new k 0 → ⊥) → AlikeTo (bytes old) new k → k ≡ shared (bytes old) new
front_apart old new k m s e f within apart alike =
    let size = length_bytes old in
    let none = shared_apart (bytes old) new k (omega (arith, within, e, f, size)) (omega (arith, within, e, f))
    (λ is. apart (sym (byte_at old k (0, 0) (omega (arith, within, e, f))) ∙ is)) in
    omega (arith, alike, none)

pub front_on : (old : List PlacedByte) (new : List ℕ) (k m s : ℕ) → m ≡ min (length old) (length new) → s ≡ m - 1 → k < s
    → (get_or old k (0, 0)).0 ≡ get_or new k 0 → AlikeTo (bytes old) new k → AlikeTo (bytes old) new (k + 1)
front_on old new k m s e f within is alike =
    let size = length_bytes old in
    let more = shared_on (bytes old) new k (omega (arith, within, e, f, size)) (omega (arith, within, e, f))
    (byte_at old k (0, 0) (omega (arith, within, e, f)) ∙ is) in
    rw add-one (omega (arith, alike, more))

pub ends_at : (xs ns : List ℕ) (k m s : ℕ) → m ≡ min (length xs) (length ns) → s ≡ m - 1 → s ≤ k → k ≤ s → AlikeTo xs ns k → s ≡ shared xs ns
ends_at xs ns k m s e f low high alike =
    let none = shared_ends xs ns k (short (length xs) (length ns) k (omega (arith, low, e, f))) in
    omega (arith, alike, none, low, high)
  where
    short : (a b k : ℕ) → min a b ≤ k + 1 → (a ≤ k + 1) ⊎ (b ≤ k + 1)
    short a b k less = elim (cases_Bool (nat_le a (k + 1))) [ inl t ↦ inl (leb-true a (k + 1) t) | inr f ↦ inr (let no = leb-false a (k + 1) f in omega (arith, less, no)) ]

-- ---- from the back

last_at : (old : List PlacedByte) (k : ℕ) → k < length old → get_or (reverse (bytes old)) k 0 ≡ (get_or old (length old - 1 - k) (0, 0)).0
last_at old k within =
    let size = length_bytes old in
    get_or-reverse (bytes old) k 0 (omega (arith, within, size)) ∙ ap (λ (n : ℕ). get_or (bytes old) (n - 1 - k) 0) size
    ∙ byte_at old (length old - 1 - k) (0, 0) (omega (arith, within))

pub back_apart : (old : List PlacedByte) (new : List ℕ) (k m s : ℕ) → m ≡ min (length old) (length new) → s ≡ m - 1 → k < s
    → ((get_or old (length old - 1 - k) (0, 0)).0 ≡ get_or new (length new - 1 - k) 0 → ⊥) → AlikeTo (reverse (bytes old)) (reverse new) k
    → k ≡ shared (reverse (bytes old)) (reverse new)
back_apart old new k m s e f within apart alike =
    let size = length_bytes old in
    let one = length-reverse (bytes old) in
    let other = length-reverse new in
    let none = shared_apart (reverse (bytes old)) (reverse new) k (omega (arith, within, e, f, size, one)) (omega (arith, within, e, f, other))
    (λ is. apart (sym (last_at old k (omega (arith, within, e, f))) ∙ is ∙ get_or-reverse new k 0 (omega (arith, within, e, f)))) in
    omega (arith, alike, none)

pub back_on : (old : List PlacedByte) (new : List ℕ) (k m s : ℕ) → m ≡ min (length old) (length new) → s ≡ m - 1 → k < s
    → (get_or old (length old - 1 - k) (0, 0)).0 ≡ get_or new (length new - 1 - k) 0 → AlikeTo (reverse (bytes old)) (reverse new) k
    → AlikeTo (reverse (bytes old)) (reverse new) (k + 1)
back_on old new k m s e f within is alike =
    let size = length_bytes old in
    let one = length-reverse (bytes old) in
    let other = length-reverse new in
    let more = shared_on (reverse (bytes old)) (reverse new) k (omega (arith, within, e, f, size, one)) (omega (arith, within, e, f, other))
    (last_at old k (omega (arith, within, e, f)) ∙ is ∙ sym (get_or-reverse new k 0 (omega (arith, within, e, f)))) in
    rw add-one (omega (arith, alike, more))
