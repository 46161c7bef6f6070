-- What the key of a name shows.
use Rattle.std.proofs.Common.{◌≡◌, ℕ, zero, suc, ◌+◌, ◌*◌, ◌-◌, ◌/◌, ◌%◌, ◌^◌, ◌<◌, ◌≤◌, Bool, true, false, ◌||◌, cond, eqb, List, [], ◌∷◌, length}
use Rattle.std.proofs.Common.{take, drop, get_or, None, Some, refl, sym, ap, ◌∙◌, subst, arith, inl, inr}
use Rattle.std.specs.Prelude.{codes, bytes_eq, option_map}
use Rattle.std.specs.Ordering.{nat_cmp, ordering_then}
use Rattle.std.specs.declared.cmp.Ordering.TheVariants.{Less, Equal}
use Rattle.std.specs.Cmp.{nat_cmp_is}
use Rattle.std.specs.Cmp.Lexicographic.{slice_cmp}
use Rattle.std.specs.List.{list_all, before_first, position_or_len}
use Rattle.std.proofs.lemmas.Bool.{and_parts, cases_Bool, cases_lt, ne_eqb}
use Rattle.std.proofs.lemmas.Nat.{mul-add-lt, mul-le, pow-add, shl_whole, shr_high}
use Rattle.std.proofs.lemmas.List.{get_or-take, get_or_past, length-take}
use Rattle.std.proofs.lemmas.Slice.Eq.{bytes_eq-Decides}
use Rattle.std.proofs.Math.Nat.{add-mul, mul_assoc, pow-suc, suc-mul}
use Rattle.byteorder.specs.Endian.{big_from}
use Rattle.ti_caps.specs.declared.capability.Kind.{Kind}
use Rattle.ti_caps.specs.declared.capability.Kind.TheVariants.{Flag, Number, Text}
use Rattle.ti_caps.specs.Names.{flag_names, number_names, text_names}
use Rattle.ti_caps.specs.Tables.{capability_named, names, place_of}
use Rattle.user_items.specs.Names.{is_user_defined_byte, is_user_defined_name}
use Rattle.user_extension.specs.inside.Keys.{is_marked, is_plain_byte, key_of}

-- ---- the order of keys is that of names

big_cons : (i n x : ℕ) (xs : List ℕ) → big_from (suc i) n (x ∷ xs) ≡ big_from i n xs
big_cons i zero x xs = refl
big_cons i (suc n) x xs = ap (λ m. get_or xs i 0 * 256 ^ n + m) (big_cons (suc i) n x xs)

big_nil : (i n : ℕ) → big_from i n [] ≡ 0
big_nil i zero = refl
big_nil i (suc n) = omega (arith, big_nil (suc i) n)

-- bytes, as a list of numbers
abbrev pub AreBytes : List ℕ → Type 0
AreBytes xs = (k : ℕ) → get_or xs k 0 < 256

big_below : (i n : ℕ) (xs : List ℕ) → AreBytes xs → big_from i n xs < 256 ^ n
big_below i zero xs bytes = omega arith
big_below i (suc n) xs bytes =
    let row = mul-add-lt (get_or xs i 0) (256 ^ n) (big_from (suc i) n xs) 256 (bytes i) (big_below (suc i) n xs bytes) in
    let more = pow-suc 256 n in
    omega (arith, row, more)

-- the first byte that differs decides
head_decides : (x y m r s : ℕ) → r < m → s < m → x * m + r < y * m + s → x ≤ y
head_decides x y m r s low high less = elim (cases_lt y x) [
  | inl above ↦
      let step = mul-le (suc y) m x m (omega arith) (omega arith) in
      let next = suc-mul y m in
      absurd (omega (arith, step, next, less, low, high))
  | inr not_above ↦ omega (arith, not_above)
]

pub rises_by_key : (n : ℕ) (a b : List ℕ) → AreBytes a → AreBytes b → big_from 0 n a < big_from 0 n b → slice_cmp nat_cmp a b ≡ Less
rises_by_key zero a b p q less = absurd (omega (arith, less))
rises_by_key (suc n) [] [] p q less = absurd (omega (arith, less))
rises_by_key (suc n) [] (y ∷ ys) p q less = refl
rises_by_key (suc n) (x ∷ xs) [] p q less = let none = big_nil 0 (suc n) in absurd (omega (arith, less, none))
rises_by_key (suc n) (x ∷ xs) (y ∷ ys) p q less =
    let r = big_cons 0 n x xs in
    let s = big_cons 0 n y ys in
    let low = big_below 0 n xs (λ k. p (suc k)) in
    let high = big_below 0 n ys (λ k. q (suc k)) in
    let rest : x * 256 ^ n + big_from 0 n xs < y * 256 ^ n + big_from 0 n ys = omega (arith, less, r, s) in
    let first = head_decides x y (256 ^ n) (big_from 0 n xs) (big_from 0 n ys) low high rest in
    elim (cases_lt x y) [
      | inl below ↦ ap (λ o. ordering_then o (slice_cmp nat_cmp xs ys)) (sym (nat_cmp_is x y Less below))
      | inr not_below ↦
          let same : x ≡ y = omega (arith, first, not_below) in
          let inner : big_from 0 n xs < big_from 0 n ys = omega (arith, rest, ap (λ (k : ℕ). k * 256 ^ n) same) in
          ap (λ o. ordering_then o (slice_cmp nat_cmp xs ys)) (sym (nat_cmp_is x y Equal same)) ∙ rises_by_key n xs ys (λ k. p (suc k)) (λ k. q (suc k)) inner
    ]

-- ---- a key without a mark

marked_names : (k : Kind) → list_all (λ n. is_marked (key_of n)) (names k) ≡ true
unfolding is_marked names flag_names number_names text_names
marked_names Flag = refl
marked_names Number = refl
marked_names Text = refl

marked_use : is_marked (key_of (codes "use")) ≡ true
unfolding is_marked
marked_use = refl

marked_empty : is_marked (key_of []) ≡ true
unfolding is_marked
marked_empty = refl

not_true : (b : Bool) → b ≡ true → b ≡ false → ⊥
not_true b e f = let never : true ≡ false = sym e ∙ f in cc

no_place : (x : List ℕ) (ns : List (List ℕ)) → list_all (λ n. is_marked (key_of n)) ns ≡ true → is_marked (key_of x) ≡ false → place_of x ns ≡ None
no_place x [] all none = refl
no_place x (n ∷ ns) all none =
    let parts = and_parts _ _ all in
    elim (cases_Bool (bytes_eq n x)) [
      | inl same ↦ absurd (not_true _ (sym (ap (λ m. is_marked (key_of m)) ((bytes_eq-Decides n x).0 same)) ∙ parts.0) none)
      | inr other ↦
          ap (λ b. cond b (Some 0) (option_map (λ i. suc i) (place_of x ns))) other
          ∙ ap (option_map (λ i. suc i)) (no_place x ns parts.1 none)
    ]

not_use : (x : List ℕ) → is_marked (key_of x) ≡ false → bytes_eq x (codes "use") ≡ false
not_use x none = elim (cases_Bool (bytes_eq x (codes "use"))) [
  | inl same ↦ absurd (not_true _ (ap (λ m. is_marked (key_of m)) ((bytes_eq-Decides x (codes "use")).0 same) ∙ marked_use) none)
  | inr other ↦ other
]

not_empty : (x : List ℕ) → is_marked (key_of x) ≡ false → eqb (length x) 0 ≡ false
not_empty [] none = absurd (not_true _ marked_empty none)
not_empty (b ∷ x) none = ne_eqb _ _ (omega arith)

pub unmarked_is_user_defined : (x : List ℕ) → list_all is_user_defined_byte x ≡ true → is_marked (key_of x) ≡ false → is_user_defined_name x ≡ true
unfolding is_user_defined_name capability_named
unmarked_is_user_defined x bytes none =
    rw (
      not_empty x none,
      bytes,
      not_use x none,
      no_place x (names Flag) (marked_names Flag) none,
      no_place x (names Number) (marked_names Number) none,
      no_place x (names Text) (marked_names Text) none,
    ) refl

-- ---- a table of plain bytes

pub plain_after : (n : ℕ) (xs : List ℕ) → list_all is_plain_byte xs ≡ true → list_all is_plain_byte (drop n xs) ≡ true
plain_after zero xs plain = plain
plain_after (suc n) [] plain = refl
plain_after (suc n) (x ∷ xs) plain = plain_after n xs (and_parts _ _ plain).1

pub plain_text : (xs : List ℕ) → list_all is_plain_byte xs ≡ true → list_all is_user_defined_byte (before_first (λ b. eqb b 0) xs) ≡ true
plain_text [] plain = refl
plain_text (x ∷ xs) plain = elim (cases_Bool (eqb x 0)) [
  | inl nul ↦ rw nul refl
  | inr other ↦
      let parts = and_parts _ _ plain in
      let byte : is_user_defined_byte x ≡ true = sym (ap (λ b. b || is_user_defined_byte x) other) ∙ parts.0 in
      let n : ℕ = position_or_len (λ b. eqb b 0) xs in
      let front : list_all is_user_defined_byte (take (suc n) (x ∷ xs)) ≡ true = rw byte (plain_text xs parts.1) in
      let more : suc n ≡ 1 + n = omega arith in
      rw other (subst (λ (k : ℕ). list_all is_user_defined_byte (take k (x ∷ xs)) ≡ true) more front)
]

-- ---- a key from the eight bytes at a name's place

split : (n m i k : ℕ) (xs : List ℕ) → k ≡ n + m → big_from i k xs ≡ big_from i n xs * 256 ^ m + big_from (i + n) m xs
split zero m i k xs e =
    let place : big_from i k xs ≡ big_from (i + 0) k xs = ap (λ (j : ℕ). big_from j k xs) (omega arith) in
    let count : big_from (i + 0) k xs ≡ big_from (i + 0) m xs = ap (λ (j : ℕ). big_from (i + 0) j xs) (omega (arith, e)) in
    omega (arith, place, count)
split (suc n) m i zero xs e = absurd (omega (arith, e))
split (suc n) m i (suc k) xs e =
    let x : ℕ = get_or xs i 0 in
    let later = split n m (suc i) k xs (omega (arith, e)) in
    let place : big_from (suc i + n) m xs ≡ big_from (i + suc n) m xs = ap (λ (j : ℕ). big_from j m xs) (omega arith) in
    let power : 256 ^ k ≡ 256 ^ n * 256 ^ m = ap (λ (j : ℕ). 256 ^ j) (omega (arith, e)) ∙ pow-add 256 n m in
    let head : x * 256 ^ k ≡ x * 256 ^ n * 256 ^ m = ap (λ (p : ℕ). x * p) power ∙ sym (mul_assoc x (256 ^ n) (256 ^ m)) in
    let both = add-mul (x * 256 ^ n) (big_from (suc i) n xs) (256 ^ m) in
    omega (arith, later, place, head, both)

big_same : (n i : ℕ) (xs ys : List ℕ) → ((k : ℕ) → i ≤ k → k < i + n → get_or xs k 0 ≡ get_or ys k 0) → big_from i n xs ≡ big_from i n ys
big_same zero i xs ys h = refl
big_same (suc n) i xs ys h =
    ap (λ (x : ℕ). x * 256 ^ n + big_from (suc i) n xs) (h i (omega arith) (omega arith))
    ∙ ap (λ (r : ℕ). get_or ys i 0 * 256 ^ n + r) (big_same n (suc i) xs ys (λ k low high. h k (omega (arith, low)) (omega (arith, high))))

big_past : (n i : ℕ) (xs : List ℕ) → length xs ≤ i → big_from i n xs ≡ 0
big_past zero i xs past = refl
big_past (suc n) i xs past =
    let rest = big_past n (suc i) xs (omega (arith, past)) in
    ap (λ (x : ℕ). x * 256 ^ n + big_from (suc i) n xs) (get_or_past xs i 0 past) ∙ omega (arith, rest)

power_of_bytes : (r : ℕ) → 2 ^ (8 * r) ≡ 256 ^ r
power_of_bytes zero = refl
power_of_bytes (suc r) =
    let one : 2 ^ (8 * suc r) ≡ 2 ^ (8 * r) * 2 ^ 8 = ap (λ (k : ℕ). 2 ^ k) (omega arith) ∙ pow-add 2 (8 * r) 8 in
    let more = pow-suc 256 r in
    omega (arith, one, more, power_of_bytes r)

-- the highest bytes of eight, and zeros in the place of the others
pub key_of_front : (len unused : ℕ) (xs : List ℕ) → AreBytes xs → len ≤ 8 → unused ≡ 8 * (8 - len)
    → (big_from 0 8 xs / 2 ^ unused * 2 ^ unused) % 2 ^ 64 ≡ key_of (take len xs)
key_of_front len unused xs bytes most is =
    let r : ℕ = 8 - len in
    let high : ℕ = big_from 0 len xs in
    let low : ℕ = big_from len r xs in
    let power : 2 ^ unused ≡ 256 ^ r = ap (λ (k : ℕ). 2 ^ k) is ∙ power_of_bytes r in
    let small : low < 2 ^ unused = subst (λ (p : ℕ). low < p) (sym power) (big_below len r xs bytes) in
    let place : big_from (0 + len) r xs ≡ low = ap (λ (j : ℕ). big_from j r xs) (omega arith) in
    let shifted : high * 2 ^ unused ≡ high * 256 ^ r = ap (λ (p : ℕ). high * p) power in
    let whole_number = split len r 0 8 xs (omega (arith, most)) in
    let cut : big_from 0 8 xs ≡ high * 2 ^ unused + low = omega (arith, whole_number, place, shifted) in
    let front : big_from 0 8 xs / 2 ^ unused ≡ high = ap (λ (n : ℕ). n / 2 ^ unused) cut ∙ shr_high high unused low small in
    let below : high < 2 ^ (8 * len) = subst (λ (p : ℕ). high < p) (sym (power_of_bytes len)) (big_below 0 len xs bytes) in
    let whole : high * 2 ^ unused % 2 ^ 64 ≡ high * 2 ^ unused = shl_whole high (8 * len) unused 64 below (omega (arith, is, most)) in
    let ys = take len xs in
    let same : big_from 0 len ys ≡ high = big_same len 0 ys xs (λ k a b. get_or-take len xs k 0 (omega (arith, b))) in
    let none = big_past r (0 + len) ys (omega (arith, length-take len xs)) in
    let whole_name = split len r 0 8 ys (omega (arith, most)) in
    let fronts : big_from 0 len ys * 256 ^ r ≡ high * 256 ^ r = ap (λ (h : ℕ). h * 256 ^ r) same in
    let name : big_from 0 8 ys ≡ high * 2 ^ unused = omega (arith, whole_name, fronts, shifted, none) in
    ap (λ (n : ℕ). n * 2 ^ unused % 2 ^ 64) front ∙ whole ∙ sym name

-- ---- a text is the front of what begins at its place

front_of : (n : ℕ) (xs : List ℕ) → take (length (take n xs)) xs ≡ take n xs
front_of zero xs = refl
front_of (suc n) [] = refl
front_of (suc n) (x ∷ xs) = ap (λ (ys : List ℕ). x ∷ ys) (front_of n xs)

pub text_front : (text xs : List ℕ) → text ≡ before_first (λ b. eqb b 0) xs → text ≡ take (length text) xs
text_front text xs e = e ∙ sym (front_of (position_or_len (λ b. eqb b 0) xs) xs) ∙ ap (λ (t : List ℕ). take (length t) xs) (sym e)
