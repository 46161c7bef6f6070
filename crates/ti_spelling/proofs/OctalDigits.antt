-- Reading the octal digits at the front of a text one by one.
use Rattle.std.proofs.Common.{◌≡◌, ℕ, zero, suc, ◌+◌, ◌-◌, ◌*◌, ◌^◌, ◌<◌, ◌≤◌, ◌≢◌, Bool, true, false, List, [], ◌∷◌, length, get_or, drop, refl, ap, subst}
use Rattle.std.proofs.Common.{sym, ◌∙◌, cond, add-one, arith}
use Rattle.std.specs.Prelude.{nat_le}
use Rattle.std.proofs.Math.Nat.{pow-suc}
use Rattle.std.proofs.Math.Seq.{drop-cons}
use Rattle.std.proofs.lemmas.Bool.{leb-true, and_parts}
use Rattle.ti_spelling.specs.Spelling.{is_octal_digit, octal_digits_up_to, octal_digits, octal_value_from, octal_value}

pub digits_on : (x n : ℕ) (xs : List ℕ) → is_octal_digit x ≡ true → octal_digits_up_to (suc n) (x ∷ xs) ≡ x ∷ octal_digits_up_to n xs
digits_on x n xs e = ap (λ (b : Bool). cond b (x ∷ octal_digits_up_to n xs) []) e

pub digits_off : (x n : ℕ) (xs : List ℕ) → is_octal_digit x ≡ false → octal_digits_up_to n (x ∷ xs) ≡ []
digits_off x zero xs e = refl
digits_off x (suc n) xs e = ap (λ (b : Bool). cond b (x ∷ octal_digits_up_to n xs) []) e

-- `count` digits of `text` were read, and make `value`; at most `left` of the digits of `rest`
-- belong to them
pub record IsOctalFront (text : List ℕ) (value count left : ℕ) (rest : List ℕ) : Type 0 where
  pub values : octal_value (octal_digits text) ≡ octal_value_from value (octal_digits_up_to left rest)
  pub lengths : length (octal_digits text) ≡ count + length (octal_digits_up_to left rest)
  pub room : left + count ≡ 3
  pub below : value < 8 ^ count

pub starts : (text : List ℕ) → IsOctalFront text 0 0 3 text
starts text = record { values = refl; lengths = omega arith; room = refl; below = omega arith }

pub digit_bounds : (x : ℕ) → is_octal_digit x ≡ true → (48 ≤ x) × (x ≤ 55)
digit_bounds x e = let p = and_parts (nat_le 48 x) (nat_le x 55) e in (leb-true 48 x p.0, leb-true x 55 p.1)

pub goes_on : (text : List ℕ) (value count left x : ℕ) (xs : List ℕ) → is_octal_digit x ≡ true → IsOctalFront text value count (suc left) (x ∷ xs)
    → IsOctalFront text (value * 8 + (x - 48)) (count + 1) left xs
goes_on text value count left x xs e front = record {
  values = front.values ∙ ap (octal_value_from value) (digits_on x left xs e);
  lengths = front.lengths ∙ ap (λ (ds : List ℕ). count + length ds) (digits_on x left xs e) ∙ omega arith;
  room = omega (arith, front.room);
  below = rw add-one (omega (arith, pow-suc 8 count, front.below, digit_bounds x e));
}

-- the value is small while there is room for a digit
pub small : (count value : ℕ) → count < 3 → value < 8 ^ count → value < 64
small zero value lt below = omega arith
small (suc zero) value lt below = omega arith
small (suc (suc zero)) value lt below = omega arith
small (suc (suc (suc n))) value lt below = absurd (omega arith)

pub record IsOctalRead (text : List ℕ) (value count : ℕ) : Type 0 where
  pub value_is : octal_value (octal_digits text) ≡ value
  pub count_is : length (octal_digits text) ≡ count

stops : (text : List ℕ) (value count left : ℕ) (rest : List ℕ) → octal_digits_up_to left rest ≡ [] → IsOctalFront text value count left rest
    → IsOctalRead text value count
stops text value count left rest none front = record {
  value_is = front.values ∙ ap (octal_value_from value) none;
  count_is = front.lengths ∙ ap (λ (ds : List ℕ). count + length ds) none ∙ omega arith;
}

-- the reading stops: there are three digits, or another byte follows
pub stops_at_three : (text : List ℕ) (value count : ℕ) (rest : List ℕ) → count ≡ 3 → IsOctalFront text value count (3 - count) rest
    → IsOctalRead text value count
stops_at_three text value count rest full front =
    let none : 3 - count ≡ 0 = omega arith in
    stops text value count (3 - count) rest (ap (λ (left : ℕ). octal_digits_up_to left rest) none) front

pub stops_at_other : (text : List ℕ) (value count i : ℕ) → i < length text → is_octal_digit (get_or text i 0) ≡ false
    → IsOctalFront text value count (3 - count) (drop i text) → IsOctalRead text value count
stops_at_other text value count i lt other front =
    stops text value count (3 - count) (drop i text) (ap (octal_digits_up_to (3 - count)) (drop-cons text i 0 lt)
    ∙ digits_off (get_or text i 0) (3 - count) (drop (suc i) text) other) front

-- one more digit
pub reads_digit : (text : List ℕ) (value count i : ℕ) → i < length text → count ≢ 3 → is_octal_digit (get_or text i 0) ≡ true
    → IsOctalFront text value count (3 - count) (drop i text)
    → IsOctalFront text (value * 8 + (get_or text i 0 - 48)) (count + 1) (3 - (count + 1)) (drop (i + 1) text)
reads_digit text value count i lt ne digit front =
    let room : 3 - count ≡ suc (3 - (count + 1)) = omega (arith, front.room) in
    let at_digit : IsOctalFront text value count (suc (3 - (count + 1))) (get_or text i 0 ∷ drop (suc i) text) =
    subst (λ (left : ℕ). IsOctalFront text value count left (get_or text i 0 ∷ drop (suc i) text)) room
    (subst (λ (rest : List ℕ). IsOctalFront text value count (3 - count) rest) (drop-cons text i 0 lt) front) in
    subst (λ (k : ℕ). IsOctalFront text (value * 8 + (get_or text i 0 - 48)) (count + 1) (3 - (count + 1)) (drop k text)) (sym (add-one i))
    (goes_on text value count (3 - (count + 1)) (get_or text i 0) (drop (suc i) text) digit at_digit)
