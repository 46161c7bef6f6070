-- What is written with characters stays so.
use Rattle.std.proofs.Common.{◌≡◌, ℕ, zero, suc, ◌+◌, ◌*◌, ◌-◌, ◌≤◌, ◌==◌, ◌&&◌, Bool, true, false, cond, not, nat_le, nat_lt, List, [], ◌∷◌, ◌++◌, take, Option, None, Some, refl, sym, ap, ◌∙◌, arith}
use Rattle.std.specs.Prelude.{slice_index}
use Rattle.std.proofs.lemmas.Bool.{and_parts, eqb-true, leb-true, ne_eqb, not-true}
use Rattle.std.proofs.lemmas.Option.{none-some, same_Some}
use Rattle.ti_text.specs.Digits.{is_decimal_digit}
use Rattle.everyday_constants.specs.Constants.{begins_number, constant_at, digit, if_character, is_character, kept_size, size_by, text_by, written_from}
use Rattle.everyday_constants.specs.Laws.{CharactersStay}
use Rattle.everyday_constants.specs.declared.constants.Constant.{Constant}

-- ---- the first byte

-- a constant begins with a percent sign
no-percent : (y : ℕ) (zs : List ℕ) → (y == 37) ≡ false → constant_at (y ∷ zs) ≡ None
no-percent y zs e = rw e refl

percent-first : (y : ℕ) (zs : List ℕ) (c : Constant) → constant_at (y ∷ zs) ≡ Some c → y ≡ 37
percent-first y zs c found = by_test (y == 37) refl
  where
    by_test : (b : Bool) → (y == 37) ≡ b → y ≡ 37
    by_test true e = eqb-true y 37 e
    by_test false e = absurd (none-some c (sym (no-percent y zs e) ∙ found))

-- and a brace
no-brace : (y : ℕ) (zs : List ℕ) → (y == 123) ≡ false → constant_at (37 ∷ y ∷ zs) ≡ None
no-brace y zs e = rw e refl

plain-size : (y : ℕ) (zs : List ℕ) → (y == 92) ≡ false → (y == 37) ≡ false → kept_size (y ∷ zs) ≡ 1
plain-size y zs e f = rw (e, f) refl

-- a piece that is kept
kept : (k y : ℕ) (zs : List ℕ) → constant_at (y ∷ zs) ≡ None → kept_size (y ∷ zs) ≡ k
    → written_from 0 (y ∷ zs) ≡ take k (y ∷ zs) ++ written_from (k - 1) zs
kept k y zs none size =
    ap (λ (o : Option Constant). text_by o (y ∷ zs) ++ written_from (size_by o (y ∷ zs) - 1) zs) none
    ∙ ap (λ (n : ℕ). take n (y ∷ zs) ++ written_from (n - 1) zs) size

alone : (y : ℕ) (zs : List ℕ) → constant_at (y ∷ zs) ≡ None → kept_size (y ∷ zs) ≡ 1 → written_from 0 (y ∷ zs) ≡ y ∷ written_from 0 zs
alone y zs none size = kept 1 y zs none size

plain : (y : ℕ) (zs : List ℕ) → (y == 92) ≡ false → (y == 37) ≡ false → written_from 0 (y ∷ zs) ≡ y ∷ written_from 0 zs
plain y zs e f = alone y zs (no-percent y zs f) (plain-size y zs e f)

-- at least one byte is kept
one-of : (a b c : Bool) → (j : ℕ) × (cond a (cond b 3 2) (cond c 2 1) ≡ suc j)
one-of true true c = (2, refl)
one-of true false c = (1, refl)
one-of false b true = (1, refl)
one-of false b false = (0, refl)

some-kept : (y : ℕ) (zs : List ℕ) → (j : ℕ) × (kept_size (y ∷ zs) ≡ suc j)
some-kept y zs = one-of (y == 92) (slice_index (y ∷ zs) 1 == 37) (y == 37 && slice_index (y ∷ zs) 1 == 37)

-- the first byte stays
first-stays : (y : ℕ) (ys : List ℕ) → (zs : List ℕ) × (written_from 0 (y ∷ ys) ≡ y ∷ zs)
first-stays y ys = by_found (constant_at (y ∷ ys)) refl
  where
    by_found : (found : Option Constant) → constant_at (y ∷ ys) ≡ found → (zs : List ℕ) × (written_from 0 (y ∷ ys) ≡ y ∷ zs)
    by_found (Some c) e =
        let zs : List ℕ = 39 ∷ c.value ∷ 39 ∷ written_from (c.size - 1) ys in
        let whole : written_from 0 (y ∷ ys) ≡ 37 ∷ zs =
        ap (λ (o : Option Constant). text_by o (y ∷ ys) ++ written_from (size_by o (y ∷ ys) - 1) ys) e in
        (zs, whole ∙ ap (λ (x : ℕ). x ∷ zs) (sym (percent-first y ys c e)))
    by_found None e =
        let some = some-kept y ys in
        (take some.0 ys ++ written_from (suc some.0 - 1) ys, kept (suc some.0) y ys e some.1)

-- ---- a number in braces

-- a digit is neither a backslash nor a percent sign
record IsPlain (y : ℕ) : Type 0 where
  no_slash : (y == 92) ≡ false
  no_percent : (y == 37) ≡ false

digit-plain : (y : ℕ) → is_decimal_digit y ≡ true → IsPlain y
digit-plain y e =
    let parts = and_parts (nat_le 48 y) (nat_le y 57) e in
    let low = leb-true 48 y parts.0 in
    let high = leb-true y 57 parts.1 in
    record {
      no_slash = ne_eqb y 92 (λ is. absurd (omega (arith, is, high)));
      no_percent = ne_eqb y 37 (λ is. absurd (omega (arith, is, low)));
    }

digit-stays : (y : ℕ) (zs : List ℕ) → is_decimal_digit y ≡ true → written_from 0 (y ∷ zs) ≡ y ∷ written_from 0 zs
digit-stays y zs e = let is = digit-plain y e in plain y zs is.no_slash is.no_percent

abbrev braced : List ℕ → Option Constant
braced ys = constant_at (37 ∷ 123 ∷ ys)

no-first : (a : ℕ) (zs : List ℕ) → is_decimal_digit a ≡ false → braced (a ∷ zs) ≡ None
no-first a zs e = rw e refl

no-second : (a b : ℕ) (zs : List ℕ) → is_decimal_digit a ≡ true → is_decimal_digit b ≡ false → braced (a ∷ b ∷ zs) ≡ None
no-second a b zs e f = rw (e, f) refl

-- after two bytes that begin a number
abbrev after_two : ℕ → ℕ → List ℕ → Option Constant
after_two a b ys =
    cond (slice_index ys 0 == 125) (if_character (10 * (a - 48) + (b - 48)) 5)
    (cond (is_decimal_digit (slice_index ys 0) && slice_index ys 1 == 125) (if_character (10 * (10 * (a - 48) + (b - 48)) + (slice_index ys 0 - 48)) 6) None)

from-two : (a b : ℕ) (xs ys : List ℕ) → after_two a b xs ≡ after_two a b ys → braced (a ∷ b ∷ xs) ≡ braced (a ∷ b ∷ ys)
from-two a b xs ys same = ap (λ (o : Option Constant). cond (not (begins_number (37 ∷ 123 ∷ a ∷ b ∷ []))) None o) same

-- the third byte is a brace, or no digit
by-brace : (a b c : ℕ) (zs : List ℕ) → (c == 125) ≡ true → after_two a b (c ∷ zs) ≡ if_character (10 * (a - 48) + (b - 48)) 5
by-brace a b c zs e = rw e refl

no-third : (a b c : ℕ) (zs : List ℕ) → (c == 125) ≡ false → is_decimal_digit c ≡ false → after_two a b (c ∷ zs) ≡ None
no-third a b c zs e f = rw (e, f) refl

third : (a b : ℕ) (ys : List ℕ) → after_two a b (written_from 0 ys) ≡ after_two a b ys
third a b [] = refl
third a b (c ∷ cs) = by_brace (c == 125) refl
  where
    head : (zs : List ℕ) × (written_from 0 (c ∷ cs) ≡ c ∷ zs)
    head = first-stays c cs

    fourth : (ds : List ℕ) → after_two a b (c ∷ written_from 0 ds) ≡ after_two a b (c ∷ ds)
    fourth [] = refl
    fourth (d ∷ ds) = let there = first-stays d ds in ap (λ (ws : List ℕ). after_two a b (c ∷ ws)) there.1

    by_digit : (c == 125) ≡ false → (t : Bool) → is_decimal_digit c ≡ t → after_two a b (written_from 0 (c ∷ cs)) ≡ after_two a b (c ∷ cs)
    by_digit brace false e =
        ap (λ (ws : List ℕ). after_two a b ws) head.1 ∙ no-third a b c head.0 brace e ∙ sym (no-third a b c cs brace e)
    by_digit brace true e = ap (λ (ws : List ℕ). after_two a b ws) (digit-stays c cs e) ∙ fourth cs

    by_brace : (t : Bool) → (c == 125) ≡ t → after_two a b (written_from 0 (c ∷ cs)) ≡ after_two a b (c ∷ cs)
    by_brace true e = ap (λ (ws : List ℕ). after_two a b ws) head.1 ∙ by-brace a b c head.0 e ∙ sym (by-brace a b c cs e)
    by_brace false e = by_digit e (is_decimal_digit c) refl

second : (a : ℕ) (ys : List ℕ) → is_decimal_digit a ≡ true → braced (a ∷ written_from 0 ys) ≡ braced (a ∷ ys)
second a [] first = refl
second a (b ∷ bs) first = by_digit (is_decimal_digit b) refl
  where
    by_digit : (t : Bool) → is_decimal_digit b ≡ t → braced (a ∷ written_from 0 (b ∷ bs)) ≡ braced (a ∷ b ∷ bs)
    by_digit false e =
        let head = first-stays b bs in
        ap (λ (ws : List ℕ). braced (a ∷ ws)) head.1 ∙ no-second a b head.0 first e ∙ sym (no-second a b bs first e)
    by_digit true e =
        ap (λ (ws : List ℕ). braced (a ∷ ws)) (digit-stays b bs e) ∙ from-two a b (written_from 0 bs) bs (third a b bs)

-- a number in braces is one before and after
same-braced : (ys : List ℕ) → braced (written_from 0 ys) ≡ braced ys
same-braced [] = refl
same-braced (a ∷ xs) = by_digit (is_decimal_digit a) refl
  where
    by_digit : (t : Bool) → is_decimal_digit a ≡ t → braced (written_from 0 (a ∷ xs)) ≡ braced (a ∷ xs)
    by_digit false e =
        let head = first-stays a xs in
        ap (λ (ws : List ℕ). braced ws) head.1 ∙ no-first a head.0 e ∙ sym (no-first a xs e)
    by_digit true e = ap (λ (ws : List ℕ). braced ws) (digit-stays a xs e) ∙ second a xs e

-- ---- a character in quotes

-- a constant is no backslash
no-slash : (n size : ℕ) (c : Constant) → if_character n size ≡ Some c → (c.value == 92) ≡ false
no-slash n size c found = by_test (is_character n) refl found
  where
    by_test : (b : Bool) → is_character n ≡ b → cond b (Some (record { value = n; size = size })) None ≡ Some c → (c.value == 92) ≡ false
    by_test false e f = absurd (none-some c f)
    by_test true e f =
        let made : Constant = record { value = n; size = size } in
        let more = and_parts (nat_le 32 n) (nat_lt n 127 && not (n == 92)) e in
        let last = and_parts (nat_lt n 127) (not (n == 92)) more.1 in
        ap (λ (k : Constant). k.value == 92) (sym (same_Some made c f)) ∙ not-true (n == 92) last.1

one-found : (a b d : Bool) (one two : Option Constant) (c : Constant) (P : Type 0) → (one ≡ Some c → P) → (two ≡ Some c → P)
    → cond a None (cond b one (cond d two None)) ≡ Some c → P
one-found true b d one two c P f g e = absurd (none-some c e)
one-found false true d one two c P f g e = f e
one-found false false true one two c P f g e = g e
one-found false false false one two c P f g e = absurd (none-some c e)

constant-plain : (text : List ℕ) (c : Constant) → constant_at text ≡ Some c → (c.value == 92) ≡ false
constant-plain text c e =
    one-found (not (begins_number text)) (slice_index text 4 == 125) (is_decimal_digit (slice_index text 4) && slice_index text 5 == 125)
    (if_character (10 * digit text 2 + digit text 3) 5) (if_character (10 * (10 * digit text 2 + digit text 3) + digit text 4) 6) c ((c.value == 92) ≡ false)
    (no-slash (10 * digit text 2 + digit text 3) 5 c) (no-slash (10 * (10 * digit text 2 + digit text 3) + digit text 4) 6 c) e

-- whatever the character is, it is a piece by itself
no-constant : (v : ℕ) (w : List ℕ) → constant_at (v ∷ 39 ∷ w) ≡ None
no-constant v w = by_test (v == 37) refl
  where
    by_test : (b : Bool) → (v == 37) ≡ b → constant_at (v ∷ 39 ∷ w) ≡ None
    by_test true e = rw e refl
    by_test false e = no-percent v (39 ∷ w) e

one-kept : (v : ℕ) (w : List ℕ) → (v == 92) ≡ false → kept_size (v ∷ 39 ∷ w) ≡ 1
one-kept v w e = by_test (v == 37) refl
  where
    by_test : (b : Bool) → (v == 37) ≡ b → kept_size (v ∷ 39 ∷ w) ≡ 1
    by_test true f = rw (e, f) refl
    by_test false f = plain-size v (39 ∷ w) e f

quoted : (v : ℕ) (w : List ℕ) → (v == 92) ≡ false → written_from 0 (37 ∷ 39 ∷ v ∷ 39 ∷ w) ≡ 37 ∷ 39 ∷ v ∷ 39 ∷ written_from 0 w
quoted v w e = ap (λ (t : List ℕ). 37 ∷ 39 ∷ t) (alone v (39 ∷ w) (no-constant v w) (one-kept v w e))

-- ---- a string

-- what follows a backslash
after-slash : (xs : List ℕ) → ((left : ℕ) → written_from 0 (written_from left xs) ≡ written_from left xs)
    → written_from 0 (written_from 0 (92 ∷ xs)) ≡ written_from 0 (92 ∷ xs)
after-slash [] ih = refl
after-slash (y ∷ []) ih = by_percent (y == 37) refl
  where
    two : (b : Bool) → (y == 37) ≡ b → written_from 0 (92 ∷ y ∷ []) ≡ 92 ∷ y ∷ []
    two true e = kept 3 92 (y ∷ []) refl (rw e refl)
    two false e = kept 2 92 (y ∷ []) refl (rw e refl)

    by_percent : (b : Bool) → (y == 37) ≡ b → written_from 0 (written_from 0 (92 ∷ y ∷ [])) ≡ written_from 0 (92 ∷ y ∷ [])
    by_percent b e = ap (λ (t : List ℕ). written_from 0 t) (two b e)
after-slash (y ∷ z ∷ zs) ih = by_percent (y == 37) refl
  where
    three : (w : List ℕ) → (y == 37) ≡ true → written_from 0 (92 ∷ y ∷ z ∷ w) ≡ 92 ∷ y ∷ z ∷ written_from 0 w
    three w e = kept 3 92 (y ∷ z ∷ w) refl (rw e refl)

    two : (w : List ℕ) → (y == 37) ≡ false → written_from 0 (92 ∷ y ∷ w) ≡ 92 ∷ y ∷ written_from 0 w
    two w e = kept 2 92 (y ∷ w) refl (rw e refl)

    by_percent : (b : Bool) → (y == 37) ≡ b → written_from 0 (written_from 0 (92 ∷ y ∷ z ∷ zs)) ≡ written_from 0 (92 ∷ y ∷ z ∷ zs)
    by_percent true e =
        ap (λ (t : List ℕ). written_from 0 t) (three zs e) ∙ three (written_from 0 zs) e ∙ ap (λ (t : List ℕ). 92 ∷ y ∷ z ∷ t) (ih 2) ∙ sym (three zs e)
    by_percent false e =
        ap (λ (t : List ℕ). written_from 0 t) (two (z ∷ zs) e) ∙ two (written_from 0 (z ∷ zs)) e ∙ ap (λ (t : List ℕ). 92 ∷ y ∷ t) (ih 1) ∙ sym (two (z ∷ zs) e)

-- what follows a percent sign that begins no constant
after-percent : (xs : List ℕ) → constant_at (37 ∷ xs) ≡ None → ((left : ℕ) → written_from 0 (written_from left xs) ≡ written_from left xs)
    → written_from 0 (written_from 0 (37 ∷ xs)) ≡ written_from 0 (37 ∷ xs)
after-percent [] none ih = refl
after-percent (y ∷ ys) none ih = by_percent (y == 37) refl
  where
    two : (w : List ℕ) → (y == 37) ≡ true → constant_at (37 ∷ y ∷ w) ≡ None → written_from 0 (37 ∷ y ∷ w) ≡ 37 ∷ y ∷ written_from 0 w
    two w e f = kept 2 37 (y ∷ w) f (rw e refl)

    one : (w : List ℕ) → (y == 37) ≡ false → constant_at (37 ∷ y ∷ w) ≡ None → written_from 0 (37 ∷ y ∷ w) ≡ 37 ∷ written_from 0 (y ∷ w)
    one w e f = kept 1 37 (y ∷ w) f (rw e refl)

    still-none : (w : List ℕ) → (y == 37) ≡ true → constant_at (37 ∷ y ∷ w) ≡ None
    still-none w e = no-brace y w (ne_eqb y 123 (λ is. let at = eqb-true y 37 e in absurd (omega (arith, is, at))))

    -- of the same bytes as far as it looks
    same-none : (t : Bool) → (y == 123) ≡ t → constant_at (37 ∷ written_from 0 (y ∷ ys)) ≡ None
    same-none false e =
        let head = first-stays y ys in
        ap (λ (w : List ℕ). constant_at (37 ∷ w)) head.1 ∙ no-brace y head.0 e
    same-none true e =
        let is = eqb-true y 123 e in
        ap (λ (n : ℕ). constant_at (37 ∷ written_from 0 (n ∷ ys))) is ∙ same-braced ys ∙ ap (λ (n : ℕ). constant_at (37 ∷ n ∷ ys)) (sym is) ∙ none

    by_percent : (b : Bool) → (y == 37) ≡ b → written_from 0 (written_from 0 (37 ∷ y ∷ ys)) ≡ written_from 0 (37 ∷ y ∷ ys)
    by_percent true e =
        ap (λ (t : List ℕ). written_from 0 t) (two ys e none) ∙ two (written_from 0 ys) e (still-none (written_from 0 ys) e)
        ∙ ap (λ (t : List ℕ). 37 ∷ y ∷ t) (ih 1) ∙ sym (two ys e none)
    by_percent false e =
        let head = first-stays y ys in
        let here : constant_at (37 ∷ y ∷ head.0) ≡ None =
        ap (λ (w : List ℕ). constant_at (37 ∷ w)) (sym head.1) ∙ same-none (y == 123) refl in
        ap (λ (t : List ℕ). written_from 0 t) (one ys e none ∙ ap (λ (w : List ℕ). 37 ∷ w) head.1) ∙ one head.0 e here
        ∙ ap (λ (w : List ℕ). 37 ∷ written_from 0 w) (sym head.1) ∙ ap (λ (t : List ℕ). 37 ∷ t) (ih 0) ∙ sym (one ys e none)

step : (x : ℕ) (xs : List ℕ) → ((left : ℕ) → written_from 0 (written_from left xs) ≡ written_from left xs)
    → written_from 0 (written_from 0 (x ∷ xs)) ≡ written_from 0 (x ∷ xs)
step x xs ih = by_found (constant_at (x ∷ xs)) refl
  where
    by_first : constant_at (x ∷ xs) ≡ None → (a b : Bool) → (x == 92) ≡ a → (x == 37) ≡ b → written_from 0 (written_from 0 (x ∷ xs)) ≡ written_from 0 (x ∷ xs)
    by_first none true b e f =
        let is = eqb-true x 92 e in
        ap (λ (y : ℕ). written_from 0 (written_from 0 (y ∷ xs))) is ∙ after-slash xs ih ∙ ap (λ (y : ℕ). written_from 0 (y ∷ xs)) (sym is)
    by_first none false true e f =
        let is = eqb-true x 37 f in
        ap (λ (y : ℕ). written_from 0 (written_from 0 (y ∷ xs))) is
        ∙ after-percent xs (ap (λ (y : ℕ). constant_at (y ∷ xs)) (sym is) ∙ none) ih ∙ ap (λ (y : ℕ). written_from 0 (y ∷ xs)) (sym is)
    by_first none false false e f =
        ap (λ (t : List ℕ). written_from 0 t) (plain x xs e f) ∙ plain x (written_from 0 xs) e f ∙ ap (λ (t : List ℕ). x ∷ t) (ih 0) ∙ sym (plain x xs e f)

    by_found : (found : Option Constant) → constant_at (x ∷ xs) ≡ found → written_from 0 (written_from 0 (x ∷ xs)) ≡ written_from 0 (x ∷ xs)
    by_found None e = by_first e (x == 92) (x == 37) refl refl
    by_found (Some c) e =
        let whole : written_from 0 (x ∷ xs) ≡ 37 ∷ 39 ∷ c.value ∷ 39 ∷ written_from (c.size - 1) xs =
        ap (λ (o : Option Constant). text_by o (x ∷ xs) ++ written_from (size_by o (x ∷ xs) - 1) xs) e in
        ap (λ (t : List ℕ). written_from 0 t) whole ∙ quoted c.value (written_from (c.size - 1) xs) (constant-plain (x ∷ xs) c e)
        ∙ ap (λ (t : List ℕ). 37 ∷ 39 ∷ c.value ∷ 39 ∷ t) (ih (c.size - 1)) ∙ sym whole

stays : (text : List ℕ) (left : ℕ) → written_from 0 (written_from left text) ≡ written_from left text
stays [] left = refl
stays (x ∷ xs) (suc left) = stays xs left
stays (x ∷ xs) zero = step x xs (stays xs)

pub stay : CharactersStay
stay text = stays text 0
