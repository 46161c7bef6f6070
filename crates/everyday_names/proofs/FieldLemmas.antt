-- The names field of a block and what follows it.
use Rattle.std.proofs.Common.{◌≡◌, ℕ, zero, suc, ◌<◌, Bool, true, false, ◌==◌, ◌||◌, ◌&&◌, List, [], ◌∷◌, ◌++◌, length, take, drop, get_or, cond}
use Rattle.std.proofs.Common.{refl, sym, ap, ◌∙◌, inl, inr, arith, Some, None}
use Rattle.std.proofs.lemmas.Bool.{cases_Bool, eqb-true, or_from, or_parts, true≢false, false_from_ne_true}
use Rattle.std.proofs.lemmas.List.{take-append-drop}
use Rattle.memchr.specs.Find.{IsFirstByte, is_byte}
use Rattle.everyday_names.specs.Fields.{after_field, field_of, has, is_long_field, long_field}

-- ---- whether a byte is in joined texts

pub has-append : (byte : ℕ) (s t : List ℕ) → has byte (s ++ t) ≡ (has byte s || has byte t)
has-append byte [] t = refl
has-append byte (x ∷ xs) t =
    elim (x == byte) as (λ b. (b || has byte (xs ++ t)) ≡ ((b || has byte xs) || has byte t)) [ true ↦ refl | false ↦ has-append byte xs t ]

pub has-none : (byte : ℕ) (s t : List ℕ) → has byte (s ++ t) ≡ false → (has byte s ≡ false) × (has byte t ≡ false)
has-none byte s t e = or_parts (has byte s) (has byte t) (sym (has-append byte s t) ∙ e)

pub has-joined_none : (byte : ℕ) (s t : List ℕ) → has byte s ≡ false → has byte t ≡ false → has byte (s ++ t) ≡ false
has-joined_none byte s t e f = has-append byte s t ∙ or_from (has byte s) (has byte t) e f

pub has-take : (byte n : ℕ) (s : List ℕ) → has byte s ≡ false → has byte (take n s) ≡ false
has-take byte n s e = (has-none byte (take n s) (drop n s) (ap (has byte) (take-append-drop n s) ∙ e)).0

-- ---- the field and the rest

pub field-no_comma : (s : List ℕ) → has 44 (field_of s) ≡ false
field-no_comma [] = refl
field-no_comma (x ∷ xs) = elim (cases_Bool (x == 44)) [ inl t ↦ rw t refl | inr f ↦ rw (f, f) (field-no_comma xs) ]

pub split-at_comma : (s : List ℕ) → has 44 s ≡ true → s ≡ field_of s ++ 44 ∷ after_field s
split-at_comma [] e = absurd (true≢false (sym e))
split-at_comma (x ∷ xs) e =
    elim (cases_Bool (x == 44)) [
      | inl t ↦ rw t (ap (λ (y : ℕ). y ∷ xs) (eqb-true x 44 t))
      | inr f ↦ rw f (ap (λ (t : List ℕ). x ∷ t) (split-at_comma xs (rw f at e)))
    ]

-- those of a field, a comma and a rest
pub field-of_joined : (f rest : List ℕ) → has 44 f ≡ false → field_of (f ++ 44 ∷ rest) ≡ f
field-of_joined [] rest e = refl
field-of_joined (x ∷ xs) rest e =
    let parts = or_parts (x == 44) (has 44 xs) e in
    rw (parts.0) (ap (λ (t : List ℕ). x ∷ t) (field-of_joined xs rest parts.1))

pub after-of_joined : (f rest : List ℕ) → has 44 f ≡ false → after_field (f ++ 44 ∷ rest) ≡ rest
after-of_joined [] rest e = refl
after-of_joined (x ∷ xs) rest e =
    let parts = or_parts (x == 44) (has 44 xs) e in
    rw (parts.0) (after-of_joined xs rest parts.1)

pub has-joined : (f rest : List ℕ) → has 44 (f ++ 44 ∷ rest) ≡ true
has-joined [] rest = refl
has-joined (x ∷ xs) rest = elim (x == 44) as (λ b. (b || has 44 (xs ++ 44 ∷ rest)) ≡ true) [ true ↦ refl | false ↦ has-joined xs rest ]

-- ---- where the first comma is

pub record IsCutAt (s : List ℕ) (n : ℕ) : Type 0 where
  pub here : has 44 s ≡ true
  pub field : field_of s ≡ take n s
  pub rest : after_field s ≡ drop (suc n) s

cut-at : (s : List ℕ) (n : ℕ) → n < length s → ((k : ℕ) → k < n → (get_or s k 0 == 44) ≡ true → ⊥) → (get_or s n 0 == 44) ≡ true → IsCutAt s n
cut-at [] n h none t = absurd (omega arith)
cut-at (x ∷ xs) zero h none t = record { here = rw t refl; field = rw t refl; rest = rw t refl }
cut-at (x ∷ xs) (suc n) h none t =
    let f : (x == 44) ≡ false = false_from_ne_true (x == 44) (none 0 (omega arith)) in
    let later = cut-at xs n (omega arith) (λ k i. none (suc k) (omega arith)) t in
    record {
      here = rw f (later.here);
      field = rw f (ap (λ (t : List ℕ). x ∷ t) later.field);
      rest = rw f (later.rest);
    }

pub cut-first : (s : List ℕ) (n : ℕ) → IsFirstByte (is_byte 44) s (Some n) → IsCutAt s n
cut-first s n first = cut-at s n first.0.high (λ k h. first.0.before k (omega arith) h) first.1

no-comma : (s : List ℕ) → ((k : ℕ) → k < length s → (get_or s k 0 == 44) ≡ true → ⊥) → has 44 s ≡ false
no-comma [] none = refl
no-comma (x ∷ xs) none =
    rw (false_from_ne_true (x == 44) (none 0 (omega arith))) (no-comma xs (λ k h. none (suc k) (omega arith)))

pub nowhere : (s : List ℕ) → IsFirstByte (is_byte 44) s None → has 44 s ≡ false
nowhere s none = no-comma s (λ k h. none k (omega arith) h)

-- the long names field of a text whose first comma is there
pub long-found : (text : List ℕ) (n : ℕ) (b : Bool) → IsCutAt text n → is_long_field (take n text) ≡ b → long_field text ≡ cond b (Some (take n text)) None
long-found text n b cut e =
    ap (λ (f : List ℕ). cond (has 44 text && is_long_field f) (Some f) None) cut.field
    ∙ ap (λ (h : Bool). cond (h && is_long_field (take n text)) (Some (take n text)) None) cut.here
    ∙ ap (λ (h : Bool). cond h (Some (take n text)) None) e
