-- Texts that are inside one item, by their bytes.
use Rattle.std.proofs.Common.{◌≡◌, ℕ, ◌<◌, Bool, true, false, not, ◌==◌, ◌||◌, ◌&&◌, List, [], ◌∷◌, ◌++◌, cond, refl, ap, sym, ◌∙◌, inl, inr}
use Rattle.std.specs.List.{list_all}
use mathlib.Core.Bool.{beq}
use Rattle.std.proofs.lemmas.List.Elements.{All-head, All-tail}
use Rattle.std.proofs.lemmas.List.Folds.{list_all-append}
use Rattle.std.proofs.lemmas.Bool.{cases_Bool, eqb-false, and_parts, and_from, or_parts, and_right, agree_below_at, not-true}
use Rattle.ti_source.specs.Folding.{PlacedByte}
use Rattle.ti_source.specs.Items.{bytes, takes, AreItems, item_ends, pair_of_bytes, single_byte}
use Rattle.ti_spelling.specs.Spelling.{AreBytes, byte_text, is_percent, is_empty, last_byte, written_from}

-- a byte that ends no item and takes nothing, whatever follows it
abbrev pub is_plain : ℕ → ℕ → Bool
is_plain before x = not (x == 44) && not (x == 92 || (x == 94 && not (before == 37)))

-- pairs, and bytes by themselves, whatever follows them
abbrev pub is_clear : ℕ → List ℕ → Bool
is_clear before [] = true
is_clear before (x ∷ []) = is_plain before x
is_clear before (x ∷ y ∷ w) = cond (takes before x y) (is_clear y w) (is_plain before x && is_clear x (y ∷ w))

-- pairs, and bytes by themselves if a comma follows them
abbrev pub is_whole : ℕ → List ℕ → Bool
is_whole before [] = true
is_whole before (x ∷ []) = not (x == 44) && not (x == 92)
is_whole before (x ∷ y ∷ w) = cond (takes before x y) (is_whole y w) (not (x == 44) && is_whole x (y ∷ w))

plain-takes : (before x y : ℕ) → is_plain before x ≡ true → takes before x y ≡ false
plain-takes before x y p =
    let parts = and_parts (not (x == 44)) (not (x == 92 || (x == 94 && not (before == 37)))) p in
    let none = or_parts (x == 92) (x == 94 && not (before == 37)) (not-true (x == 92 || (x == 94 && not (before == 37))) parts.1) in
    rw (none.0, none.1) refl

pub clear-cons : (before x : ℕ) (w : List ℕ) → is_plain before x ≡ true → is_clear x w ≡ true → is_clear before (x ∷ w) ≡ true
clear-cons before x [] p c = p
clear-cons before x (y ∷ w) p c = rw (plain-takes before x y p, p) c

pub clear-append : (before : ℕ) (v w : List ℕ) → is_clear before v ≡ true → is_clear (last_byte before v) w ≡ true → is_clear before (v ++ w) ≡ true
clear-append before [] w a b = b
clear-append before (x ∷ []) w a b = clear-cons before x w a b
clear-append before (x ∷ y ∷ v) w a b =
    elim (cases_Bool (takes before x y)) [
      | inl t ↦ rw t (clear-append y v w (rw t at a) b)
      | inr f ↦
          let parts = and_parts (is_plain before x) (is_clear x (y ∷ v)) (rw f at a) in
          rw (f, parts.0) (clear-append x (y ∷ v) w parts.1 b)
    ]

pub whole-cons : (before x : ℕ) (w : List ℕ) → is_plain before x ≡ true → is_whole x w ≡ true → is_whole before (x ∷ w) ≡ true
whole-cons before x [] p c =
    let parts = and_parts (not (x == 44)) (not (x == 92 || (x == 94 && not (before == 37)))) p in
    let none = or_parts (x == 92) (x == 94 && not (before == 37)) (not-true (x == 92 || (x == 94 && not (before == 37))) parts.1) in
    rw (parts.0, none.0) refl
whole-cons before x (y ∷ w) p c =
    let parts = and_parts (not (x == 44)) (not (x == 92 || (x == 94 && not (before == 37)))) p in
    rw (plain-takes before x y p, parts.0) c

pub clear-whole : (before : ℕ) (v w : List ℕ) → is_clear before v ≡ true → is_whole (last_byte before v) w ≡ true → is_whole before (v ++ w) ≡ true
clear-whole before [] w a b = b
clear-whole before (x ∷ []) w a b = whole-cons before x w a b
clear-whole before (x ∷ y ∷ v) w a b =
    elim (cases_Bool (takes before x y)) [
      | inl t ↦ rw t (clear-whole y v w (rw t at a) b)
      | inr f ↦
          let parts = and_parts (is_plain before x) (is_clear x (y ∷ v)) (rw f at a) in
          let plain = and_parts (not (x == 44)) (not (x == 92 || (x == 94 && not (before == 37)))) parts.0 in
          rw (f, plain.0) (clear-whole x (y ∷ v) w parts.1 b)
    ]

-- of the byte before a text it matters only whether it is a percent
pub clear-same : (a b : ℕ) (w : List ℕ) → is_percent a ≡ is_percent b → is_clear a w ≡ is_clear b w
clear-same a b [] e = refl
clear-same a b (x ∷ []) e = rw e refl
clear-same a b (x ∷ y ∷ w) e = rw e refl

-- a text without a comma and without a backslash is inside one item
abbrev pub has_no_cut : List ℕ → Bool
has_no_cut w = list_all (λ b. not (b == 44) && not (b == 92)) w

pub no_cut-whole : (before : ℕ) (w : List ℕ) → has_no_cut w ≡ true → is_whole before w ≡ true
no_cut-whole before [] h = refl
no_cut-whole before (x ∷ []) h = (and_parts (not (x == 44) && not (x == 92)) true h).0
no_cut-whole before (x ∷ y ∷ w) h =
    let parts = and_parts (not (x == 44) && not (x == 92)) (has_no_cut (y ∷ w)) h in
    let later = and_parts (not (y == 44) && not (y == 92)) (has_no_cut w) parts.1 in
    let here = and_parts (not (x == 44)) (not (x == 92)) parts.0 in
    elim (cases_Bool (takes before x y)) [
      | inl t ↦ rw t (no_cut-whole y w later.1)
      | inr f ↦ rw (f, here.0) (no_cut-whole x (y ∷ w) parts.1)
    ]

-- what is whole is one item before a comma
pub whole-cut : (before line : ℕ) (p rest : List PlacedByte) (items : List (List PlacedByte)) → is_whole before (bytes p) ≡ true → AreItems 44 rest items
    → AreItems before (p ++ (44, line) ∷ rest) (p ∷ items)
whole-cut before line [] rest items w are = item_ends before line rest items are
whole-cut before line (x ∷ []) rest items w are =
    let parts = and_parts (not (x.0 == 44)) (not (x.0 == 92)) w in
    let no_comma = eqb-false x.0 44 (not-true (x.0 == 44) parts.0) in
    let alone : not (takes before x.0 44) ≡ true = rw (not-true (x.0 == 92) parts.1, and_right (x.0 == 94 && not (before == 37)) false refl) refl in
    single_byte before x ((44, line) ∷ rest) [] items no_comma alone (item_ends x.0 line rest items are)
whole-cut before line (x ∷ y ∷ p) rest items w are =
    elim (cases_Bool (takes before x.0 y.0)) [
      | inl t ↦ pair_of_bytes before x y (p ++ (44, line) ∷ rest) p items t (whole-cut y.0 line p rest items (rw t at w) are)
      | inr f ↦
          let parts = and_parts (not (x.0 == 44)) (is_whole x.0 (bytes (y ∷ p))) (rw f at w) in
          let no_comma = eqb-false x.0 44 (not-true (x.0 == 44) parts.0) in
          single_byte before x (y ∷ p ++ (44, line) ∷ rest) (y ∷ p) items no_comma (rw f refl) (whole-cut x.0 line (y ∷ p) rest items parts.1 are)
    ]

-- what is written of a value

text-after : (after : ℕ) (t : List ℕ) → is_empty t ≡ false → last_byte after t ≡ last_byte 0 t
text-after after [] h = cc
text-after after (x ∷ xs) h = refl

-- the text of one byte is clear, has no newline, has some byte, and ends in a percent exactly if
-- the byte is one
abbrev is_good : Bool → Bool → ℕ → Bool
is_good percent edge b =
    is_clear (cond percent 37 0) (byte_text percent edge b) && list_all (λ x. not (x == 10)) (byte_text percent edge b)
    && not (is_empty (byte_text percent edge b)) && beq (last_byte 0 (byte_text percent edge b) == 37) (b == 37)

texts-good : (percent edge : Bool) (b : ℕ) → b < 256 → is_good percent edge b ≡ true
unfolding byte_text
texts-good true true b lt = agree_below_at (is_good true true) (λ b. true) 256 b refl lt
texts-good true false b lt = agree_below_at (is_good true false) (λ b. true) 256 b refl lt
texts-good false true b lt = agree_below_at (is_good false true) (λ b. true) 256 b refl lt
texts-good false false b lt = agree_below_at (is_good false false) (λ b. true) 256 b refl lt

-- no byte is a newline
abbrev pub is_inline : List ℕ → Bool
is_inline w = list_all (λ b. not (b == 10)) w

ends_alike : (percent : Bool) (b : ℕ) → beq percent (b == 37) ≡ true → percent ≡ (b == 37)
ends_alike true b h = elim (cases_Bool (b == 37)) [ inl t ↦ sym t | inr f ↦ cc ]
ends_alike false b h = elim (cases_Bool (b == 37)) [ inl t ↦ cc | inr f ↦ sym f ]

-- what is known of the text of one byte
pub record IsGoodText (percent : Bool) (b : ℕ) (t : List ℕ) : Type 0 where
  pub clear : is_clear (cond percent 37 0) t ≡ true
  pub inline : is_inline t ≡ true
  pub some : is_empty t ≡ false
  pub ends : is_percent (last_byte 0 t) ≡ is_percent b

good_text : (percent edge : Bool) (b : ℕ) → b < 256 → IsGoodText percent b (byte_text percent edge b)
good_text percent edge b lt =
    let t = byte_text percent edge b in
    let last = and_parts (is_clear (cond percent 37 0) t && is_inline t && not (is_empty t)) (beq (last_byte 0 t == 37) (b == 37))
    (texts-good percent edge b lt) in
    let middle = and_parts (is_clear (cond percent 37 0) t && is_inline t) (not (is_empty t)) last.0 in
    let first = and_parts (is_clear (cond percent 37 0) t) (is_inline t) middle.0 in
    record { clear = first.0; inline = first.1; some = not-true (is_empty t) middle.1; ends = ends_alike (last_byte 0 t == 37) b last.1 }

percent-at : (after : ℕ) → is_percent (cond (is_percent after) 37 0) ≡ is_percent after
percent-at after = elim (cases_Bool (is_percent after)) [ inl t ↦ rw t refl | inr f ↦ rw f refl ]

pub written_from-clear : (first : Bool) (before after : ℕ) (v : List ℕ) → is_percent before ≡ is_percent after → AreBytes v
    → is_clear after (written_from first before v) ≡ true
written_from-clear first before after [] e h = refl
written_from-clear first before after (x ∷ xs) e h =
    let t = byte_text (is_percent before) (first || is_empty xs) x in
    let good = good_text (is_percent before) (first || is_empty xs) x (All-head (λ byte. byte < 256) x xs h) in
    let here : is_clear after t ≡ true = clear-same after (cond (is_percent before) 37 0) t (sym (percent-at before ∙ e)) ∙ good.clear in
    let ends : is_percent x ≡ is_percent (last_byte after t) = sym (ap is_percent (text-after after t good.some) ∙ good.ends) in
    clear-append after t (written_from false x xs) here (written_from-clear false x (last_byte after t) xs ends (All-tail (λ byte. byte < 256) x xs h))

pub written_from-inline : (first : Bool) (before : ℕ) (v : List ℕ) → AreBytes v → is_inline (written_from first before v) ≡ true
written_from-inline first before [] h = refl
written_from-inline first before (x ∷ xs) h =
    let t = byte_text (is_percent before) (first || is_empty xs) x in
    let good = good_text (is_percent before) (first || is_empty xs) x (All-head (λ byte. byte < 256) x xs h) in
    list_all-append (λ b. not (b == 10)) t (written_from false x xs)
    ∙ and_from (is_inline t) (is_inline (written_from false x xs)) good.inline (written_from-inline false x xs (All-tail (λ byte. byte < 256) x xs h))
