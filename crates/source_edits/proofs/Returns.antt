-- A string with a CR after it that stands for itself, and a list without its last element.
use Rattle.std.proofs.Common.{◌≡◌, ℕ, zero, suc, ◌-◌, ◌<◌, ◌||◌, Bool, true, false, All, List, [], ◌∷◌, ◌++◌, append_assoc, cond, length, take, refl, sym}
use Rattle.std.proofs.Common.{ap, subst, ◌∙◌, arith}
use Rattle.std.proofs.lemmas.Bool.{and_parts, eqb-true, ltb-true}
use Rattle.std.proofs.lemmas.List.Elements.{All-cons, All-head, All-nil, All-tail}
use Rattle.ti_text.specs.Texts.{last_byte}
use Rattle.ti_source.proofs.TextLemmas.{last_byte-push}
use Rattle.ti_spelling.specs.Spelling.{IsEscape, IsPiece, Spells, SpellsAfter, escape_missing, escape_named, escape_octal, escape_unknown, is_octal_digit}
use Rattle.ti_spelling.specs.Spelling.{octal_digits, octal_digits_up_to}
use Rattle.ti_spelling.specs.Spelling.{piece_caret, piece_control, piece_escape, piece_plain, spells_nothing, spells_piece}
use Rattle.source_edits.specs.Edits.{keeps_return}
use Rattle.source_edits.specs.Pieces.{without_last}

-- ---- a text after the text of which no octal digit is taken

octal_pushed : (n : ℕ) (xs : List ℕ) → octal_digits_up_to n (xs ++ 13 ∷ []) ≡ octal_digits_up_to n xs
octal_pushed zero xs = refl
octal_pushed (suc n) [] = refl
octal_pushed (suc n) (x ∷ xs) = ap (λ (ds : List ℕ). cond (is_octal_digit x) (x ∷ ds) []) (octal_pushed n xs)

no_odd : (b : Bool) → b ≡ true → b ≡ false → ⊥
no_odd true e f = cc
no_odd false e f = cc

escape_pushed : {text rest : List ℕ} {byte : ℕ} {odd : Bool} → IsEscape text rest byte odd → odd ≡ false → IsEscape text (rest ++ 13 ∷ []) byte false
escape_pushed (escape_named e) plain = escape_named e
escape_pushed (escape_octal {digit = d} {digits = ds} {rest = rest} e small) plain =
    let joined : d ∷ (ds ++ (rest ++ 13 ∷ [])) ≡ (d ∷ (ds ++ rest)) ++ 13 ∷ [] = ap (λ (t : List ℕ). d ∷ t) (sym (append_assoc ds rest (13 ∷ []))) in
    escape_octal (ap octal_digits joined ∙ octal_pushed 3 (d ∷ (ds ++ rest)) ∙ e) small
escape_pushed (escape_unknown none off some) plain = absurd (no_odd true refl plain)
escape_pushed escape_missing plain = absurd (no_odd true refl plain)

piece_pushed : {before : ℕ} {text rest : List ℕ} {byte : ℕ} {odd : Bool} → IsPiece before text rest byte odd → odd ≡ false
    → IsPiece before text (rest ++ 13 ∷ []) byte false
piece_pushed (piece_escape e) plain = piece_escape (escape_pushed e plain)
piece_pushed (piece_control other c) plain = piece_control other c
piece_pushed (piece_caret percent) plain = piece_caret percent
piece_pushed (piece_plain a b c) plain = piece_plain a b c

first_plain : (a b : Bool) → (a || b) ≡ false → a ≡ false
first_plain false b e = refl
first_plain true b e = absurd cc

second_plain : (a b : Bool) → (a || b) ≡ false → b ≡ false
second_plain false b e = e
second_plain true b e = absurd cc

one_return : (before : ℕ) → SpellsAfter before (13 ∷ []) (13 ∷ []) false
one_return before = spells_piece {text = 13 ∷ []} {odd = false} {odd_later = false} (piece_plain (λ e. cc) (λ e. cc) (λ e. cc)) spells_nothing

after_pushed : {before : ℕ} {raw value : List ℕ} {odd : Bool} → SpellsAfter before raw value odd → odd ≡ false
    → SpellsAfter before (raw ++ 13 ∷ []) (value ++ 13 ∷ []) false
after_pushed (spells_nothing {before = before}) plain = one_return before
after_pushed (spells_piece {before = before} {byte = byte} {text = text} {rest = rest} {value = value} {odd = odd} {odd_later = later_odd} piece later) plain =
    let now = spells_piece (piece_pushed piece (first_plain odd later_odd plain)) (after_pushed later (second_plain odd later_odd plain)) in
    subst (λ (raw : List ℕ). SpellsAfter before raw (byte ∷ (value ++ 13 ∷ [])) false) (sym (append_assoc text rest (13 ∷ []))) now

-- a CR after a text that spells a string is a CR of the string
pub spells_pushed : (raw value : List ℕ) → Spells raw value false → Spells (raw ++ 13 ∷ []) (value ++ 13 ∷ []) false
spells_pushed raw value spells = after_pushed spells refl

-- ---- the last element

pub cut_last : (X : Type 0) (x : X) (xs : List X) → (last : X) × (x ∷ xs ≡ without_last (x ∷ xs) ++ last ∷ [])
cut_last X x [] = (x, refl)
cut_last X x (y ∷ ys) =
    let later = cut_last X y ys in
    let size : length (x ∷ y ∷ ys) - 1 ≡ suc (length (y ∷ ys) - 1) = omega arith in
    (later.0, ap (λ (t : List X). x ∷ t) later.1 ∙ ap (λ (n : ℕ). take n (x ∷ y ∷ ys) ++ later.0 ∷ []) (sym size))

front_holds : (P : ℕ → Type 0) (front back : List ℕ) → All P (front ++ back) → All P front
front_holds P [] back all = All-nil P
front_holds P (x ∷ xs) back all = All-cons P x xs (All-head P x (xs ++ back) all) (front_holds P xs back (All-tail P x (xs ++ back) all))

-- a value that ends with a CR that stays
pub record EndsWithReturn (value : List ℕ) : Type 0 where
  pub first : ℕ
  pub rest : List ℕ
  pub front : without_last value ≡ first ∷ rest
  pub whole : value ≡ without_last value ++ 13 ∷ []

returns_at : (value : List ℕ) → 1 < length value → last_byte 0 value ≡ 13 → EndsWithReturn value
returns_at [] some is = absurd (omega (arith, some))
returns_at (x ∷ []) some is = absurd (omega (arith, some))
returns_at (x ∷ y ∷ ys) some is =
    let cut = cut_last ℕ x (y ∷ ys) in
    let size : length (x ∷ y ∷ ys) - 1 ≡ suc (length (y ∷ ys) - 1) = omega arith in
    let last : cut.0 ≡ 13 = sym (ap (last_byte 0) cut.1 ∙ last_byte-push 0 (without_last (x ∷ y ∷ ys)) cut.0) ∙ is in
    record {
      first = x;
      rest = without_last (y ∷ ys);
      front = ap (λ (n : ℕ). take n (x ∷ y ∷ ys)) size;
      whole = cut.1 ∙ ap (λ (b : ℕ). without_last (x ∷ y ∷ ys) ++ b ∷ []) last;
    }

pub value_returns : (raw value : List ℕ) → keeps_return raw value ≡ true → EndsWithReturn value
value_returns raw value keeps =
    let second = (and_parts _ _ keeps).1 in
    let parts = and_parts _ _ second in
    returns_at value (ltb-true 1 (length value) parts.0) (eqb-true (last_byte 0 value) 13 parts.1)

pub raw_returns : (raw value : List ℕ) → keeps_return raw value ≡ true → last_byte 0 raw ≡ 13
raw_returns raw value keeps = eqb-true (last_byte 0 raw) 13 (and_parts _ _ keeps).0

pub front_of_value : (P : ℕ → Type 0) (value : List ℕ) → EndsWithReturn value → All P value → All P (without_last value)
front_of_value P value r all = front_holds P (without_last value) (13 ∷ []) (subst (All P) r.whole all)
