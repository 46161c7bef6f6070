-- What an item says is read from the text that is written of it.
use Rattle.std.proofs.Common.{◌≡◌, ◌≢◌, ℕ, ◌≤◌, Bool, true, false, not, ◌==◌, ◌||◌, ◌&&◌, List, [], ◌∷◌, ◌++◌, Some, refl, ap, ◌∙◌, subst, arith}
use Rattle.std.specs.List.{list_all, All}
use Rattle.std.specs.Prelude.{codes}
use Rattle.std.specs.Fmt.{decimal}
use Rattle.std.proofs.lemmas.Bool.{agree_below, and_parts, or_parts, and_from, not-true, ne_eqb, eqb-false, not_from_false}
use Rattle.std.proofs.lemmas.List.{append-nil}
use Rattle.std.proofs.lemmas.List.Elements.{All-head, All-tail}
use Rattle.std.proofs.lemmas.List.Folds.{list_all-append}
use Rattle.ti_caps.specs.Tables.{Capability, IsCapability, name_of, EveryNameIsFound}
use Rattle.ti_caps.specs.declared.capability.Kind.TheVariants.{Flag, Number, Text}
use Rattle.ti_text.specs.WhiteSpace.{is_white_space}
use Rattle.ti_spelling.specs.WhiteSpace.{without_trailing_space}
use Rattle.ti_source.specs.Cutting.{last_byte}
use Rattle.ti_source.specs.Header.{IsNameByte, IsLookupName}
use Rattle.ti_text.specs.Limits.{number_max}
use Rattle.ti_source.specs.Items.{Statement, claims_flag, claims_number, claims_text, claims_cancel, is_mark, HasNoMark, IsEnabled}
use Rattle.ti_source.specs.Items.{States, number_item, text_item, cancel_item, flag_item, without_outer_space}
use Rattle.ti_source.specs.Reading.{Said, said_flag, said_number, said_text, said_cancel, said_import}
use Rattle.ti_source.specs.Parsing.{accepted, Judges}
use Rattle.ti_source.proofs.JudgingLaws.{judged_import, judged_flag, judged_cancel, judged_number, judged_text}
use Rattle.ti_spelling.specs.Spelling.{is_empty, spelling_of, AreBytes, HasNoNul, WrittenSpells}
use Rattle.tools_relisting.proofs.Cutting.{is_clear, is_whole, is_inline, has_no_cut, no_cut-whole, clear-cons, clear-append, clear-whole}
use Rattle.tools_relisting.proofs.Cutting.{written_from-clear, written_from-inline, is_plain}
use Rattle.tools_relisting.proofs.Unfolding.{is_dark}
use Rattle.tools_relisting.proofs.Words.{is_word_byte, is_word, word_byte-has, word-has, capability-name, decimal-digits, numeral-of}

-- a text, on one line, that is inside one item and is read as this
pub record IsReadable (w : List ℕ) (said : Said) : Type 0 where
  pub dark : is_dark w ≡ true
  pub inline : is_inline w ≡ true
  pub whole : (before : ℕ) → is_whole before w ≡ true
  pub statement : Statement
  pub states : States w (Some statement)
  pub judges : Judges statement.name statement.claim (accepted said)

-- ---- what words have

word-inline : (w : List ℕ) → is_word w ≡ true → is_inline w ≡ true
word-inline w h = word-has (λ b. not (b == 10)) refl w h

word-no_cut : (w : List ℕ) → is_word w ≡ true → has_no_cut w ≡ true
word-no_cut w h = word-has (λ b. not (b == 44) && not (b == 92)) refl w h

abbrev never_taken : ℕ → Bool
never_taken x = not (x == 44) && not (x == 92 || x == 94)

never_taken-plain : (before x : ℕ) → never_taken x ≡ true → is_plain before x ≡ true
never_taken-plain before x h =
    let parts = and_parts (not (x == 44)) (not (x == 92 || x == 94)) h in
    let none = or_parts (x == 92) (x == 94) (not-true (x == 92 || x == 94) parts.1) in
    rw (parts.0, none.0, none.1) refl

word-clear : (before : ℕ) (w : List ℕ) → is_word w ≡ true → is_clear before w ≡ true
word-clear before [] h = refl
word-clear before (x ∷ xs) h =
    let parts = and_parts (is_word_byte x) (is_word xs) h in
    clear-cons before x xs (never_taken-plain before x (word_byte-has never_taken refl x parts.0)) (word-clear x xs parts.1)

word-dark : (w rest : List ℕ) → is_empty w ≡ false → is_word w ≡ true → is_dark (w ++ rest) ≡ true
word-dark [] rest some h = cc
word-dark (x ∷ xs) rest some h = word_byte-has (λ x. not (x == 10 || is_white_space x)) refl x (and_parts (is_word_byte x) (is_word xs) h).0

word-enabled : (w rest : List ℕ) → is_empty w ≡ false → is_word w ≡ true → IsEnabled (w ++ rest)
word-enabled [] rest some h = cc
word-enabled (x ∷ xs) rest some h = not-true (x == 46) (word_byte-has (λ x. not (x == 46)) refl x (and_parts (is_word_byte x) (is_word xs) h).0)

word-no_mark : (w : List ℕ) → is_word w ≡ true → HasNoMark w
word-no_mark [] h = tt
word-no_mark (x ∷ xs) h =
    let parts = and_parts (is_word_byte x) (is_word xs) h in
    (not-true (is_mark x) (word_byte-has (λ x. not (is_mark x)) refl x parts.0), word-no_mark xs parts.1)

word-last : (P : ℕ → Bool) → agree_below (λ b. not (is_word_byte b) || P b) (λ b. true) 123 ≡ true → (before : ℕ) (w : List ℕ) → is_empty w ≡ false
    → is_word w ≡ true
    → P (last_byte before w) ≡ true
word-last P all before [] some h = cc
word-last P all before (x ∷ []) some h = word_byte-has P all x (and_parts (is_word_byte x) true h).0
word-last P all before (x ∷ y ∷ xs) some h = word-last P all x (y ∷ xs) refl (and_parts (is_word_byte x) (is_word (y ∷ xs)) h).1

-- ---- an item of each kind

pub flag-readable : EveryNameIsFound → (c : Capability) → IsCapability c → c.kind ≡ Flag → IsReadable (name_of c) (said_flag c)
flag-readable found c is kind =
    let name = name_of c in
    let n = capability-name c is in
    let visible = not-true (is_white_space (last_byte 64 name)) (word-last (λ x. not (is_white_space x)) refl 64 name n.some n.word) in
    let marked = eqb-false (last_byte 64 name) 64 (not-true (last_byte 64 name == 64) (word-last (λ x. not (x == 64)) refl 64 name n.some n.word)) in
    let none : name ++ [] ≡ name = append-nil name in
    let P : List ℕ → Type 0 = λ w. States w (Some (record { name = name; claim = claims_flag })) in
    record {
      dark = subst (λ w. is_dark w ≡ true) none (word-dark name [] n.some n.word);
      inline = word-inline name n.word;
      whole = λ before. no_cut-whole before name (word-no_cut name n.word);
      statement = record { name = name; claim = claims_flag };
      states = subst P none (flag_item name [] (word-no_mark name n.word) tt (word-enabled name [] n.some n.word) visible marked);
      judges = judged_flag name c (found c is) kind;
    }

pub number-readable : EveryNameIsFound → (c : Capability) (n : ℕ) → IsCapability c → c.kind ≡ Number → n ≤ number_max
    → IsReadable (name_of c ++ 35 ∷ decimal n) (said_number c n)
number-readable found c n is kind small =
    let name = name_of c in
    let ds = decimal n in
    let good = capability-name c is in
    let digits = decimal-digits n (omega arith) in
    record {
      dark = word-dark name (35 ∷ ds) good.some good.word;
      inline = list_all-append (λ b. not (b == 10)) name (35 ∷ ds)
          ∙ and_from (is_inline name) (is_inline ds) (word-inline name good.word) (word-inline ds digits.word);
      whole = λ before.
          no_cut-whole before (name ++ 35 ∷ ds)
          (list_all-append (λ b. not (b == 44) && not (b == 92)) name (35 ∷ ds)
          ∙ and_from (has_no_cut name) (has_no_cut ds) (word-no_cut name good.word) (word-no_cut ds digits.word));
      statement = record { name = name; claim = claims_number ds };
      states = number_item name ds (word-no_mark name good.word) (word-enabled name (35 ∷ ds) good.some good.word);
      judges = judged_number name ds c n (found c is) kind (numeral-of n ds digits) small;
    }

pub cancel-readable : EveryNameIsFound → (c : Capability) → IsCapability c → IsReadable (name_of c ++ 64 ∷ []) (said_cancel c)
cancel-readable found c is =
    let name = name_of c in
    let good = capability-name c is in
    record {
      dark = word-dark name (64 ∷ []) good.some good.word;
      inline = list_all-append (λ b. not (b == 10)) name (64 ∷ []) ∙ and_from (is_inline name) true (word-inline name good.word) refl;
      whole = λ before.
          no_cut-whole before (name ++ 64 ∷ [])
          (list_all-append (λ b. not (b == 44) && not (b == 92)) name (64 ∷ []) ∙ and_from (has_no_cut name) true (word-no_cut name good.word) refl);
      statement = record { name = name; claim = claims_cancel };
      states = cancel_item name [] (word-no_mark name good.word) tt (word-enabled name (64 ∷ []) good.some good.word);
      judges = judged_cancel name c (found c is);
    }

pub text-readable : EveryNameIsFound → WrittenSpells → (c : Capability) (t : List ℕ) → IsCapability c → c.kind ≡ Text → AreBytes t → HasNoNul t
    → IsReadable (name_of c ++ 61 ∷ spelling_of t) (said_text c t)
text-readable found spells c t is kind are none =
    let name = name_of c in
    let good = capability-name c is in
    let value = spelling_of t in
    let clear : (before : ℕ) → is_clear before (name ++ 61 ∷ value) ≡ true =
    λ before. clear-append before name (61 ∷ value) (word-clear before name good.word) (clear-cons _ 61 value refl (written_from-clear true 0 61 t refl are)) in
    record {
      dark = word-dark name (61 ∷ value) good.some good.word;
      inline = list_all-append (λ b. not (b == 10)) name (61 ∷ value)
          ∙ and_from (is_inline name) (is_inline value) (word-inline name good.word) (written_from-inline true 0 t are);
      whole = λ before. subst (λ w. is_whole before w ≡ true) (append-nil (name ++ 61 ∷ value))
          (clear-whole before (name ++ 61 ∷ value) [] (clear before) refl);
      statement = record { name = name; claim = claims_text value };
      states = text_item name value (word-no_mark name good.word) (word-enabled name (61 ∷ value) good.some good.word);
      judges = judged_text name value t c good.other (found c is) kind (spells t are none);
    }

-- ---- a use of another entry

abbrev is_visible : ℕ → Bool
is_visible x = not (x == 10 || is_white_space x)

name_byte-visible : (x : ℕ) → IsNameByte x → is_visible x ≡ true
name_byte-visible x h = rw (ne_eqb x 10 (λ e. omega (arith, e, h.0)), ne_eqb x 32 (λ e. omega (arith, e, h.0)), ne_eqb x 9 (λ e. omega (arith, e, h.0))) refl

visible-trimmed : (w : List ℕ) → list_all is_visible w ≡ true → without_trailing_space w ≡ w
visible-trimmed [] h = refl
visible-trimmed (x ∷ xs) h =
    let parts = and_parts (is_visible x) (list_all is_visible xs) h in
    let none = or_parts (x == 10) (is_white_space x) (not-true (x == 10 || is_white_space x) parts.0) in
    rw none.1 (ap (λ t. x ∷ t) (visible-trimmed xs parts.1))

visible-stripped : (w : List ℕ) → list_all is_visible w ≡ true → without_outer_space w ≡ w
visible-stripped [] h = refl
visible-stripped (x ∷ xs) h =
    let parts = and_parts (is_visible x) (list_all is_visible xs) h in
    let none = or_parts (x == 10) (is_white_space x) (not-true (x == 10 || is_white_space x) parts.0) in
    rw none.1 (visible-trimmed (x ∷ xs) h)

name-visible : (w : List ℕ) → All IsNameByte w → list_all is_visible w ≡ true
name-visible [] h = refl
name-visible (x ∷ xs) h =
    and_from (is_visible x) (list_all is_visible xs) (name_byte-visible x (All-head IsNameByte x xs h)) (name-visible xs (All-tail IsNameByte x xs h))

name-inline : (w : List ℕ) → All IsNameByte w → is_inline w ≡ true
name-inline [] h = refl
name-inline (x ∷ xs) h =
    let byte : IsNameByte x = All-head IsNameByte x xs h in
    and_from (not (x == 10)) (is_inline xs) (not_from_false (x == 10) (ne_eqb x 10 (λ e. omega (arith, e, byte.0))))
    (name-inline xs (All-tail IsNameByte x xs h))

name-no_cut : (w : List ℕ) → All IsNameByte w → All (λ byte. byte ≢ 92) w → has_no_cut w ≡ true
name-no_cut [] h none = refl
name-no_cut (x ∷ xs) h none =
    let byte : IsNameByte x = All-head IsNameByte x xs h in
    and_from (not (x == 44) && not (x == 92)) (has_no_cut xs)
    (and_from (not (x == 44)) (not (x == 92)) (not_from_false (x == 44) (ne_eqb x 44 byte.2))
    (not_from_false (x == 92) (ne_eqb x 92 (All-head (λ byte. byte ≢ 92) x xs none))))
    (name-no_cut xs (All-tail IsNameByte x xs h) (All-tail (λ byte. byte ≢ 92) x xs none))

pub import-readable : (name : List ℕ) → IsLookupName name → All (λ byte. byte ≢ 92) name → IsReadable (codes "use=" ++ name) (said_import name)
import-readable name is none =
    let P : List ℕ → Type 0 = λ n. Judges (codes "use") (claims_text name) (accepted (said_import n)) in
    record {
      dark = refl;
      inline = name-inline name is.bytes;
      whole = λ before. no_cut-whole before (codes "use=" ++ name) (name-no_cut name is.bytes none);
      statement = record { name = codes "use"; claim = claims_text name };
      states = text_item (codes "use") name (refl, (refl, (refl, tt))) refl;
      judges = subst P (visible-stripped name (name-visible name is.bytes)) (judged_import (codes "use") name refl);
    }
