-- What `padding_at` finds is a padding, and it finds each.
use Rattle.ti_text.specs.Digits.{is_decimal_digit, decimal_value, decimal_from}
use Rattle.ti_text.specs.Lists.{AllAre}
use Rattle.std.proofs.Common.{◌≡◌, ℕ, zero, suc, ◌+◌, ◌-◌, ◌*◌, ◌^◌, ◌<◌, ◌≤◌, Bool, true, false, List, [], ◌∷◌, ◌++◌, length, drop, take, get_or, eqb}
use Rattle.std.proofs.Common.{Option, Some, None, cond, refl, sym, ap, subst, ◌∙◌, arith, add-one}
use Rattle.std.proofs.lemmas.Bool.Decides.{nat_tests}
use Rattle.std.proofs.lemmas.List.Elements.{All-from_recursion}
use Rattle.std.proofs.lemmas.List.{take_more, append_assoc, take-append-drop, length-take}
use Rattle.std.proofs.Math.Nat.{pow-suc}
use Rattle.std.proofs.Math.Seq.{drop-cons, drop-append_seam, take-append_seam}
use Rattle.std.specs.Option.{option_and_then}
use Rattle.ti_printing.specs.declared.padding.Padding.{Padding}
use Rattle.ti_printing.specs.Padding.{AreMilliseconds, AreTenths, no_tenths, some_tenths, AreMarks, no_mark, star_alone, slash_alone, star_slash}
use Rattle.ti_printing.specs.Padding.{slash_star, IsPadding}
use Rattle.ti_printing.specs.inside.Padding.{after_byte, digits_len, milliseconds_at, tenths_in, tenths_at, mark_in, mark_at, marks_at, padding_with}
use Rattle.ti_printing.specs.inside.Padding.{padding_from, padding_at}

-- ---- digits

digit_is_low : (byte : ℕ) → is_decimal_digit byte ≡ true → byte ≤ 57
digit_is_low byte h = grind (arith, nat_tests)

pub digits_len-le_most : (most : ℕ) (text : List ℕ) → digits_len most text ≤ most
digits_len-le_most zero text = omega arith
digits_len-le_most (suc most) [] = omega arith
digits_len-le_most (suc most) (byte ∷ text) =
    let more = digits_len-le_most most text in
    elim (is_decimal_digit byte) as (λ b. cond b (suc (digits_len most text)) 0 ≤ suc most) [ true ↦ omega arith | false ↦ omega arith ]

pub digits_len-le : (most : ℕ) (text : List ℕ) → digits_len most text ≤ length text
digits_len-le zero text = omega arith
digits_len-le (suc most) [] = omega arith
digits_len-le (suc most) (byte ∷ text) =
    let more = digits_len-le most text in
    elim (is_decimal_digit byte) as (λ b. cond b (suc (digits_len most text)) 0 ≤ suc (length text)) [ true ↦ omega arith | false ↦ omega arith ]

pub decimal_digits : (most : ℕ) (text : List ℕ) → AllAre is_decimal_digit (take (digits_len most text) text)
decimal_digits zero text = tt
decimal_digits (suc most) [] = tt
decimal_digits (suc most) (byte ∷ text) =
    elim (is_decimal_digit byte) as (λ b. is_decimal_digit byte ≡ b → AllAre is_decimal_digit (take (cond b (suc (digits_len most text)) 0) (byte ∷ text))) [
      | true ↦ λ e. (e, decimal_digits most text)
      | false ↦ λ e. tt
    ] refl

-- a text that begins with no digit
abbrev BeginsNoDigit : List ℕ → Type 0
BeginsNoDigit [] = Unit {0}
BeginsNoDigit (byte ∷ text) = is_decimal_digit byte ≡ false

digits_len-append : (most : ℕ) (digits text : List ℕ) → AllAre is_decimal_digit digits → length digits ≤ most → BeginsNoDigit text
    → digits_len most (digits ++ text) ≡ length digits
digits_len-append zero [] text all few other = refl
digits_len-append zero (digit ∷ digits) text all few other = absurd (omega arith)
digits_len-append (suc most) [] [] all few other = refl
digits_len-append (suc most) [] (byte ∷ text) all few other = ap (λ b. cond b (suc (digits_len most text)) 0) other
digits_len-append (suc most) (digit ∷ digits) text all few other =
    ap (λ b. cond b (suc (digits_len most (digits ++ text))) 0) all.0 ∙
    ap (λ n. suc n) (digits_len-append most digits text all.1 (omega arith) other)

-- ---- what is found is a padding

pub bind_some : {A B : Type 0} (f : A → Option B) (o : Option A) (y : B) → option_and_then f o ≡ Some y → (x : A) × (o ≡ Some x) × (f x ≡ Some y)
bind_some f None y h = absurd (cc)
bind_some f (Some x) y h = (x, refl, h)

pub after_byte-some : (byte : ℕ) (text rest : List ℕ) → after_byte byte text ≡ Some rest → text ≡ byte ∷ rest
after_byte-some byte [] rest h = absurd (cc)
after_byte-some byte (first ∷ text) rest h =
    elim (eqb first byte) as (λ b. eqb first byte ≡ b → cond b (Some text) None ≡ Some rest → first ∷ text ≡ byte ∷ rest) [
      | true ↦ λ e h'. let same : first ≡ byte = grind (arith, nat_tests) in cc
      | false ↦ λ e h'. absurd (cc)
    ] refl h

milliseconds_at-some : (text : List ℕ) (found : ℕ × List ℕ) → milliseconds_at text ≡ Some found → (digits : List ℕ) × (text ≡ digits ++ found.1)
    × AreMilliseconds digits found.0
milliseconds_at-some text found h =
    let len = digits_len 5 text in
    elim (eqb len 0) as (λ b. eqb len 0 ≡ b → cond b None (Some (decimal_value (take len text), drop len text)) ≡ Some found → (digits : List ℕ)
    × (text ≡ digits ++ found.1) × AreMilliseconds digits found.0) [
      | true ↦ λ e h'. absurd (cc)
      | false ↦ λ e h'.
          let same : (decimal_value (take len text), drop len text) ≡ found = cc in
          let some : 0 < len = grind (arith, nat_tests) in
          let long : length (take len text) ≡ len = omega (arith, length-take len text, digits_len-le 5 text) in (
            take len text,
            sym (take-append-drop len text) ∙ ap (λ f. take len text ++ f.1) same,
            record { digits = decimal_digits 5 text; some = omega arith; few = omega (arith, digits_len-le_most 5 text); value = sym (ap (λ f. f.0) same) },
          )
    ] refl h

some_is : (text rest : List ℕ) → text ≡ 46 ∷ rest → (tenths : List ℕ) × (text ≡ tenths ++ (tenths_in (Some rest) text).1)
    × AreTenths tenths (tenths_in (Some rest) text).0
some_is text [] spelled = ([], refl, no_tenths)
some_is text (digit ∷ rest) spelled =
    elim (is_decimal_digit digit) as (λ b. is_decimal_digit digit ≡ b → (tenths : List ℕ)
    × (text ≡ tenths ++ (cond {A = ℕ × List ℕ} b (digit - 48, rest) (0, text)).1)
    × AreTenths tenths (cond {A = ℕ × List ℕ} b (digit - 48, rest) (0, text)).0) [
      | true ↦ λ e. (46 ∷ (digit ∷ []), spelled, some_tenths e)
      | false ↦ λ e. ([], refl, no_tenths)
    ] refl

tenths_at-is : (text : List ℕ) → (tenths : List ℕ) × (text ≡ tenths ++ (tenths_at text).1) × AreTenths tenths (tenths_at text).0
tenths_at-is text =
    elim (after_byte 46 text) as (λ o. after_byte 46 text ≡ o → (tenths : List ℕ) × (text ≡ tenths ++ (tenths_in o text).1)
    × AreTenths tenths (tenths_in o text).0) [
      | None ↦ λ e. ([], refl, no_tenths)
      | Some rest ↦ λ e. some_is text rest (after_byte-some 46 text rest e)
    ] refl

-- one mark
pub mark_at-is : (byte : ℕ) (text : List ℕ) → text ≡ cond (mark_at byte text).0 (byte ∷ []) [] ++ (mark_at byte text).1
mark_at-is byte text =
    elim (after_byte byte text) as (λ o. after_byte byte text ≡ o → text ≡ cond (mark_in o text).0 (byte ∷ []) [] ++ (mark_in o text).1) [
      | None ↦ λ e. refl
      | Some rest ↦ λ e. after_byte-some byte text rest e
    ] refl

three_marks : (a b c : Bool) (text s t u : List ℕ) → text ≡ cond a (42 ∷ []) [] ++ s → s ≡ cond b (47 ∷ []) [] ++ t → t ≡ cond c (42 ∷ []) [] ++ u
    → (marks : List ℕ) × (text ≡ marks ++ (cond {A = Bool × List ℕ} a (true, t) (c, u)).1) × AreMarks marks (cond {A = Bool × List ℕ} a (true, t) (c, u)).0 b
three_marks true true c text s t u e f g = (42 ∷ (47 ∷ []), e ∙ ap (λ l. 42 ∷ l) f, star_slash)
three_marks true false c text s t u e f g = (42 ∷ [], e ∙ ap (λ l. 42 ∷ l) f, star_alone)
three_marks false true true text s t u e f g = (47 ∷ (42 ∷ []), e ∙ f ∙ ap (λ l. 47 ∷ l) g, slash_star)
three_marks false true false text s t u e f g = (47 ∷ [], e ∙ f ∙ ap (λ l. 47 ∷ l) g, slash_alone)
three_marks false false true text s t u e f g = (42 ∷ [], e ∙ f ∙ g, star_alone)
three_marks false false false text s t u e f g = ([], e ∙ f ∙ g, no_mark)

marks_at-is : (text : List ℕ) → (marks : List ℕ) × (text ≡ marks ++ (marks_at text).2) × AreMarks marks (marks_at text).0 (marks_at text).1
marks_at-is text =
    let first = mark_at 42 text in
    let slash = mark_at 47 first.1 in
    let last = mark_at 42 slash.1 in
    three_marks first.0 slash.0 last.0 text first.1 slash.1 last.1 (mark_at-is 42 text) (mark_at-is 47 first.1) (mark_at-is 42 slash.1)

-- a padding and what follows it
padding_text : (ds ts ms rest : List ℕ) → 36 ∷ (60 ∷ (ds ++ (ts ++ (ms ++ (62 ∷ rest))))) ≡ (36 ∷ (60 ∷ (ds ++ (ts ++ (ms ++ (62 ∷ [])))))) ++ rest
padding_text ds ts ms rest = simp append_assoc

pub padding_at-some : (text : List ℕ) (found : Padding × List ℕ) → padding_at text ≡ Some found → (front : List ℕ) × (text ≡ front ++ found.1)
    × IsPadding front found.0
unfolding padding_at
padding_at-some text found h =
    let (opened, e1, h1) = bind_some (λ opened. option_and_then (λ inner. option_and_then padding_from (milliseconds_at inner)) (after_byte 60 opened))
    (after_byte 36 text) found h in
    let (inner, e2, h2) = bind_some (λ inner. option_and_then padding_from (milliseconds_at inner)) (after_byte 60 opened) found h1 in
    let (whole, e3, h3) = bind_some padding_from (milliseconds_at inner) found h2 in
    let part = tenths_at whole.1 in
    let marks = marks_at part.1 in
    let padding : Padding = record { tenths = 10 * whole.0 + part.0; proportional = marks.0; mandatory = marks.1 } in
    let (rest, e4, h4) = bind_some (λ (rest : List ℕ). Some (padding, rest)) (after_byte 62 marks.2) found h3 in
    let same : (padding, rest) ≡ found = cc in
    let (ds, spelled_ds, are_ds) = milliseconds_at-some inner whole e3 in
    let (ts, spelled_ts, are_ts) = tenths_at-is whole.1 in
    let (ms, spelled_ms, are_ms) = marks_at-is part.1 in
    let spelled : text ≡ 36 ∷ (60 ∷ (ds ++ (ts ++ (ms ++ (62 ∷ rest))))) =
    after_byte-some 36 text opened e1 ∙ ap (λ l. 36 ∷ l) (after_byte-some 60 opened inner e2
    ∙ ap (λ l. 60 ∷ l) (spelled_ds
    ∙ ap (λ l. ds ++ l) (spelled_ts ∙ ap (λ l. ts ++ l) (spelled_ms ∙ ap (λ l. ms ++ l) (after_byte-some 62 marks.2 rest e4))))) in
    subst (λ (f : Padding × List ℕ). (front : List ℕ) × (text ≡ front ++ f.1) × IsPadding front f.0) same (
      36 ∷ (60 ∷ (ds ++ (ts ++ (ms ++ (62 ∷ []))))),
      spelled ∙ padding_text ds ts ms rest,
      record {
        milliseconds = ds;
        tenths = ts;
        marks = ms;
        whole = whole.0;
        part = part.0;
        spelled = refl;
        are_milliseconds = are_ds;
        are_tenths =
            are_ts;
        are_marks = are_ms;
        time = refl;
      },
    )

-- ---- each padding is found

no_digit_after : (tenths marks rest : List ℕ) (part : ℕ) (star' slash' : Bool) → AreTenths tenths part → AreMarks marks star' slash'
    → BeginsNoDigit (tenths ++ (marks ++ (62 ∷ rest)))
no_digit_after _ _ rest _ _ _ no_tenths no_mark = refl
no_digit_after _ _ rest _ _ _ no_tenths star_alone = refl
no_digit_after _ _ rest _ _ _ no_tenths slash_alone = refl
no_digit_after _ _ rest _ _ _ no_tenths star_slash = refl
no_digit_after _ _ rest _ _ _ no_tenths slash_star = refl
no_digit_after _ _ rest _ _ _ (some_tenths h) m = refl

marks_at-found : (marks rest : List ℕ) (proportional mandatory : Bool) → AreMarks marks proportional mandatory
    → marks_at (marks ++ (62 ∷ rest)) ≡ (proportional, mandatory, 62 ∷ rest)
marks_at-found _ rest _ _ no_mark = refl
marks_at-found _ rest _ _ star_alone = refl
marks_at-found _ rest _ _ slash_alone = refl
marks_at-found _ rest _ _ star_slash = refl
marks_at-found _ rest _ _ slash_star = refl

tenths_at-found : (tenths marks rest : List ℕ) (part : ℕ) (proportional mandatory : Bool) → AreTenths tenths part → AreMarks marks proportional mandatory
    → tenths_at (tenths ++ (marks ++ (62 ∷ rest))) ≡ (part, marks ++ (62 ∷ rest))
tenths_at-found _ _ rest _ _ _ no_tenths no_mark = refl
tenths_at-found _ _ rest _ _ _ no_tenths star_alone = refl
tenths_at-found _ _ rest _ _ _ no_tenths slash_alone = refl
tenths_at-found _ _ rest _ _ _ no_tenths star_slash = refl
tenths_at-found _ _ rest _ _ _ no_tenths slash_star = refl
tenths_at-found _ marks rest _ _ _ (some_tenths {digit} h) m =
    ap (λ b. cond {A = ℕ × List ℕ} b (digit - 48, marks ++ (62 ∷ rest)) (0, 46 ∷ (digit ∷ (marks ++ (62 ∷ rest))))) h

not_none : (digits : List ℕ) → 0 < length digits → eqb (length digits) 0 ≡ false
not_none digits some = grind (arith, nat_tests)

milliseconds_at-found : (digits text : List ℕ) (number : ℕ) → AreMilliseconds digits number → BeginsNoDigit text
    → milliseconds_at (digits ++ text) ≡ Some (number, text)
milliseconds_at-found digits text number h other =
    let long = digits_len-append 5 digits text h.digits h.few other in
    let some = h.some in
    ap (λ len. cond (eqb len 0) None (Some (decimal_value (take len (digits ++ text)), drop len (digits ++ text)))) long ∙
    ap (λ b. cond b None (Some (decimal_value (take (length digits) (digits ++ text)), drop (length digits) (digits ++ text)))) (not_none digits some) ∙
    ap (λ ds. Some (decimal_value ds, drop (length digits) (digits ++ text))) (take-append_seam digits text) ∙
    ap (λ t. Some (decimal_value digits, t)) (drop-append_seam digits text) ∙
    ap (λ n. Some (n, text)) (sym h.value)

pub padding_at-found : (front rest : List ℕ) (padding : Padding) → IsPadding front padding → padding_at (front ++ rest) ≡ Some (padding, rest)
unfolding padding_at
padding_at-found front rest padding h =
    let tail = h.tenths ++ (h.marks ++ (62 ∷ rest)) in
    let other = no_digit_after h.tenths h.marks rest h.part padding.proportional padding.mandatory h.are_tenths h.are_marks in
    ap (λ f. padding_at (f ++ rest)) h.spelled ∙ ap padding_at (sym (padding_text h.milliseconds h.tenths h.marks rest)) ∙
    ap (option_and_then padding_from) (milliseconds_at-found h.milliseconds tail h.whole h.are_milliseconds other) ∙
    ap (λ (part : ℕ × List ℕ). padding_with (10 * h.whole + part.0) (marks_at part.1))
    (tenths_at-found h.tenths h.marks rest h.part padding.proportional padding.mandatory h.are_tenths h.are_marks) ∙
    ap (padding_with (10 * h.whole + h.part)) (marks_at-found h.marks rest padding.proportional padding.mandatory h.are_marks) ∙
    ap (λ time. padding_with time (padding.proportional, padding.mandatory, 62 ∷ rest)) (sym h.time)

-- ---- steps of the loops over digits

pub digits_len-next : (len : ℕ) (text : List ℕ) → len < 5 → len < length text → is_decimal_digit (get_or text len 0) ≡ true
    → digits_len (5 - len) (drop len text) ≡ suc (digits_len (5 - (len + 1)) (drop (len + 1) text))
digits_len-next len text few within decimal_value =
    let count : 5 - len ≡ suc (5 - (len + 1)) = omega arith in
    let front : drop len text ≡ get_or text len 0 ∷ drop (len + 1) text = rw add-one (drop-cons text len 0 within) in
    ap (λ n. digits_len n (drop len text)) count ∙ ap (digits_len (suc (5 - (len + 1)))) front ∙
    ap (λ b. cond b (suc (digits_len (5 - (len + 1)) (drop (len + 1) text))) 0) decimal_value

decimal_from-push : (n : ℕ) (digits : List ℕ) (digit : ℕ) → decimal_from n (digits ++ digit ∷ []) ≡ 10 * decimal_from n digits + (digit - 48)
decimal_from-push n [] digit = refl
decimal_from-push n (d ∷ ds) digit = decimal_from-push (10 * n + (d - 48)) ds digit

pub decimal_value-next : (digits : List ℕ) (i : ℕ) → i < length digits → decimal_value (take (i + 1) digits)
    ≡ 10 * decimal_value (take i digits) + (get_or digits i 0 - 48)
decimal_value-next digits i within =
    let digit = get_or digits i 0 in
    ap decimal_value (take_more digits i 0 within) ∙
    decimal_from-push 0 (take i digits) digit

-- each byte that is counted is a digit
pub digit_in_range : (text digits : List ℕ) (i : ℕ) → digits ≡ take (digits_len 5 text) text → i < length digits → get_or digits i 0 ≤ 57
digit_in_range text digits i e within =
    let all = All-from_recursion (λ byte. is_decimal_digit byte ≡ true) (take (digits_len 5 text) text) (decimal_digits 5 text) in
    digit_is_low (get_or digits i 0) (subst (λ ds. is_decimal_digit (get_or ds i 0) ≡ true) (sym e) (all i 0 (omega (arith, ap length e))))

pub ten_times : (whole digit i : ℕ) → whole < 10 ^ i → digit < 10 → 10 * whole + digit < 10 ^ (i + 1)
ten_times whole digit i small low = let power = pow-suc 10 i in rw add-one (omega (arith, power))
