-- The law of codes: each code's text is read as that code, and what is read is a code's text.
use Rattle.std.proofs.Common.{◌≡◌, ℕ, ◌<◌, ◌≤◌, Bool, true, false, cond, inl, inr, List, [], ◌∷◌, ◌++◌, length, pos, refl, ap, sym, ◌∙◌, subst, arith}
use Rattle.std.proofs.Common.{append_assoc}
use Rattle.std.specs.Prelude.{Option, Some, None, ◌==◌, ◌&&◌, nat_lt, nat_le}
use Rattle.std.proofs.lemmas.Bool.Decides.{nat_tests, Decides-eqb}
use Rattle.ti_formats.specs.declared.codes.Code.TheVariants.{Print, Constant}
use Rattle.ti_formats.specs.declared.codes.Token.{Token}
use Rattle.ti_formats.specs.declared.codes.Token.TheVariants.{Operation}
use Rattle.ti_printing.specs.declared.printf.Conversion.{Conversion}
use Rattle.ti_printing.specs.declared.printf.Directive.{Directive}
use Rattle.ti_printing.specs.declared.printf.Flags.{Flags}
use Rattle.ti_text.specs.Lists.{AllAre}
use Rattle.ti_formats.specs.Codes.{OneCode, row_for, span, simple_tokens, conversions, is_flag, IsFlags, signed_flags, plain_flags, IsPrecision}
use Rattle.ti_formats.specs.Codes.{without_precision}
use Rattle.ti_formats.specs.Codes.{with_precision, begins_zero, IsDirective, directive, IsCode, simple_code, parameter_code, store_code, fetch_code}
use Rattle.ti_formats.specs.Codes.{byte_code, number_code}
use Rattle.ti_formats.specs.Codes.{print_code}
use Rattle.ti_text.specs.Digits.{is_decimal_digit, decimal_value}
use Rattle.ti_formats.specs.inside.Codes.{Front, parameter_after, store_after, fetch_after, byte_after, constant_before, number_after, flags_of, flags_after}
use Rattle.ti_formats.specs.inside.Codes.{precision_of, precision_after, directive_with, directive_after, begins_directive, letter_after, token_after}
use Rattle.ti_formats.proofs.Fronts.{chosen, mapped, found-row, span-whole, span-all, span-append, braced}

-- ---- what may come after flags, digits and a precision

-- a byte that is no flag and not `:`, and begins a printf form
record Past (y : ℕ) : Type 0 where
  pub not_signed : is_flag true y ≡ false
  pub not_plain : is_flag false y ≡ false
  pub not_colon : (y == 58) ≡ false
  pub begins : begins_directive y ≡ true

abbrev Heads : (ℕ → Type 0) → List ℕ → Type 0
Heads P [] = ⊥
Heads P (y ∷ ys) = P y

past_digit : (y : ℕ) → is_decimal_digit y ≡ true → Past y
past_digit y h =
    let low : 48 ≤ y = grind (arith, nat_tests) in
    let high : y ≤ 57 = grind (arith, nat_tests) in
    record {
      not_signed = grind (arith, nat_tests);
      not_plain = grind (arith, nat_tests);
      not_colon = grind (arith, nat_tests);
      begins = grind (arith, nat_tests);
    }

past_conversion : (x : ℕ) (c : Conversion) → row_for x conversions ≡ Some c → Past x
past_conversion x c h =
    found-row (λ row. Past row.0) x conversions c (
      record { not_signed = refl; not_plain = refl; not_colon = refl; begins = refl },
      (
        record { not_signed = refl; not_plain = refl; not_colon = refl; begins = refl },
        (
          record { not_signed = refl; not_plain = refl; not_colon = refl; begins = refl },
          (
            record { not_signed = refl; not_plain = refl; not_colon = refl; begins = refl },
            (record { not_signed = refl; not_plain = refl; not_colon = refl; begins = refl }, tt),
          ),
        ),
      ),
    ) h

-- a conversion's letter is no digit and not `.`
abbrev Ends : ℕ → Type 0
Ends x = (is_decimal_digit x ≡ false) × ((x == 46) ≡ false)

conversion_ends : (x : ℕ) (c : Conversion) → row_for x conversions ≡ Some c → Ends x
conversion_ends x c h = found-row (λ row. Ends row.0) x conversions c ((refl, refl), ((refl, refl), ((refl, refl), ((refl, refl), ((refl, refl), tt))))) h

-- ---- parts of a printf form, read from a text that begins with them

flags_read : (fs : List ℕ) (flags : Flags) (y : ℕ) (ys : List ℕ) → IsFlags fs flags → Past y → flags_after (fs ++ (y ∷ ys)) ≡ (flags, y ∷ ys)
unfolding flags_after
flags_read fs flags y ys (signed_flags xs each) past = ap flags_of (span-append (is_flag true) xs (y ∷ ys) each past.not_signed)
flags_read fs flags y ys (plain_flags [] each) past = rw past.not_colon (rw past.not_plain refl)
flags_read fs flags y ys (plain_flags (x ∷ xs) each) past =
    let other : (x == 58) ≡ false = not_colon x each.0 in
    rw other (ap flags_of (span-append (is_flag false) (x ∷ xs) (y ∷ ys) each past.not_plain))
  where
    not_colon : (x : ℕ) → is_flag false x ≡ true → (x == 58) ≡ false
    not_colon x h = grind (arith, nat_tests)

-- at most 999, as a test
within : (n m : ℕ) → n ≤ m → nat_le n m ≡ true
within n m h = grind (arith, nat_tests)

precision_read : (ps : List ℕ) (precision : Option ℕ) (x : ℕ) (rest : List ℕ) → IsPrecision ps precision → Ends x →
    precision_after (ps ++ (x ∷ rest)) ≡ Some (precision, x ∷ rest)
unfolding precision_after
precision_read ps precision x rest without_precision ends = rw ends.1 refl
precision_read ps precision x rest (with_precision ds each small) ends =
    let parts : span is_decimal_digit (ds ++ (x ∷ rest)) ≡ (ds, x ∷ rest) = span-append is_decimal_digit ds (x ∷ rest) each ends.0 in
    ap precision_of parts ∙ rw (within (decimal_value ds) 999 small) refl

-- the text of a printf form, head and tail
abbrev Begun : List ℕ → Type 0
Begun [] = ⊥
Begun (y ∷ ys) = begins_directive y ≡ true

-- digits may come before what follows the flags
width_head : (P : List ℕ → Type 0) (ds : List ℕ) (y : ℕ) (ys : List ℕ) → AllAre is_decimal_digit ds → Past y →
    ((z : ℕ) (zs : List ℕ) → Past z → ds ++ (y ∷ ys) ≡ z ∷ zs → P (z ∷ zs)) → P (ds ++ (y ∷ ys))
width_head P [] y ys each past then = then y ys past refl
width_head P (d ∷ ds) y ys each past then = then d (ds ++ (y ∷ ys)) (past_digit d each.0) refl

precision_head : (ps : List ℕ) (precision : Option ℕ) (x : ℕ) (rest : List ℕ) → IsPrecision ps precision → Past x → is_decimal_digit x ≡ false →
    (y : ℕ) × (ys : List ℕ) × (ps ++ (x ∷ rest) ≡ y ∷ ys) × Past y × (is_decimal_digit y ≡ false)
precision_head ps precision x rest without_precision past other = (x, rest, refl, past, other)
precision_head ps precision x rest (with_precision ds each small) past other =
    (46, ds ++ (x ∷ rest), refl, record { not_signed = refl; not_plain = refl; not_colon = refl; begins = refl }, refl)

flags_head : (fs : List ℕ) (flags : Flags) (y : ℕ) (ys : List ℕ) → IsFlags fs flags → Past y → Begun (fs ++ (y ∷ ys))
flags_head fs flags y ys (signed_flags xs each) past = refl
flags_head fs flags y ys (plain_flags [] each) past = past.begins
flags_head fs flags y ys (plain_flags (x ∷ xs) each) past = flag_begins x each.0
  where
    flag_begins : (x : ℕ) → is_flag false x ≡ true → begins_directive x ≡ true
    flag_begins x h = grind (arith, nat_tests)

-- the form that a text begins with is read, and the text begins as forms do
directive_read : (fs ds ps : List ℕ) (x : ℕ) (rest : List ℕ) (flags : Flags) (precision : Option ℕ) (conversion : Conversion) →
    IsFlags fs flags → AllAre is_decimal_digit ds → decimal_value ds ≤ 999 → IsPrecision ps precision → row_for x conversions ≡ Some conversion →
    (directive_after (fs ++ (ds ++ (ps ++ (x ∷ rest)))) ≡
    Some (record { flags = record flags { zero = begins_zero ds }; width = decimal_value ds; precision = precision; conversion = conversion }, rest))
    × Begun (fs ++ (ds ++ (ps ++ (x ∷ rest))))
unfolding directive_after directive_with
directive_read fs ds ps x rest flags precision conversion is_flags digits small is_precision row =
    let (y, ys, is, past, other) = precision_head ps precision x rest is_precision (past_conversion x conversion row) (conversion_ends x conversion row).0 in
    let width : span is_decimal_digit (ds ++ (ps ++ (x ∷ rest))) ≡ (ds, ps ++ (x ∷ rest)) =
    rw is (span-append is_decimal_digit ds (y ∷ ys) digits other) in
    let at : precision_after (ps ++ (x ∷ rest)) ≡ Some (precision, x ∷ rest) =
    precision_read ps precision x rest is_precision (conversion_ends x conversion row) in
    let front : flags_after (fs ++ (ds ++ (ps ++ (x ∷ rest)))) ≡ (flags, ds ++ (ps ++ (x ∷ rest))) =
    rw is (width_head (λ text. flags_after (fs ++ text) ≡ (flags, text)) ds y ys digits past (λ z zs after e. flags_read fs flags z zs is_flags after)) in
    let begun : Begun (fs ++ (ds ++ (ps ++ (x ∷ rest)))) =
    rw is (width_head (λ text. Begun (fs ++ text)) ds y ys digits past (λ z zs after e. flags_head fs flags z zs is_flags after)) in
    (rw front (rw width (rw at (rw (within (decimal_value ds) 999 small) (rw row refl)))), begun)

-- ---- each code's text is read

read_begun : (text rest : List ℕ) (form : Directive) → (directive_after text ≡ Some (form, rest)) × Begun text →
    token_after text ≡ Some (Operation (Print form), rest)
unfolding token_after
read_begun [] rest form (read, begun) = absurd begun
read_begun (y ∷ ys) rest form (read, begun) = rw begun (rw read refl)

directive_code_read : (text rest : List ℕ) (form : Directive) → IsDirective text form → token_after (text ++ rest) ≡ Some (Operation (Print form), rest)
directive_code_read text rest form (directive fs ds ps x {flags} {precision} {conversion} is_flags digits small is_precision row) =
    let whole : (fs ++ (ds ++ (ps ++ x ∷ []))) ++ rest ≡ fs ++ (ds ++ (ps ++ (x ∷ rest))) = simp append_assoc in
    rw whole (read_begun (fs ++ (ds ++ (ps ++ (x ∷ rest)))) rest _
    (directive_read fs ds ps x rest flags precision conversion is_flags digits small is_precision row))

simple_code_read : (x : ℕ) (rest : List ℕ) (token : Token) → row_for x simple_tokens ≡ Some token → token_after (x ∷ rest) ≡ Some (token, rest)
unfolding token_after letter_after
simple_code_read x rest token row =
    found-row (λ r. token_after (r.0 ∷ rest) ≡ Some (r.1, rest)) x simple_tokens token (
      refl,
      (
        refl,
        (
          refl,
          (
            refl,
            (
              refl,
              (
                refl,
                (
                  refl,
                  (
                    refl,
                    (
                      refl,
                      (
                        refl,
                        (refl, (refl, (refl, (refl, (refl, (refl, (refl, (refl, (refl, (refl, (refl, (refl, (refl, tt))))))))))))),
                      ),
                    ),
                  ),
                ),
              ),
            ),
          ),
        ),
      ),
    ) row

number_code_read : (ds rest : List ℕ) → AllAre is_decimal_digit ds → 0 < length ds → decimal_value ds ≤ 2147483647 →
    token_after (123 ∷ ((ds ++ 125 ∷ []) ++ rest)) ≡ Some (Operation (Constant (pos (decimal_value ds))), rest)
unfolding token_after letter_after number_after constant_before
number_code_read ds rest digits some small =
    let parts : span is_decimal_digit (ds ++ (125 ∷ rest)) ≡ (ds, 125 ∷ rest) = span-append is_decimal_digit ds (125 ∷ rest) digits refl in
    let nonempty : nat_lt 0 (length ds) ≡ true = grind (arith, nat_tests) in
    rw append_assoc (rw parts (rw nonempty (rw (within (decimal_value ds) 2147483647 small) refl)))

pub code_read : (text rest : List ℕ) (token : Token) → IsCode text token → token_after (text ++ rest) ≡ Some (token, rest)
unfolding token_after letter_after parameter_after store_after fetch_after byte_after
code_read text rest token (simple_code x row) = simple_code_read x rest token row
code_read text rest token (parameter_code x named) = rw named refl
code_read text rest token (store_code x named) = rw named refl
code_read text rest token (fetch_code x named) = rw named refl
code_read text rest token (byte_code x) = refl
code_read text rest token (number_code ds digits some small) = number_code_read ds rest digits some small
code_read text rest token (print_code text' {form} is_directive) = directive_code_read text' rest form is_directive

-- ---- what is read is a code's text

-- the text after a first byte begins with the rest of a code's text
abbrev Found : ℕ → List ℕ → Token × List ℕ → Type 0
Found x xs found = (front : List ℕ) × (xs ≡ front ++ found.1) × IsCode (x ∷ front) found.0

parameter_so : (xs : List ℕ) (found : Token × List ℕ) → parameter_after xs ≡ Some found → Found 112 xs found
unfolding parameter_after
parameter_so [] found h = absurd (cc)
parameter_so (x ∷ xs) found h = let (place, named, is) = mapped _ _ found h in subst (Found 112 (x ∷ xs)) is (x ∷ [], refl, parameter_code x named)

store_so : (xs : List ℕ) (found : Token × List ℕ) → store_after xs ≡ Some found → Found 80 xs found
unfolding store_after
store_so [] found h = absurd (cc)
store_so (x ∷ xs) found h = let (place, named, is) = mapped _ _ found h in subst (Found 80 (x ∷ xs)) is (x ∷ [], refl, store_code x named)

fetch_so : (xs : List ℕ) (found : Token × List ℕ) → fetch_after xs ≡ Some found → Found 103 xs found
unfolding fetch_after
fetch_so [] found h = absurd (cc)
fetch_so (x ∷ xs) found h = let (place, named, is) = mapped _ _ found h in subst (Found 103 (x ∷ xs)) is (x ∷ [], refl, fetch_code x named)

byte_so : (xs : List ℕ) (found : Token × List ℕ) → byte_after xs ≡ Some found → Found 39 xs found
unfolding byte_after
byte_so [] found h = absurd (cc)
byte_so (x ∷ []) found h = absurd (cc)
byte_so (x ∷ (y ∷ rest)) found h =
    elim (chosen (y == 39) _ _ _ h) [
      | inl (quote, is) ↦
          let same : ◌≡◌ {A = Token × List ℕ} (Operation (Constant (pos x)), rest) found = cc is in
          subst (Found 39 (x ∷ (y ∷ rest))) same (x ∷ (39 ∷ []), ap (λ q. x ∷ (q ∷ rest)) ((Decides-eqb y 39).0 quote), byte_code x)
      | inr (other, is) ↦ absurd (cc is)
    ]

constant_so : (ds after : List ℕ) (found : Token × List ℕ) → AllAre is_decimal_digit ds → constant_before ds after ≡ Some found → Found 123 (ds ++ after) found
unfolding constant_before
constant_so ds [] found digits h = absurd (cc)
constant_so ds (x ∷ rest) found digits h =
    elim (chosen ((x == 125 && nat_lt 0 (length ds)) && nat_le (decimal_value ds) 2147483647) _ _ _ h) [
      | inl (test, is) ↦
          let (brace, some, small) = braced x (length ds) (decimal_value ds) test in
          let same : ◌≡◌ {A = Token × List ℕ} (Operation (Constant (pos (decimal_value ds))), rest) found = cc is in
          subst (Found 123 (ds ++ (x ∷ rest))) same
          (ds ++ 125 ∷ [], ap (λ q. ds ++ (q ∷ rest)) brace ∙ sym (append_assoc ds (125 ∷ []) rest), number_code ds digits some small)
      | inr (other, is) ↦ absurd (cc is)
    ]

number_so : (xs : List ℕ) (found : Token × List ℕ) → number_after xs ≡ Some found → Found 123 xs found
unfolding number_after
number_so xs found h =
    subst (λ text. Found 123 text found) (sym (span-whole is_decimal_digit xs))
    (constant_so (span is_decimal_digit xs).0 (span is_decimal_digit xs).1 found (span-all is_decimal_digit xs) h)

letter_so : (x : ℕ) (xs : List ℕ) (found : Token × List ℕ) → letter_after x xs ≡ Some found → Found x xs found
unfolding letter_after
letter_so x xs found h =
    elim (chosen (x == 112) _ _ _ h) [
      | inl (at, is) ↦ back 112 at (parameter_so xs found is)
      | inr (_, h) ↦
          elim (chosen (x == 80) _ _ _ h) [
            | inl (at, is) ↦ back 80 at (store_so xs found is)
            | inr (_, h) ↦
                elim (chosen (x == 103) _ _ _ h) [
                  | inl (at, is) ↦ back 103 at (fetch_so xs found is)
                  | inr (_, h) ↦
                      elim (chosen (x == 39) _ _ _ h) [
                        | inl (at, is) ↦ back 39 at (byte_so xs found is)
                        | inr (_, h) ↦
                            elim (chosen (x == 123) _ _ _ h) [
                              | inl (at, is) ↦ back 123 at (number_so xs found is)
                              | inr (_, h) ↦
                                  let (token, row, is) = mapped _ _ found h in subst (Found x xs) is ([], refl, simple_code x row)
                            ]
                      ]
                ]
          ]
    ]
  where
    back : (y : ℕ) → (x == y) ≡ true → Found y xs found → Found x xs found
    back y at is = subst (λ z. Found z xs found) (sym ((Decides-eqb x y).0 at)) is

-- the flags of a text that begins with a `:`, and of one that does not
abbrev flags_if : Bool → ℕ → List ℕ → Flags × List ℕ
flags_if b x xs = cond b (flags_of (span (is_flag true) xs)) (flags_of (span (is_flag false) (x ∷ xs)))

flags_so : (text : List ℕ) → (fs : List ℕ) × (text ≡ fs ++ (flags_after text).1) × IsFlags fs (flags_after text).0
unfolding flags_after
flags_so [] = ([], refl, plain_flags [] tt)
flags_so (x ∷ xs) =
    elim (x == 58) as (λ b. (x == 58) ≡ b → (fs : List ℕ) × (x ∷ xs ≡ fs ++ (flags_if b x xs).1) × IsFlags fs (flags_if b x xs).0) [
      | true ↦ λ colon. (
        58 ∷ (span (is_flag true) xs).0,
        ap (λ c. c ∷ xs) ((Decides-eqb x 58).0 colon) ∙ ap (λ ys. 58 ∷ ys) (span-whole (is_flag true) xs),
        signed_flags (span (is_flag true) xs).0 (span-all (is_flag true) xs),
      )
      | false ↦ λ other. (
        (span (is_flag false) (x ∷ xs)).0,
        span-whole (is_flag false) (x ∷ xs),
        plain_flags (span (is_flag false) (x ∷ xs)).0 (span-all (is_flag false) (x ∷ xs)),
      )
    ] refl

-- at most 999, from the test
at_most : (n m : ℕ) → nat_le n m ≡ true → n ≤ m
at_most n m h = grind (arith, nat_tests)

abbrev FoundPrecision : List ℕ → Option ℕ × List ℕ → Type 0
FoundPrecision text found = (ps : List ℕ) × (text ≡ ps ++ found.1) × IsPrecision ps found.0

precision_so : (text : List ℕ) (found : Option ℕ × List ℕ) → precision_after text ≡ Some found → FoundPrecision text found
unfolding precision_after
precision_so [] found h =
    let same : ◌≡◌ {A = Option ℕ × List ℕ} (None, []) found = cc h in
    subst (FoundPrecision []) same ([], refl, without_precision)
precision_so (x ∷ xs) found h =
    elim (chosen (x == 46) _ _ _ h) [
      | inl (point, is) ↦ elim (chosen (nat_le (decimal_value (span is_decimal_digit xs).0) 999) _ _ _ is) [
        | inl (small, at) ↦
            let same : ◌≡◌ {A = Option ℕ × List ℕ} (Some (decimal_value (span is_decimal_digit xs).0), (span is_decimal_digit xs).1) found = cc at in
            subst (FoundPrecision (x ∷ xs)) same (
              46 ∷ (span is_decimal_digit xs).0,
              ap (λ c. c ∷ xs) ((Decides-eqb x 46).0 point) ∙ ap (λ ys. 46 ∷ ys) (span-whole is_decimal_digit xs),
              with_precision (span is_decimal_digit xs).0 (span-all is_decimal_digit xs) (at_most _ _ small),
            )
        | inr (large, at) ↦ absurd (cc at)
      ]
      | inr (other, is) ↦
          let same : ◌≡◌ {A = Option ℕ × List ℕ} (None, x ∷ xs) found = cc is in
          subst (FoundPrecision (x ∷ xs)) same ([], refl, without_precision)
    ]

-- what a printf form that was read is made of
record ReadForm (flags : Flags) (ds : List ℕ) (precision : Front (Option ℕ)) (found : Directive × List ℕ) : Type 0 where
  pub count : Option ℕ
  pub letter : ℕ
  pub conversion : Conversion
  pub read : precision ≡ Some (count, letter ∷ found.1)
  pub small : decimal_value ds ≤ 999
  pub row : row_for letter conversions ≡ Some conversion
  pub form : record { flags = record flags { zero = begins_zero ds }; width = decimal_value ds; precision = count; conversion = conversion } ≡ found.0

form_so : (flags : Flags) (ds : List ℕ) (precision : Front (Option ℕ)) (found : Directive × List ℕ) →
    directive_with flags ds precision ≡ Some found → ReadForm flags ds precision found
unfolding directive_with
form_so flags ds None found h = absurd (cc)
form_so flags ds (Some (count, [])) found h = absurd (cc)
form_so flags ds (Some (count, letter ∷ rest)) found h =
    elim (chosen (nat_le (decimal_value ds) 999) _ _ _ h) [
      | inl (small, is) ↦
          let (conversion, row, at) = mapped _ _ found is in
          record {
            count = count;
            letter = letter;
            conversion = conversion;
            read = ap (λ r. Some (count, letter ∷ r)) (ap (λ f. f.1) at);
            small = at_most _ _ small;
            row = row;
            form = ap (λ f. f.0) at;
          }
      | inr (large, is) ↦ absurd (cc is)
    ]

directive_so : (text : List ℕ) (found : Directive × List ℕ) → directive_after text ≡ Some found →
    (front : List ℕ) × (text ≡ front ++ found.1) × IsDirective front found.0
unfolding directive_after
directive_so text found h =
    let (fs, flags_is, is_flags) = flags_so text in
    let after : List ℕ = (flags_after text).1 in
    let ds : List ℕ = (span is_decimal_digit after).0 in
    let form : ReadForm (flags_after text).0 ds (precision_after (span is_decimal_digit after).1) found = form_so _ _ _ found h in
    let (ps, precision_is, is_precision) = precision_so (span is_decimal_digit after).1 (form.count, form.letter ∷ found.1) form.read in
    let parts : text ≡ fs ++ (ds ++ (ps ++ (form.letter ∷ found.1))) =
    flags_is ∙ ap (λ t. fs ++ t) (span-whole is_decimal_digit after) ∙ ap (λ t. fs ++ (ds ++ t)) precision_is in
    let grouped_tree : (fs ++ (ds ++ (ps ++ form.letter ∷ []))) ++ found.1 ≡ fs ++ (ds ++ (ps ++ (form.letter ∷ found.1))) = simp append_assoc in (
      fs ++ (ds ++ (ps ++ form.letter ∷ [])),
      parts ∙ sym grouped_tree,
      subst (IsDirective (fs ++ (ds ++ (ps ++ form.letter ∷ [])))) form.form
          (directive fs ds ps form.letter is_flags (span-all is_decimal_digit after) form.small is_precision form.row),
    )

abbrev FoundCode : List ℕ → Token × List ℕ → Type 0
FoundCode text found = (front : List ℕ) × (text ≡ front ++ found.1) × IsCode front found.0

code_found : (text : List ℕ) (found : Token × List ℕ) → token_after text ≡ Some found → FoundCode text found
unfolding token_after
code_found [] found h = absurd (cc)
code_found (x ∷ xs) found h =
    elim (chosen (begins_directive x) _ _ _ h) [
      | inl (begins, is) ↦
          let (form, read, at) = mapped _ _ found is in
          let (front, whole, is_directive) = directive_so (x ∷ xs) form read in
          subst (FoundCode (x ∷ xs)) at (front, whole, print_code front is_directive)
      | inr (other, is) ↦
          let (front, whole, is_code) = letter_so x xs found is in (x ∷ front, ap (λ t. x ∷ t) whole, is_code)
    ]

pub code_so : (text rest : List ℕ) (token : Token) → token_after text ≡ Some (token, rest) → (front : List ℕ) × (text ≡ front ++ rest) × IsCode front token
code_so text rest token h = code_found text (token, rest) h

pub one_code : OneCode
one_code front other rest left token t same is_code is_other =
    let read : Some (token, rest) ≡ Some (t, left) = sym (code_read front rest token is_code) ∙ ap token_after same ∙ code_read other left t is_other in
    let pair : ◌≡◌ {A = Token × List ℕ} (token, rest) (t, left) = cc read in
    (ap (λ p. p.0) pair, ap (λ p. p.1) pair)
