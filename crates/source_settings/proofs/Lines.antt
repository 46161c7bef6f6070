-- What is allowed on one line after another.
use Rattle.std.proofs.Common.{◌≡◌, ◌∙◌, ℕ, zero, suc, ◌+◌, ◌-◌, ◌<◌, ◌≤◌, ◌==◌, Bool, true, false, List, [], ◌∷◌, ◌++◌, ap, add-one, arith, drop, inl, inr, length, min, refl, sym}
use Rattle.std.specs.Prelude.{nat_le, if◌then◌else◌}
use Rattle.std.proofs.lemmas.Bool.{cases_Bool, cases_lt, false≢true, le-leb}
use Rattle.std.proofs.lemmas.Bool.Decides.{nat_tests}
use Rattle.std.proofs.lemmas.List.{drop_all}
use Rattle.ti_text.specs.Lines.{line_count}
use Rattle.ti_text.specs.WhiteSpace.{is_white_space}
use Rattle.source_places.specs.LineTexts.{line_of, until_end}
use Rattle.source_places.proofs.LineStarts.{past_lines}
use Rattle.source_settings.specs.Comments.{allowed_before, allowed_on, is_before_block, is_head}
use Rattle.source_settings.specs.inside.Latest.{codes_of, latest}
use Rattle.source_settings.specs.inside.Walking.{IsWalk}
use Rattle.source_settings.specs.declared.walking.Allowance.{Allowance}

-- a head line does not come between a comment and a block
pub head_is_not_before : (line : List ℕ) → is_head line ≡ true → is_before_block line ≡ false
head_is_not_before [] head = absurd (false≢true head)
head_is_not_before (byte ∷ line) head = elim (cases_Bool (is_white_space byte)) [
  | inl white ↦ absurd (false≢true (rw white at head))
  | inr other ↦ elim (cases_Bool (byte == 35)) [
    | inl sign ↦ absurd (false≢true (rw (other, sign) at head))
    | inr plain ↦ rw (other, plain) refl
  ]
]

on-head : (text : List ℕ) (number : ℕ) → is_head (line_of text number) ≡ true → allowed_on text number ≡ allowed_before text number
on-head text zero head = refl
on-head text (suc number) head = rw head refl

less_one : (n : ℕ) → n + 1 - 1 ≡ n
less_one n = omega arith

-- no line more is before a block that begins
before-head : (text : List ℕ) (number : ℕ) → is_head (line_of text number) ≡ true → [] ≡ allowed_before text (number + 1)
before-head text number head =
    let step : allowed_before text (suc number) ≡ [] = rw (head_is_not_before (line_of text number) head) refl in
    sym (ap (allowed_before text) (add-one number) ∙ step)

latest-pushed : (all : List Allowance) (found : List (List ℕ)) (allowance : Allowance) (line : ℕ) → allowance.line ≤ line
    → latest found (all ++ allowance ∷ []) line ≡ codes_of allowance
latest-pushed [] found allowance line from = rw (le-leb allowance.line line from) refl
latest-pushed (one ∷ all) found allowance line from =
    latest-pushed all (if nat_le one.line line then codes_of one else found) allowance line from

latest-before : (all : List Allowance) (found : List (List ℕ)) (allowance : Allowance) (line : ℕ) → nat_le allowance.line line ≡ false
    → latest found (all ++ allowance ∷ []) line ≡ latest found all line
latest-before [] found allowance line later = rw later refl
latest-before (one ∷ all) found allowance line later =
    latest-before all (if nat_le one.line line then codes_of one else found) allowance line later

-- the last line before that of the number is the first of two after it
upper : (number line : ℕ) → number ≤ line → min line number ≡ number
upper number line from = omega (arith, from)

lower : (number line : ℕ) → line < number → min line (number - 1) ≡ min line number
lower number line before = omega (arith, before)

not_from : (number line : ℕ) → line < number → nat_le number line ≡ false
not_from number line before = grind (arith, nat_tests, before)

-- the codes right before a head line are allowed from it on
head-allowed : (text : List ℕ) (number : ℕ) (all : List Allowance) (allowance : Allowance) → is_head (line_of text number) ≡ true
    → allowance.line ≡ number → codes_of allowance ≡ allowed_before text number
    → ((line : ℕ) → latest [] all line ≡ allowed_on text (min line (number - 1)))
    → (line : ℕ) → latest [] (all ++ allowance ∷ []) line ≡ allowed_on text (min line number)
head-allowed text number all allowance head at codes before line =
    elim (cases_lt line number) [
      | inl earlier ↦
          latest-before all [] allowance line (rw at (not_from number line earlier)) ∙ before line ∙ ap (allowed_on text) (lower number line earlier)
      | inr later ↦
          latest-pushed all [] allowance line (omega (arith, at, later)) ∙ codes ∙ sym (on-head text number head)
          ∙ sym (ap (allowed_on text) (upper number line later))
    ]

-- if none is allowed on the line before and right before a head line, none is from it on
quiet-allowed : (text : List ℕ) (number : ℕ) (all : List Allowance) → is_head (line_of text number) ≡ true
    → allowed_before text number ≡ [] → allowed_on text (number - 1) ≡ []
    → ((line : ℕ) → latest [] all line ≡ allowed_on text (min line (number - 1)))
    → (line : ℕ) → latest [] all line ≡ allowed_on text (min line number)
quiet-allowed text number all head none quiet before line =
    elim (cases_lt line number) [
      | inl earlier ↦ before line ∙ ap (allowed_on text) (lower number line earlier)
      | inr later ↦
          before line ∙ ap (allowed_on text) (last number line later) ∙ quiet ∙ sym (on-head text number head ∙ none)
          ∙ sym (ap (allowed_on text) (upper number line later))
    ] where
      last : (number line : ℕ) → number ≤ line → min line (number - 1) ≡ number - 1
      last number line from = omega (arith, from)

-- a walk after a head line
pub after-head : (text : List ℕ) (number : ℕ) (all : List Allowance) (allowance : Allowance) (above : List (List ℕ)) (quiet empty : Bool)
    → IsWalk text number all above quiet → is_head (line_of text number) ≡ true → allowance.line ≡ number → codes_of allowance ≡ above
    → (empty ≡ true → above ≡ []) → IsWalk text (number + 1) (all ++ allowance ∷ []) [] empty
after-head text number all allowance above quiet empty walk head at codes none = record {
  allowed = λ line.
      head-allowed text number all allowance head at (codes ∙ walk.before) walk.allowed line
      ∙ ap (λ (n : ℕ). allowed_on text (min line n)) (sym (less_one number));
  before = before-head text number head;
  is_quiet = λ is. ap (allowed_on text) (less_one number) ∙ on-head text number head ∙ sym walk.before ∙ none is;
}

-- the same of one before which nothing is allowed
pub after-quiet : (text : List ℕ) (number : ℕ) (all : List Allowance) (above : List (List ℕ)) (quiet empty : Bool)
    → IsWalk text number all above quiet → is_head (line_of text number) ≡ true → quiet ≡ true → above ≡ []
    → IsWalk text (number + 1) all [] empty
after-quiet text number all above quiet empty walk head is none = record {
  allowed = λ line.
      quiet-allowed text number all head (sym walk.before ∙ none) (walk.is_quiet is) walk.allowed line
      ∙ ap (λ (n : ℕ). allowed_on text (min line n)) (sym (less_one number));
  before = before-head text number head;
  is_quiet = λ _. ap (allowed_on text) (less_one number) ∙ on-head text number head ∙ sym walk.before ∙ none;
}

-- past the lines of a text nothing begins
line-past : (text : List ℕ) (line : ℕ) → line_count text < line → line_of text line ≡ []
line-past text line past =
    ap (λ (start : ℕ). until_end (drop start text)) (past_lines text line past) ∙ ap until_end (drop_all (length text) text (omega arith))

least : (count : ℕ) → min 0 count ≡ 0
least count = omega arith

-- so what is allowed on the last line is so after it
pub on-last : (text : List ℕ) (line : ℕ) → allowed_on text (min line (line_count text)) ≡ allowed_on text line
on-last text zero = ap (allowed_on text) (least (line_count text))
on-last text (suc line) = elim (cases_lt (line_count text) (suc line)) [
  | inl past ↦
      let stays : allowed_on text (suc line) ≡ allowed_on text line = rw (line-past text (suc line) past) refl in
      ap (allowed_on text) (shorter (line_count text) line past) ∙ on-last text line ∙ sym stays
  | inr within ↦ ap (allowed_on text) (whole (line_count text) line within)
] where
  shorter : (count line : ℕ) → count < suc line → min (suc line) count ≡ min line count
  shorter count line past = omega (arith, past)

  whole : (count line : ℕ) → suc line ≤ count → min (suc line) count ≡ suc line
  whole count line within = omega (arith, within)
