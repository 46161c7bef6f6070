-- What it says that one of some texts has become two.
use Rattle.std.proofs.Common.{◌≡◌, ℕ, ◌==◌, ◌&&◌, true, List, [], ◌∷◌, ◌++◌, drop, length, take, Option, None, Some, inl, inr, refl, sym, ap, ◌∙◌}
use Rattle.std.specs.List.{list_all}
use Rattle.std.specs.Option.{is_some}
use Rattle.std.specs.Str.{bytes_eq}
use Rattle.std.proofs.lemmas.Bool.{and_parts, cases_Bool, eqb-true}
use Rattle.std.proofs.lemmas.List.{take-append-drop}
use Rattle.std.proofs.lemmas.Slice.Eq.{bytes_eq-Decides}
use Rattle.ti_text.specs.WhiteSpace.{is_white_space}
use Rattle.ti_caps.specs.Tables.{Capability}
use Rattle.source_block_hints.specs.Mentions.{mention_in}
use Rattle.source_fixes.specs.Parting.{IsBoth, IsGap, IsParted, is_after_bar, is_both, is_left, is_parted, is_parted_here, same_texts, without_white}

same : (xs ys : List ℕ) → bytes_eq xs ys ≡ true → xs ≡ ys
same xs ys e = (bytes_eq-Decides xs ys).0 e

texts_same : (ts bs : List (List ℕ)) → same_texts ts bs ≡ true → ts ≡ bs
texts_same [] [] e = refl
texts_same [] (b ∷ bs) e = absurd cc
texts_same (t ∷ ts) [] e = absurd cc
texts_same (t ∷ ts) (b ∷ bs) e =
    let parts = and_parts (bytes_eq t b) (same_texts ts bs) e in
    let first = same t b parts.0 in
    let rest = texts_same ts bs parts.1 in
    ap (λ (x : List ℕ). x ∷ ts) first ∙ ap (λ (l : List (List ℕ)). b ∷ l) rest

-- what is before the rest of a text
record HasGap (rest back : List ℕ) : Type 0 where
  between : List ℕ
  gap : IsGap between
  is : rest ≡ between ++ back

white_gap : (rest : List ℕ) → (white : List ℕ) × (list_all is_white_space white ≡ true) × (rest ≡ white ++ without_white rest)
white_gap [] = ([], refl, refl)
white_gap (x ∷ xs) =
    elim (cases_Bool (is_white_space x)) [
      | inl t ↦ let later = white_gap xs in (x ∷ later.0, rw t later.1, rw t (ap (λ (l : List ℕ). x ∷ l) later.2))
      | inr f ↦ ([], refl, rw f refl)
    ]

after_bar : (rest back : List ℕ) → is_after_bar rest back ≡ true → rest ≡ 124 ∷ back
after_bar [] back e = absurd cc
after_bar (x ∷ xs) back e =
    let parts = and_parts (x == 124) (bytes_eq xs back) e in
    let first = eqb-true x 124 parts.0 in
    let rest = same xs back parts.1 in
    ap (λ (y : ℕ). y ∷ xs) first ∙ ap (λ (l : List ℕ). 124 ∷ l) rest

left_gap : (rest back : List ℕ) → is_left rest back ≡ true → HasGap rest back
left_gap rest back e =
    elim (cases_Bool (bytes_eq (without_white rest) back)) [
      | inl t ↦
          let white = white_gap rest in
          record { between = white.0; gap = inl white.1; is = white.2 ∙ ap (λ (l : List ℕ). white.0 ++ l) (same (without_white rest) back t) }
      | inr f ↦ record { between = 124 ∷ []; gap = inr refl; is = after_bar rest back (rw f at e) }
    ]

there : (o : Option Capability) → is_some o ≡ true → (c : Capability) × (o ≡ Some c)
there None e = absurd cc
there (Some c) e = (c, refl)

both_is : (whole one other : List ℕ) → is_both whole one other ≡ true → IsBoth whole one other
both_is whole one other e =
    let parts = and_parts (bytes_eq (take (length one) whole) one && is_left (drop (length one) whole) other) (is_some (mention_in other)) e in
    let fits = and_parts (bytes_eq (take (length one) whole) one) (is_left (drop (length one) whole) other) parts.0 in
    let gap = left_gap (drop (length one) whole) other fits.1 in
    let says = there (mention_in other) parts.1 in
    record {
      between = gap.between;
      gap = gap.gap;
      is = sym (take-append-drop (length one) whole) ∙ ap (λ (l : List ℕ). l ++ drop (length one) whole) (same (take (length one) whole) one fits.0)
          ∙ ap (λ (l : List ℕ). one ++ l) gap.is;
      capability = says.0;
      says = says.1;
    }

parted_here : (whole : List ℕ) (wholes : List (List ℕ)) (one : List ℕ) (others : List (List ℕ)) → is_parted_here whole wholes one others ≡ true
    → IsParted (whole ∷ wholes) (one ∷ others)
parted_here whole wholes one [] e = absurd cc
parted_here whole wholes one (other ∷ others) e =
    let parts = and_parts (is_both whole one other) (same_texts wholes others) e in
    record {
      front = [];
      whole = whole;
      one = one;
      other = other;
      back = wholes;
      was = refl;
      now = ap (λ (l : List (List ℕ)). one ∷ other ∷ l) (sym (texts_same wholes others parts.1));
      both = both_is whole one other parts.0;
    }

pub parted_is : (before after : List (List ℕ)) → is_parted before after ≡ true → IsParted before after
parted_is [] after e = absurd cc
parted_is (t ∷ ts) [] e = absurd cc
parted_is (t ∷ ts) (a ∷ others) e =
    elim (cases_Bool (bytes_eq t a)) [
      | inl is ↦
          let later = parted_is ts others (rw is at e) in
          let first = same t a is in
          record {
            front = t ∷ later.front;
            whole = later.whole;
            one = later.one;
            other = later.other;
            back = later.back;
            was = ap (λ (l : List (List ℕ)). t ∷ l) later.was;
            now = ap (λ (x : List ℕ). x ∷ others) (sym first) ∙ ap (λ (l : List (List ℕ)). t ∷ l) later.now;
            both = later.both;
          }
      | inr f ↦ parted_here t ts a others (rw f at e)
    ]
