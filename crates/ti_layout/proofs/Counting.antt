-- The numbers of a header, as the writer's walk counts them.
use Rattle.std.proofs.Common.{◌≡◌, ℕ, suc, ◌+◌, ◌-◌, ◌^◌, ◌<◌, ◌≤◌, min, true, false, cond, List, [], ◌∷◌, ◌++◌, length, get_or, Option, Some, None, refl}
use Rattle.std.proofs.Common.{sym, ap, ◌∙◌, subst, arith, inl, inr, length-append}
use Rattle.std.proofs.lemmas.Bool.{cases_lt}
use Rattle.std.proofs.lemmas.List.{get_or_default, length-map}
use Rattle.ti_caps.specs.Tables.{Capability, IsCapability, capability}
use Rattle.ti_caps.specs.declared.capability.Kind.{Kind}
use Rattle.ti_caps.specs.declared.capability.Kind.TheVariants.{Flag, Number, Text}
use Rattle.ti_layout.specs.declared.layout.Format.{Format}
use Rattle.ti_layout.specs.declared.layout.Format.TheVariants.{Legacy, Extended}
use Rattle.ti_layout.specs.declared.header.Header.{Header}
use Rattle.ti_layout.specs.declared.values.Value.{Value}
use Rattle.ti_layout.specs.declared.values.Value.TheVariants.{True, Cancelled}
use Rattle.ti_layout.specs.declared.values.Value.TheVariants as v
use Rattle.ti_layout.specs.Values.{Content, content_true, content_number, content_text, content_cancelled, Mention, IsSorted, contents, content_of, entries_of}
use Rattle.ti_layout.specs.Image.{is_wide, format_of, of_kind, texts_below}
use Rattle.ti_layout.specs.Sizes.{HasSizesIn, at_most_max}
use Rattle.ti_layout.proofs.Below.{some_below-true, some_below-false}
use Rattle.ti_layout.proofs.Texts.{texts-none}
use Rattle.ti_layout.proofs.Walked.{Walked, is_of, stands, contents_read, kind_at, walked-start, walked-end, next_text, item_read}
use Rattle.ti_layout.proofs.WrittenSections.{passed, stepped, all_past}

-- ---- the format

-- no number over the greatest of the legacy format so far
pub record AreNarrow (es : List Mention) (k : ℕ) : Type 0 where
  pub each : (j : ℕ) (e : Mention) → j < k → j < length es → is_wide (Some (get_or es j e).1) ≡ false

pub narrow_none : (es : List Mention) → AreNarrow es 0
narrow_none es = record { each = λ j e lt in_range. absurd (omega (arith, lt)) }

wide_is_number : (c : Content) → is_wide (Some c) ≡ true → is_of Number c ≡ true
wide_is_number content_true e = absurd cc
wide_is_number (content_number n) e = refl
wide_is_number (content_text t) e = absurd cc
wide_is_number content_cancelled e = absurd cc

module _ (xs : List (Capability × Value)) (sorted : IsSorted (entries_of xs)) where
  module _ (k : ℕ) (x : Capability × Value) (within : k < length xs) (item : x ≡ get_or xs k x) where
    entry_here : (e : Mention) → get_or (entries_of xs) k e ≡ (x.0, content_of x.1)
    entry_here e = get_or_default (entries_of xs) k e (x.0, content_of x.1) (rw length-map within) ∙ item_read xs k x within item

    pub narrow_more : is_wide (Some (content_of x.1)) ≡ false → AreNarrow (entries_of xs) k → AreNarrow (entries_of xs) (k + 1)
    narrow_more narrow are = record {
      each = λ j e lt in_range. elim (cases_lt j k) [
        | inl under ↦ are.each j e under in_range
        | inr at ↦
            let same : j ≡ k = omega arith in
            ap (λ (i : ℕ). is_wide (Some (get_or (entries_of xs) i e).1)) same ∙ ap (λ (y : Mention). is_wide (Some y.1)) (entry_here e) ∙ narrow
      ];
    }

    pub extended_wanted : is_wide (Some (content_of x.1)) ≡ true → format_of (contents (entries_of xs)) ≡ Extended
    extended_wanted wide =
        let e : Mention = (x.0, content_of x.1) in
        let long : k < length (entries_of xs) = rw length-map within in
        let is : is_of Number (get_or (entries_of xs) k e).1 ≡ true =
        ap (λ (y : Mention). is_of Number y.1) (entry_here e) ∙ wide_is_number (content_of x.1) wide in
        let kind : x.0.kind ≡ Number = sym (ap (λ (y : Mention). y.0.kind) (entry_here e)) ∙ kind_at (entries_of xs) sorted k e Number long is in
        let said : contents (entries_of xs) x.0 ≡ Some (content_of x.1) =
        ap (λ (y : Mention). contents (entries_of xs) y.0) (sym (entry_here e)) ∙ contents_read (entries_of xs) sorted k e long
        ∙ ap (λ (y : Mention). Some y.1) (entry_here e) in
        let valid : IsCapability x.0 = subst (λ (y : Mention). IsCapability y.0) (entry_here e) (sorted.agree k e long).0 in
        let fits : x.0.index < 39 = subst (λ (n : Kind). IsCapability (capability n x.0.index)) kind valid in
        let here : of_kind (contents (entries_of xs)) Number x.0.index ≡ Some (content_of x.1) =
        ap (λ (n : Kind). contents (entries_of xs) (capability n x.0.index)) (sym kind) ∙ said in
        ap (λ b. cond b Extended Legacy) (some_below-true (λ i. is_wide (of_kind (contents (entries_of xs)) Number i)) 39 x.0.index fits
        (ap is_wide here ∙ wide))

  narrow_said : AreNarrow (entries_of xs) (length xs) → (i : ℕ) (o : Option Content) → contents (entries_of xs) (capability Number i) ≡ o → is_wide o ≡ false
  narrow_said are i None said = refl
  narrow_said are i (Some c) said =
      let s = stands (entries_of xs) (capability Number i) c said in
      let e : Mention = (capability Number i, c) in
      let long : length (entries_of xs) ≡ length xs = length-map xs _ in
      let at_within = s.within in
      ap (λ y. is_wide (Some y)) (sym (s.is_content e)) ∙ are.each s.at e (omega arith) s.within

  pub legacy_wanted : (k : ℕ) → length xs ≤ k → AreNarrow (entries_of xs) k → format_of (contents (entries_of xs)) ≡ Legacy
  legacy_wanted k all are =
      let all_narrow : AreNarrow (entries_of xs) (length xs) = record { each = λ j e lt in_range. are.each j e (omega arith) in_range } in
      ap (λ b. cond b Extended Legacy) (some_below-false (λ i. is_wide (of_kind (contents (entries_of xs)) Number i)) 39
      (λ i lt. narrow_said all_narrow i (contents (entries_of xs) (capability Number i)) refl))

-- ---- the counts, and the size of the string table

pub record HasCounts (es : List Mention) (k flags numbers texts strings : ℕ) : Type 0 where
  pub flags_walked : Walked es Flag k flags
  pub numbers_walked : Walked es Number k numbers
  pub texts_walked : Walked es Text k texts
  pub strings_are : strings ≡ at_most_max (length (texts_below (contents es) texts))

-- the header so far
pub record HeaderSoFar (w : Format) (es : List Mention) (field : List ℕ) (k : ℕ) (h : Header) : Type 0 where
  pub format_is : h.format ≡ w
  pub names_are : h.names ≡ suc (length field)
  pub counts : HasCounts es k h.flags h.numbers h.texts h.strings

pub counts_begun : (es : List Mention) → HasCounts es 0 0 0 0 0
counts_begun es =
    let none : length (texts_below (contents es) 0) ≡ 0 = ap (λ (t : List ℕ). length t) (texts-none (contents es)) in
    record { flags_walked = walked-start es Flag; numbers_walked = walked-start es Number; texts_walked = walked-start es Text; strings_are = omega arith }

module _ (xs : List (Capability × Value)) (sorted : IsSorted (entries_of xs)) (k flags numbers texts strings : ℕ) (x : Capability × Value)
    (within : k < length xs) (item : x ≡ get_or xs k x)
    (has : HasCounts (entries_of xs) k flags numbers texts strings) where
  past : (kind : Kind) (places : ℕ) → Walked (entries_of xs) kind k places → is_of kind (content_of x.1) ≡ false → Walked (entries_of xs) kind (k + 1) places
  past kind places walked other = passed xs sorted k places x within item kind places walked other refl

  over : (kind : Kind) (places next index : ℕ) → Walked (entries_of xs) kind k places → is_of kind (content_of x.1) ≡ true → next ≡ index + 1
      → index ≡ x.0.index → Walked (entries_of xs) kind (k + 1) next
  over kind places next index walked is e i = stepped xs sorted k places x within item kind next index walked is e i

  module _ (next index : ℕ) (e : next ≡ index + 1) (i : index ≡ x.0.index) where
    pub flag_counted : x.1 ≡ True → HasCounts (entries_of xs) (k + 1) next numbers texts strings
    flag_counted value = record {
      flags_walked = over Flag flags next index has.flags_walked (ap (λ v. is_of Flag (content_of v)) value) e i;
      numbers_walked = past Number numbers has.numbers_walked (ap (λ v. is_of Number (content_of v)) value);
      texts_walked = past Text texts has.texts_walked (ap (λ v. is_of Text (content_of v)) value);
      strings_are = has.strings_are;
    }

    pub number_counted : (m : ℕ) → x.1 ≡ v.Number m → HasCounts (entries_of xs) (k + 1) flags next texts strings
    number_counted m value = record {
      flags_walked = past Flag flags has.flags_walked (ap (λ v. is_of Flag (content_of v)) value);
      numbers_walked = over Number numbers next index has.numbers_walked (ap (λ v. is_of Number (content_of v)) value) e i;
      texts_walked = past Text texts has.texts_walked (ap (λ v. is_of Text (content_of v)) value);
      strings_are = has.strings_are;
    }

    pub text_counted : (t : List ℕ) (size more : ℕ) → content_of x.1 ≡ content_text t → size ≡ min (strings + length t) (2 ^ 64 - 1)
        → more ≡ min (size + 1) (2 ^ 64 - 1) → HasCounts (entries_of xs) (k + 1) flags numbers next more
    text_counted t size more value a b =
        let e2 : next ≡ x.0.index + 1 = omega arith in
        let text =
        next_text (entries_of xs) sorted k texts (rw length-map within) (x.0, content_of x.1) (item_read xs k x within item) t has.texts_walked value in
        let long : length (texts_below (contents (entries_of xs)) next) ≡ length (texts_below (contents (entries_of xs)) texts) + length (t ++ 0 ∷ []) =
        ap (λ j. length (texts_below (contents (entries_of xs)) j)) e2 ∙ ap (λ (u : List ℕ). length u) text
        ∙ length-append (texts_below (contents (entries_of xs)) texts) (t ++ 0 ∷ []) in
        let nul : length (t ++ 0 ∷ []) ≡ length t + 1 = length-append t (0 ∷ []) in
        let before = has.strings_are in
        record {
          flags_walked = past Flag flags has.flags_walked (ap (is_of Flag) value);
          numbers_walked = past Number numbers has.numbers_walked (ap (is_of Number) value);
          texts_walked = over Text texts next index has.texts_walked (ap (is_of Text) value) e i;
          strings_are = omega arith;
        }

  pub none_counted : x.1 ≡ Cancelled → HasCounts (entries_of xs) (k + 1) flags numbers texts strings
  none_counted value = record {
    flags_walked = past Flag flags has.flags_walked (ap (λ v. is_of Flag (content_of v)) value);
    numbers_walked = past Number numbers has.numbers_walked (ap (λ v. is_of Number (content_of v)) value);
    texts_walked = past Text texts has.texts_walked (ap (λ v. is_of Text (content_of v)) value);
    strings_are = has.strings_are;
  }

pub counted_all : (xs : List (Capability × Value)) → IsSorted (entries_of xs) → (field : List ℕ) (k : ℕ) (h : Header) → length xs ≤ k → (w : Format)
    → h.format ≡ w → h.names ≡ suc (length field)
    → HasCounts (entries_of xs) k h.flags h.numbers h.texts h.strings → HasSizesIn w field (contents (entries_of xs)) h
counted_all xs sorted field k h all w format names has =
    let es = entries_of xs in
    let end = all_past xs k all in
    let texts = walked-end es sorted Text k h.texts end has.texts_walked in
    record {
      format = format;
      names = names;
      flags = sym (walked-end es sorted Flag k h.flags end has.flags_walked);
      numbers = sym (walked-end es sorted Number k h.numbers end has.numbers_walked);
      texts = sym texts;
      strings = has.strings_are ∙ ap (λ n. at_most_max (length (texts_below (contents es) n))) (sym texts);
      flags_fit = has.flags_walked.within;
      numbers_fit = has.numbers_walked.within;
      texts_fit = has.texts_walked.within;
    }
