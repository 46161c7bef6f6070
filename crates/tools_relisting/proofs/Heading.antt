-- The names field of a block that has an entry can be listed, and its first name is a lookup name.
use Rattle.std.proofs.Common.{◌≡◌, ◌≢◌, ℕ, suc, ◌+◌, ◌-◌, ◌≤◌, Bool, true, false, not, ◌==◌, ◌||◌, ◌&&◌}
use Rattle.std.proofs.Common.{List, [], ◌∷◌, ◌++◌, length, take, nat_lt, Option, Some, None, refl, ap, sym, ◌∙◌, subst, inl, inr, arith}
use Rattle.std.specs.List.{list_all, list_any, All, Contains, before_first, join_with_byte, prefix_len}
use Rattle.std.proofs.lemmas.Bool.{cases_Bool, ltb-false, and_parts, and_from, or_parts, not-true, not_from_false, ne_eqb, true≢false}
use Rattle.std.proofs.lemmas.List.Elements.{All-head, All-from_get_or, All-weaker}
use Rattle.std.proofs.lemmas.List.Sums.{list_all-from_AllPass}
use Rattle.ti_text.specs.WhiteSpace.{is_white_space}
use Rattle.ti_source.specs.Cutting.{HasOneHead, OneBlock}
use Rattle.ti_source.specs.Code.{is_error}
use Rattle.ti_source.specs.Header.{IsLookupName, lookup_parts, HeaderNames, ReadsNames}
use Rattle.ti_source.specs.Folding.{PlacedByte}
use Rattle.ti_source.specs.inside.Folding.{folding_of}
use Rattle.ti_source.specs.Items.{bytes, HasNoComma, Begins, all_field, field_and_rest}
use Rattle.ti_source.specs.Reading.{ReadFault}
use Rattle.ti_source.specs.Judging.{faults_from, names_found, header_faults}
use Rattle.ti_source.specs.Parsing.{Parses, reading_of_text}
use Rattle.ti_source.proofs.FoldingLaws.{only_folded}
use Rattle.ti_text.specs.Limits.{names_max}
use Rattle.base_meaning.specs.Expansion.{is_broken}
use Rattle.ti_list.specs.Items.{IsListable}
use Rattle.ti_list.specs.RelativeSource.{first_name}
use Rattle.tools_relisting.proofs.Bytes.{uncommented, unbroken, bytes-folded}
use Rattle.tools_relisting.proofs.Cutting.{is_inline}

-- ---- no fault

abbrev has_error : List ReadFault → Bool
has_error faults = list_any (λ (fault : ReadFault). is_error fault.code) faults

no_error-front : (fs gs : List ReadFault) → has_error (fs ++ gs) ≡ false → has_error fs ≡ false
no_error-front [] gs e = refl
no_error-front (f ∷ fs) gs e =
    let parts = or_parts (is_error f.code) (has_error (fs ++ gs)) e in
    rw (parts.0) (no_error-front fs gs parts.1)

-- what is in a names field with no fault
record IsGoodHeader (field : List ℕ) (names : List (List ℕ)) : Type 0 where
  pub header : HeaderNames field names
  pub short : length field ≤ names_max

good-header : (field : List ℕ) (names : Option (List (List ℕ))) → ReadsNames field names → has_error (header_faults field names) ≡ false
    → IsGoodHeader field (names_found names)
good-header field None bad e = absurd (true≢false e)
good-header field (Some names) header e =
    elim (cases_Bool (nat_lt names_max (length field))) [
      | inl long ↦ absurd (true≢false (rw long at e))
      | inr short ↦ record { header = header; short = ltb-false names_max (length field) short }
    ]

-- ---- one line, without a comma

no_comma-bytes : (p : List PlacedByte) → HasNoComma p → list_all (λ b. not (b == 44)) (bytes p) ≡ true
no_comma-bytes [] h = refl
no_comma-bytes (x ∷ xs) h = and_from (not (x.0 == 44)) (list_all (λ b. not (b == 44)) (bytes xs)) (not_from_false (x.0 == 44) h.0) (no_comma-bytes xs h.1)

field-no_comma : (s field rest : List PlacedByte) → Begins s field rest → HasNoComma field
field-no_comma _ _ _ (all_field field none) = none
field-no_comma _ _ _ (field_and_rest field rest line none) = none

unbroken-line : (joining : Bool) (s : List ℕ) → is_inline (unbroken joining s) ≡ true
unbroken-line joining [] = refl
unbroken-line joining (x ∷ xs) =
    elim (cases_Bool (x == 10 || (joining && is_white_space x))) [
      | inl t ↦ rw t (unbroken-line true xs)
      | inr f ↦
          let parts = or_parts (x == 10) (joining && is_white_space x) f in
          rw f (and_from (not (x == 10)) (is_inline (unbroken false xs)) (not_from_false (x == 10) parts.0) (unbroken-line false xs))
    ]

front-line : (p q : List PlacedByte) → is_inline (bytes (p ++ q)) ≡ true → is_inline (bytes p) ≡ true
front-line [] q h = refl
front-line (x ∷ p) q h =
    let parts = and_parts (not (x.0 == 10)) (is_inline (bytes (p ++ q))) h in
    and_from (not (x.0 == 10)) (is_inline (bytes p)) parts.0 (front-line p q parts.1)

field-line : (s field rest : List PlacedByte) → Begins s field rest → is_inline (bytes s) ≡ true → is_inline (bytes field) ≡ true
field-line _ _ _ (all_field field none) h = h
field-line _ _ _ (field_and_rest field rest line none) h = front-line field ((44, line) ∷ rest) h

-- ---- no comment

-- the first byte of a text, or this one if it is empty
abbrev first_or : ℕ → List ℕ → ℕ
first_or d [] = d
first_or d (x ∷ xs) = x

front-first : (p q : List PlacedByte) (first : ℕ) (others : List ℕ) → bytes p ≡ first ∷ others → first_or 0 (bytes (p ++ q)) ≡ first
front-first [] q first others e = cc
front-first (x ∷ p) q first others e = ap (first_or 0) e

field-first : (s field rest : List PlacedByte) (first : ℕ) (others : List ℕ) → Begins s field rest → bytes field ≡ first ∷ others → first_or 0 (bytes s) ≡ first
field-first _ _ _ first others (all_field field none) e = ap (first_or 0) e
field-first _ _ _ first others (field_and_rest field rest line none) e = front-first field ((44, line) ∷ rest) first others e

folded-first : (text : List ℕ) → HasOneHead text → (first_or 0 (bytes (folding_of text)) == 35) ≡ false
folded-first [] head = absurd head
folded-first (x ∷ xs) head =
    let none = or_parts (is_white_space x || x == 35) (x == 10) (not-true (is_white_space x || x == 35 || x == 10) head.0) in
    let hash = (or_parts (is_white_space x) (x == 35) none.0).1 in
    rw (bytes-folded (x ∷ xs), hash, none.1) hash

pub block-listable : (text : List ℕ) → OneBlock text → Parses text (reading_of_text text) → is_broken (reading_of_text text) ≡ false
    → IsListable (reading_of_text text).field (reading_of_text text).names
block-listable text one has sound =
    let header = header_faults (bytes has.field) has.names in
    let faults : has_error (header ++ faults_from 0 has.judged) ≡ false = ap (λ r. has_error r.faults) (sym has.is) ∙ sound in
    let good = good-header (bytes has.field) has.names has.reads_names (no_error-front header (faults_from 0 has.judged) faults) in
    let folded : has.text ≡ folding_of text = only_folded text has.text has.folds in
    let line : is_inline (bytes has.text) ≡ true =
    ap (λ t. is_inline (bytes t)) folded ∙ ap is_inline (bytes-folded text) ∙ unbroken-line false (uncommented false 10 text) in
    subst (λ r. IsListable r.field r.names) (sym has.is) (record {
      header = good.header;
      short = good.short;
      no_comma = no_comma-bytes has.field (field-no_comma has.text has.field has.rest has.begins);
      inline = field-line has.text has.field has.rest has.begins line;
      plain = λ first others e.
          let same = field-first has.text has.field has.rest first others has.begins e in
          ap (λ b. b == 35) (sym same) ∙ ap (λ t. first_or 0 (bytes t) == 35) folded ∙ folded-first text one.cut.each.1;
    })

-- ---- the first name

pub one_plus : (n : ℕ) → 1 + n ≡ suc n
one_plus n = omega arith

before_first-here : (w v : List ℕ) → list_all (λ b. not (b == 124)) w ≡ true → before_first (λ b. b == 124) (w ++ 124 ∷ v) ≡ w
before_first-here [] v h = refl
before_first-here (x ∷ w) v h =
    let parts = and_parts (not (x == 124)) (list_all (λ b. not (b == 124)) w) h in
    rw (not-true (x == 124) parts.0, one_plus (prefix_len (λ b. not (b == 124)) (w ++ 124 ∷ v))) (ap (λ t. x ∷ t) (before_first-here w v parts.1))

before_first-all : (w : List ℕ) → list_all (λ b. not (b == 124)) w ≡ true → before_first (λ b. b == 124) w ≡ w
before_first-all [] h = refl
before_first-all (x ∷ w) h =
    let parts = and_parts (not (x == 124)) (list_all (λ b. not (b == 124)) w) h in
    rw (not-true (x == 124) parts.0, one_plus (prefix_len (λ b. not (b == 124)) w)) (ap (λ t. x ∷ t) (before_first-all w parts.1))

apart-all : (w : List ℕ) → ¬ Contains w 124 → list_all (λ b. not (b == 124)) w ≡ true
apart-all w none =
    let others : All (λ b. b ≢ 124) w = All-from_get_or (λ b. b ≢ 124) w 124 (λ i lt e. none (i, lt, e)) in
    list_all-from_AllPass (λ b. not (b == 124)) w (All-weaker (λ b. b ≢ 124) (λ b. not (b == 124) ≡ true)
    (λ b ne. not_from_false (b == 124) (ne_eqb b 124 ne)) w others)

-- in a field of several parts the first is a lookup name, if the lookup parts are lookup names
first-part : (field : List ℕ) (parts : List (List ℕ)) → field ≡ join_with_byte 124 parts → parts ≢ [] → All (λ part. ¬ Contains part 124) parts
    → All IsLookupName (lookup_parts parts)
    → IsLookupName (first_name field)
first-part field [] whole some apart lookup = absurd (some refl)
first-part field (p ∷ []) whole some apart lookup =
    let bare = apart-all p (All-head (λ part. ¬ Contains part 124) p [] apart) in
    subst IsLookupName (sym (ap first_name whole ∙ before_first-all p bare)) (All-head IsLookupName p [] lookup)
first-part field (p ∷ q ∷ ps) whole some apart lookup =
    let bare = apart-all p (All-head (λ part. ¬ Contains part 124) p (q ∷ ps) apart) in
    let many : length (p ∷ q ∷ ps) == 1 ≡ false = ne_eqb (length (p ∷ q ∷ ps)) 1 (λ e. omega (arith, e)) in
    let fewer : length (p ∷ q ∷ ps) - 1 ≡ suc (length ps) = omega arith in
    let first : All IsLookupName (p ∷ take (length ps) (q ∷ ps)) = rw (many, fewer) at lookup in
    subst IsLookupName (sym (ap first_name whole ∙ before_first-here p (join_with_byte 124 (q ∷ ps)) bare))
    (All-head IsLookupName p (take (length ps) (q ∷ ps)) first)

pub first-lookup : (field : List ℕ) (names : List (List ℕ)) → HeaderNames field names → IsLookupName (first_name field)
first-lookup field names h =
    first-part field h.parts h.cut.whole h.cut.some h.cut.apart (subst (λ ns. All IsLookupName ns) h.named h.lookup)
