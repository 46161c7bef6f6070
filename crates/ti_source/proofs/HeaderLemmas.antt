-- The parts of a names field, and what the tests of a header say.
use Rattle.std.proofs.Common.{◌≡◌, ◌≢◌, ℕ, zero, suc, ◌+◌, ◌-◌, ◌<◌, ◌≤◌, Bool, true, false, not, ◌==◌, nat_le, List, [], ◌∷◌, ◌++◌, length, take, drop}
use Rattle.std.proofs.Common.{get_or, Option, Some, None, is_some, All, Any, Contains, refl, sym, ap, subst, ◌∙◌, inl, inr, arith}
use Rattle.std.specs.Bool.{Decides}
use Rattle.std.specs.List.{list_all, list_any, join_with_byte, onto_first, AllByRecursion}
use Rattle.std.proofs.lemmas.Bool.{cases_Bool, eqb-true, ne_eqb, leb-true, le-leb, and_cases, not-false, false_from_ne_true, false≢true}
use Rattle.std.proofs.lemmas.Bool.Decides.{Decides-eqb, Decides-like, Decides-not, Decides-and, Decides-or, Decides-by_and, Decides-by_or}
use Rattle.std.proofs.lemmas.List.{length_push, get_or_default, drop_more, take-append-drop, length-drop, get_or-drop}
use Rattle.std.proofs.Math.Seq.{take-append_seam}
use Rattle.std.proofs.lemmas.List.Elements.{All-from_recursion, recursion_from_All, Decides-contains}
use Rattle.std.proofs.lemmas.List.Splits.{slice_split-cons_yes, slice_split-cons_no, slice_split_none, slice_split_at, length-slice_split}
use Rattle.std.proofs.lemmas.List.Splits.{join_with_byte-slice_split}
use Rattle.std.proofs.lemmas.Slice.Eq.{bytes_eq-Decides}
use Rattle.memchr.specs.Find.{IsFirstByte, IsLastByte, is_byte}
use Rattle.ti_source.specs.Header.{IsNameByte, IsLookupName, is_name_byte, is_lookup_name, PartsOf, lookup_parts, HeaderNames, IsBadHeader, ReadsNames}
use Rattle.ti_source.specs.Header.{EachHeaderIsRead, HeadersHaveOneReading}
use Rattle.ti_source.specs.inside.Header.{header_parts, is_header, header_names, HeadersAreComputed}

-- ---- the tests
leb_decides : (a b : ℕ) → Decides (nat_le a b) (a ≤ b)
leb_decides a b = (leb-true a b, le-leb a b)

name_byte_decides : (b : ℕ) → Decides (is_name_byte b) (IsNameByte b)
name_byte_decides b =
    Decides-like (is_name_byte b)
    (λ h. (h.0.0, h.0.1, λ e. h.1 (inl (inl e)), λ e. h.1 (inl (inr e)), λ e. h.1 (inr e)))
    (λ h. ((h.0, h.1), λ o. elim o [ inl p ↦ elim p [ inl e ↦ h.2 e | inr e ↦ h.3 e ] | inr e ↦ h.4 e ]))
    (Decides-and _ _ (Decides-and _ _ (leb_decides 33 b) (leb_decides b 126))
    (Decides-not _ (Decides-or _ _ (Decides-or _ _ (Decides-eqb b 44) (Decides-eqb b 47)) (Decides-eqb b 124))))

empty_decides : {A : Type 0} (xs : List A) → Decides (length xs == 0) (xs ≡ [])
empty_decides [] = (λ _. refl, λ _. refl)
empty_decides (x ∷ xs) = (λ t. absurd (omega (arith, eqb-true (length (x ∷ xs)) 0 t)), λ e. absurd (omega (arith, ap length e)))

pub lookup_name_decides : (name : List ℕ) → Decides (is_lookup_name name) (IsLookupName name)
lookup_name_decides name =
    Decides-like (is_lookup_name name)
    (λ h. record { some = h.0.0.0; bytes = h.1; not_here = h.0.0.1; not_above = h.0.1 })
    (λ r. (((r.some, r.not_here), r.not_above), r.bytes))
    (Decides-and _ _
    (Decides-and _ _ (Decides-and _ _ (Decides-not _ (empty_decides name)) (Decides-not _ (bytes_eq-Decides name (46 ∷ []))))
    (Decides-not _ (bytes_eq-Decides name (46 ∷ 46 ∷ []))))
    (Decides-by_and is_name_byte IsNameByte (list_all is_name_byte) name_byte_decides refl (λ _ _. refl) name))

filled_decides : (parts : List (List ℕ)) → Decides (list_all (λ part. not (length part == 0)) parts) (All (λ part. part ≢ []) parts)
filled_decides parts =
    Decides-by_and (λ part. not (length part == 0)) (λ part. part ≢ []) (list_all (λ part. not (length part == 0)))
    (λ part. Decides-not _ (empty_decides part)) refl (λ _ _. refl) parts

lookup_names_decide : (names : List (List ℕ)) → Decides (list_all is_lookup_name names) (All IsLookupName names)
lookup_names_decide names =
    Decides-by_and is_lookup_name IsLookupName (list_all is_lookup_name) lookup_name_decides refl (λ _ _. refl) names

nul_decides : (field : List ℕ) → Decides (list_any (λ b. b == 0) field) (Contains field 0)
nul_decides field =
    Decides-contains field 0 _
    (Decides-by_or (λ b. b == 0) (λ b. b ≡ 0) (list_any (λ b. b == 0)) (λ b. Decides-eqb b 0) refl (λ _ _. refl) field)

pub nul_sought : (field : List ℕ) (r : Option ℕ) → IsFirstByte (is_byte 0) field r → is_some r ≡ list_any (λ b. b == 0) field
nul_sought field None none =
    sym (false_from_ne_true _ (λ t. let at = (nul_decides field).0 t in none at.0 (omega arith) at.1 ((Decides-eqb _ 0).1 at.2)))
nul_sought field (Some k) first = sym ((nul_decides field).1 (k, first.0.high, (Decides-eqb _ 0).0 first.1))

header_decides : (field : List ℕ)
    → Decides (is_header field) (((Contains field 0 → ⊥) × All (λ part. part ≢ []) (header_parts field)) × All IsLookupName (lookup_parts (header_parts field)))
header_decides field =
    Decides-and _ _ (Decides-and _ _ (Decides-not _ (nul_decides field)) (filled_decides (header_parts field)))
    (lookup_names_decide (lookup_parts (header_parts field)))

-- ---- the parts
abbrev IsApart : List ℕ → Type 0
IsApart part = Contains part 124 → ⊥

apart-nil : IsApart []
apart-nil c = absurd (omega (arith, c.1))

apart-cons : (x : ℕ) (xs : List ℕ) → x ≢ 124 → IsApart xs → IsApart (x ∷ xs)
apart-cons x xs n a (zero, h, e) = n e
apart-cons x xs n a (suc k, h, e) = a (k, omega arith, e)

apart-onto_first : (x : ℕ) (parts : List (List ℕ)) → x ≢ 124 → AllByRecursion IsApart parts → AllByRecursion IsApart (onto_first x parts)
apart-onto_first x [] n a = (apart-cons x [] n apart-nil, tt)
apart-onto_first x (p ∷ ps) n a = (apart-cons x p n a.0, a.1)

apart-parts : (s : List ℕ) → AllByRecursion IsApart (header_parts s)
apart-parts [] = (apart-nil, tt)
apart-parts (x ∷ xs) =
    elim (cases_Bool (x == 124)) [
      | inl t ↦ rw (slice_split-cons_yes (λ b. b == 124) x xs t) (apart-nil, apart-parts xs)
      | inr f ↦ rw (slice_split-cons_no (λ b. b == 124) x xs f)
          (apart-onto_first x (header_parts xs) (λ e. false≢true (sym f ∙ (Decides-eqb x 124).1 e)) (apart-parts xs))
    ]

parts_of-some : (s : List ℕ) → 0 < length (header_parts s)
parts_of-some s = omega (arith, length-slice_split (λ b. b == 124) s)

pub parts_are_parts : (field : List ℕ) → PartsOf field (header_parts field)
parts_are_parts field = record {
  whole = sym (join_with_byte-slice_split 124 field);
  some = λ e. absurd (omega (arith, parts_of-some field, ap length e));
  apart = All-from_recursion IsApart (header_parts field) (apart-parts field);
}

-- a part has no `|` in it
no_bar : (part : List ℕ) → IsApart part → All (λ x. (x == 124) ≡ false) part
no_bar part a k d h = ne_eqb (get_or part k d) 124 (λ e. a (k, h, get_or_default part k 124 d h ∙ e))

parts_of-join : (parts : List (List ℕ)) → parts ≢ [] → AllByRecursion IsApart parts → header_parts (join_with_byte 124 parts) ≡ parts
parts_of-join [] n a = absurd (n refl)
parts_of-join (p ∷ []) n a = slice_split_none (λ b. b == 124) p (no_bar p a.0)
parts_of-join (p ∷ q ∷ ps) n a =
    slice_split_at (λ b. b == 124) p 124 (join_with_byte 124 (q ∷ ps)) (no_bar p a.0) refl
    ∙ ap (λ rest. p ∷ rest) (parts_of-join (q ∷ ps) (λ e. (let clash = e in cc)) a.1)

-- a field has no other parts
parts_are_computed : (field : List ℕ) (parts : List (List ℕ)) → PartsOf field parts → header_parts field ≡ parts
parts_are_computed field parts p =
    ap header_parts p.whole ∙ parts_of-join parts p.some (recursion_from_All IsApart parts p.apart)

-- ---- the reading of a field
Any-from_false : {A : Type 0} (test : A → Bool) (P : A → Type 0) → ((x : A) → test x ≡ false → P x) → (xs : List A) → list_all test xs ≡ false → Any P xs
Any-from_false test P holds [] e = (let clash : true ≡ false = e in cc)
Any-from_false test P holds (x ∷ xs) e =
    elim (and_cases (test x) (list_all test xs) e) [
      | inl f ↦ (0, x, omega arith, refl, holds x f)
      | inr f ↦ let later = Any-from_false test P holds xs f in (suc later.0, later.1, omega (arith, later.2), later.3, later.4)
    ]

fails : {P : Type 0} (r : Bool) → Decides r P → r ≡ false → P → ⊥
fails r d f p = false≢true (sym f ∙ d.1 p)

-- what holds of all fails of none
none_of_all : {A : Type 0} (P Q : A → Type 0) → ((x : A) → P x → Q x → ⊥) → (xs : List A) → All P xs → Any Q xs → ⊥
none_of_all P Q clash xs all any = clash any.1 (subst P any.3 (all any.0 any.1 any.2)) any.4

pub each_header : (field : List ℕ) → ReadsNames field (header_names field)
each_header field =
    let parts = header_parts field in
    elim (cases_Bool (is_header field)) [
      | inl t ↦
          let h = (header_decides field).0 t in
          rw t (record { parts = parts; cut = parts_are_parts field; named = refl; filled = h.0.1; no_nul = h.0.0; lookup = h.1 })
      | inr f ↦
          rw f (record {
            parts = parts;
            cut = parts_are_parts field;
            fault = elim (and_cases _ (list_all is_lookup_name (lookup_parts parts)) f) [
              | inl g ↦ elim (and_cases (not (list_any (λ b. b == 0) field)) _ g) [
                | inl nul ↦ inr (inl ((nul_decides field).0 (not-false _ nul)))
                | inr empty ↦ inl (Any-from_false (λ part. not (length part == 0)) (λ part. part ≡ [])
                    (λ part e. (empty_decides part).0 (not-false _ e)) parts empty)
              ]
              | inr name ↦ inr (inr (Any-from_false is_lookup_name (λ n. IsLookupName n → ⊥) (λ n e. fails _ (lookup_name_decides n) e)
                  (lookup_parts parts) name))
            ];
          })
    ]

read_names : (field : List ℕ) (names : List (List ℕ)) → HeaderNames field names → header_names field ≡ Some names
read_names field names h =
    let same = parts_are_computed field h.parts h.cut in
    let good : is_header field ≡ true = (header_decides field).1
    ((h.no_nul, subst (All (λ part. part ≢ [])) (sym same) h.filled), subst (All IsLookupName) (h.named ∙ ap lookup_parts (sym same)) h.lookup) in
    rw good (ap Some (ap lookup_parts same ∙ sym h.named))

read_bad : (field : List ℕ) → IsBadHeader field → header_names field ≡ None
read_bad field b =
    let same = parts_are_computed field b.parts b.cut in
    let bad : is_header field ≡ false = false_from_ne_true (is_header field) (λ t.
    let h = (header_decides field).0 t in
    elim b.fault [
      | inl e ↦ none_of_all (λ part. part ≢ []) (λ part. part ≡ []) (λ part n e. n e) b.parts (subst (All (λ part. part ≢ [])) same h.0.1) e
      | inr o ↦ elim o [
        | inl nul ↦ h.0.0 nul
        | inr n ↦ none_of_all IsLookupName (λ n. IsLookupName n → ⊥) (λ n l r. r l) (lookup_parts b.parts)
            (subst (All IsLookupName) (ap lookup_parts same) h.1) n
      ]
    ]) in
    rw bad refl

pub one_header : (field : List ℕ) (names : Option (List (List ℕ))) → ReadsNames field names → names ≡ header_names field
one_header field None bad = sym (read_bad field bad)
one_header field (Some names) found = sym (read_names field names found)

pub headers_are_computed : HeadersAreComputed
headers_are_computed = record { reads = each_header; only = one_header }

pub each_header_is_read : EachHeaderIsRead
each_header_is_read field = (header_names field, each_header field)

pub headers_have_one_reading : HeadersHaveOneReading
headers_have_one_reading field one other p q = one_header field one p ∙ sym (one_header field other q)

-- ---- the description
onto_first-append : (x : ℕ) (ps qs : List (List ℕ)) → 0 < length ps → onto_first x (ps ++ qs) ≡ onto_first x ps ++ qs
onto_first-append x [] qs h = absurd (omega arith)
onto_first-append x (p ∷ ps) qs h = refl

parts_of-last : (a d : List ℕ) → All (λ x. (x == 124) ≡ false) d → header_parts (a ++ 124 ∷ d) ≡ header_parts a ++ d ∷ []
parts_of-last [] d n = ap (λ rest. [] ∷ rest) (slice_split_none (λ b. b == 124) d n)
parts_of-last (x ∷ a) d n =
    elim (cases_Bool (x == 124)) [
      | inl t ↦
          slice_split-cons_yes (λ b. b == 124) x (a ++ 124 ∷ d) t ∙ ap (λ rest. [] ∷ rest) (parts_of-last a d n)
          ∙ ap (λ front. front ++ d ∷ []) (sym (slice_split-cons_yes (λ b. b == 124) x a t))
      | inr f ↦
          slice_split-cons_no (λ b. b == 124) x (a ++ 124 ∷ d) f ∙ ap (onto_first x) (parts_of-last a d n)
          ∙ onto_first-append x (header_parts a) (d ∷ []) (parts_of-some a)
          ∙ ap (λ front. front ++ d ∷ []) (sym (slice_split-cons_no (λ b. b == 124) x a f))
    ]

lookup_parts-push : (ps : List (List ℕ)) (d : List ℕ) → 0 < length ps → lookup_parts (ps ++ d ∷ []) ≡ ps
lookup_parts-push ps d h =
    let more = length_push ps d in
    let many : (length (ps ++ d ∷ []) == 1) ≡ false = ne_eqb _ 1 (omega arith) in
    let count : length (ps ++ d ∷ []) - 1 ≡ length ps = omega arith in
    rw many (ap (λ n. take n (ps ++ d ∷ [])) count ∙ take-append_seam ps (d ∷ []))

-- a field up to its last `|`, and a field without one
pub described : (field : List ℕ) (k : ℕ) → IsLastByte (is_byte 124) field (Some k) → header_parts (take k field) ≡ lookup_parts (header_parts field)
described field k last =
    let front = take k field in
    let d = drop (k + 1) field in
    let bar = eqb-true (get_or field k 0) 124 last.1 in
    let cut : field ≡ front ++ 124 ∷ d =
    sym (take-append-drop k field) ∙ ap (λ r. front ++ r) (drop_more field k 0 last.0.high ∙ ap (λ b. b ∷ d) bar) in
    let none : All (λ x. (x == 124) ≡ false) d =
    λ i e h. false_from_ne_true _ (λ t. last.0.after (k + 1 + i) (omega arith) (omega (arith, length-drop (k + 1) field))
    (ap (λ b. b == 124) (sym (get_or-drop (k + 1) field i 0) ∙ get_or_default d i 0 e h) ∙ t)) in
    let parts = ap header_parts cut ∙ parts_of-last front d none in
    sym (ap lookup_parts parts ∙ lookup_parts-push (header_parts front) d (parts_of-some front))

pub undescribed : (field : List ℕ) → IsLastByte (is_byte 124) field None → header_parts field ≡ lookup_parts (header_parts field)
undescribed field none =
    let one = slice_split_none (λ b. b == 124) field
    (λ k d h. false_from_ne_true _ (λ t. none k (omega arith) h (ap (λ b. b == 124) (get_or_default field k 0 d h) ∙ t))) in
    one ∙ ap lookup_parts (sym one)
