-- The names of a names field and of a part of it.
use Rattle.std.proofs.Common.{◌≡◌, ◌≢◌, ℕ, suc, ◌+◌, ◌-◌, ◌<◌, Bool, true, false, not, ◌==◌, ◌||◌, ◌&&◌, List, [], ◌∷◌, ◌++◌, length, take}
use Rattle.std.proofs.Common.{Option, Some, None, refl, sym, ap, ◌∙◌, inl, inr, arith, length-append}
use Rattle.std.specs.List.{list_all, onto_first}
use Rattle.std.proofs.lemmas.Bool.{cases_Bool, eqb-true, ne_eqb, or_parts, true≢false}
use Rattle.std.proofs.lemmas.List.Splits.{length-slice_split, slice_split-cons_no, slice_split-cons_yes}
use Rattle.ti_source.specs.Header.{is_lookup_name, lookup_parts}
use Rattle.ti_source.specs.inside.Header.{header_names, header_parts, is_header}
use Rattle.everyday_names.specs.Fields.{has}
use Rattle.everyday_names.proofs.FieldLemmas.{has-append}

-- ---- the parts of names and a description

some-part : (s : List ℕ) → (part : List ℕ) × (parts : List (List ℕ)) × (header_parts s ≡ part ∷ parts)
some-part s = by (header_parts s) refl
  where
    by : (ps : List (List ℕ)) → header_parts s ≡ ps → (part : List ℕ) × (parts : List (List ℕ)) × (header_parts s ≡ part ∷ parts)
    by [] e = absurd (omega (arith, length-slice_split (λ b. b == 124) s, ap length e))
    by (part ∷ parts) e = (part, parts, e)

onto-end : (x : ℕ) (parts : List (List ℕ)) (d part : List ℕ) (others : List (List ℕ)) → parts ≡ part ∷ others
    → onto_first x (parts ++ d ∷ []) ≡ onto_first x parts ++ d ∷ []
onto-end x parts d part others e = rw e refl

alone : (d : List ℕ) → has 124 d ≡ false → header_parts d ≡ d ∷ []
alone [] e = refl
alone (x ∷ xs) e =
    let parts = or_parts (x == 124) (has 124 xs) e in
    slice_split-cons_no (λ b. b == 124) x xs parts.0 ∙ ap (onto_first x) (alone xs parts.1)

-- the parts of names with a `|` after them, and of a description
pub described-parts : (names d : List ℕ) → has 124 d ≡ false → header_parts (names ++ 124 ∷ d) ≡ header_parts names ++ d ∷ []
described-parts [] d e = slice_split-cons_yes (λ b. b == 124) 124 d refl ∙ ap (λ (ps : List (List ℕ)). [] ∷ ps) (alone d e)
described-parts (x ∷ xs) d e =
    elim (cases_Bool (x == 124)) [
      | inl t ↦ slice_split-cons_yes (λ b. b == 124) x (xs ++ 124 ∷ d) t ∙ ap (λ (ps : List (List ℕ)). [] ∷ ps) (described-parts xs d e)
          ∙ ap (λ (ps : List (List ℕ)). ps ++ d ∷ []) (sym (slice_split-cons_yes (λ b. b == 124) x xs t))
      | inr f ↦
          let some = some-part xs in
          slice_split-cons_no (λ b. b == 124) x (xs ++ 124 ∷ d) f ∙ ap (onto_first x) (described-parts xs d e)
          ∙ onto-end x (header_parts xs) d some.0 some.1 some.2
          ∙ ap (λ (ps : List (List ℕ)). ps ++ d ∷ []) (sym (slice_split-cons_no (λ b. b == 124) x xs f))
    ]

-- the last part is the description
names-alone : (parts : List (List ℕ)) (d part : List ℕ) (others : List (List ℕ)) → parts ≡ part ∷ others → lookup_parts (parts ++ d ∷ []) ≡ parts
names-alone parts d part others e =
    let size : length (parts ++ d ∷ []) ≡ length parts + 1 = length-append parts (d ∷ []) in
    let more : 0 < length parts = omega (arith, ap length e) in
    by (length (parts ++ d ∷ []) == 1) refl
  where
    front : (ps : List (List ℕ)) → take (length (ps ++ d ∷ []) - 1) (ps ++ d ∷ []) ≡ ps
    front [] = refl
    front (p ∷ ps) = front-cons p ps (front ps)
      where
        front-cons : (p : List ℕ) (ps : List (List ℕ)) → take (length (ps ++ d ∷ []) - 1) (ps ++ d ∷ []) ≡ ps
            → take (length (p ∷ ps ++ d ∷ []) - 1) (p ∷ ps ++ d ∷ []) ≡ p ∷ ps
        front-cons p ps e =
            let n : length (p ∷ ps ++ d ∷ []) - 1 ≡ suc (length (ps ++ d ∷ []) - 1) = omega (arith, length-append ps (d ∷ [])) in
            rw n (ap (λ (qs : List (List ℕ)). p ∷ qs) e)

    by : (b : Bool) → (length (parts ++ d ∷ []) == 1) ≡ b → lookup_parts (parts ++ d ∷ []) ≡ parts
    by true t = absurd (omega (arith, eqb-true (length (parts ++ d ∷ [])) 1 t, length-append parts (d ∷ []), ap length e))
    by false f = rw f (front parts)

-- ---- the header

all-but_last : (test : List ℕ → Bool) (parts : List (List ℕ)) (d : List ℕ) → test d ≡ true → list_all test (parts ++ d ∷ []) ≡ list_all test parts
all-but_last test [] d t = rw t refl
all-but_last test (p ∷ ps) d t = ap (λ b. test p && b) (all-but_last test ps d t)

filled : (d : List ℕ) → d ≢ [] → not (length d == 0) ≡ true
filled [] n = absurd (n refl)
filled (x ∷ xs) n = rw (ne_eqb (length (x ∷ xs)) 0 (λ e. absurd (omega (arith, e)))) refl

-- whether the names are sound, with any description that is not empty and has neither a `|` nor a NUL
header-of_names : (names d : List ℕ) → has 124 d ≡ false → has 0 d ≡ false → d ≢ []
    → is_header (names ++ 124 ∷ d)
    ≡ (not (has 0 names) && list_all (λ part. not (length part == 0)) (header_parts names) && list_all is_lookup_name (header_parts names))
header-of_names names d bar nul some =
    let parts = described-parts names d bar in
    let first = some-part names in
    let test : List ℕ → Bool = λ part. not (length part == 0) in
    let looked : lookup_parts (header_parts (names ++ 124 ∷ d)) ≡ header_parts names =
    ap lookup_parts parts ∙ names-alone (header_parts names) d first.0 first.1 first.2 in
    let nuls : has 0 (names ++ 124 ∷ d) ≡ has 0 names = has-append 0 names (124 ∷ d) ∙ rest (has 0 names) in
    ap (λ b. not b && list_all test (header_parts (names ++ 124 ∷ d)) && list_all is_lookup_name (lookup_parts (header_parts (names ++ 124 ∷ d)))) nuls
    ∙ ap (λ ps. not (has 0 names) && list_all test ps && list_all is_lookup_name (lookup_parts (header_parts (names ++ 124 ∷ d)))) parts
    ∙ ap (λ b. not (has 0 names) && b && list_all is_lookup_name (lookup_parts (header_parts (names ++ 124 ∷ d))))
    (all-but_last test (header_parts names) d (filled d some))
    ∙ ap (λ ps. not (has 0 names) && list_all test (header_parts names) && list_all is_lookup_name ps) looked
  where
    rest : (b : Bool) → (b || has 0 (124 ∷ d)) ≡ b
    rest true = refl
    rest false = nul

-- the lookup names of a field, by what a test of it says
names-by : (field : List ℕ) (b : Bool) (names : List (List ℕ)) → is_header field ≡ b → lookup_parts (header_parts field) ≡ names
    → header_names field ≡ (elim b [ true ↦ Some names | false ↦ None ])
names-by field true names e f = rw e (ap (λ (ns : List (List ℕ)). Some ns) f)
names-by field false names e f = rw e refl

pub record AreNamesOf (names : List ℕ) (found : Option (List (List ℕ))) : Type 0 where
  pub is : (d : List ℕ) → has 124 d ≡ false → has 0 d ≡ false → d ≢ [] → header_names (names ++ 124 ∷ d) ≡ found
  pub some : found ≢ Some []

-- the lookup names with a description are the same with another
pub names-with : (names : List ℕ) → (found : Option (List (List ℕ))) × AreNamesOf names found
names-with names =
    by (not (has 0 names) && list_all (λ part. not (length part == 0)) (header_parts names) && list_all is_lookup_name (header_parts names)) refl
  where
    looked : (d : List ℕ) → has 124 d ≡ false → lookup_parts (header_parts (names ++ 124 ∷ d)) ≡ header_parts names
    looked d bar =
        let first = some-part names in
        ap lookup_parts (described-parts names d bar) ∙ names-alone (header_parts names) d first.0 first.1 first.2

    by : (b : Bool)
        → (not (has 0 names) && list_all (λ part. not (length part == 0)) (header_parts names) && list_all is_lookup_name (header_parts names)) ≡ b
        → (found : Option (List (List ℕ))) × AreNamesOf names found
    by true e = (
      Some (header_parts names),
      record {
        is = λ d bar nul some. names-by (names ++ 124 ∷ d) true (header_parts names) (header-of_names names d bar nul some ∙ e) (looked d bar);
        some = λ h. let first = some-part names in none first.0 first.1 (sym first.2 ∙ inner h);
      },
    )
      where
        inner : Some (header_parts names) ≡ Some [] → header_parts names ≡ []
        inner h = cc

        none : (p : List ℕ) (ps : List (List ℕ)) → p ∷ ps ≡ [] → ⊥
        none p ps h = cc
    by false e = (
      None,
      record {
        is = λ d bar nul some. names-by (names ++ 124 ∷ d) false (header_parts names) (header-of_names names d bar nul some ∙ e) (looked d bar);
        some = λ h. cc;
      },
    )

-- ---- the last bar

pub record LastBar (s : List ℕ) : Type 0 where
  pub names : List ℕ
  pub description : List ℕ
  pub whole : s ≡ names ++ 124 ∷ description
  pub no_bar : has 124 description ≡ false

pub last-bar : (s : List ℕ) → has 124 s ≡ true → LastBar s
last-bar [] e = absurd (true≢false (sym e))
last-bar (x ∷ xs) e =
    elim (cases_Bool (has 124 xs)) [
      | inl t ↦
          let later = last-bar xs t in
          record {
            names = x ∷ later.names;
            description = later.description;
            whole = ap (λ (s : List ℕ). x ∷ s) later.whole;
            no_bar = later.no_bar;
          }
      | inr f ↦ record {
        names = [];
        description = xs;
        whole = ap (λ (y : ℕ). y ∷ xs) (eqb-true x 124 (here (x == 124) (rw f at e)));
        no_bar = f;
      }
    ]
  where
    here : (b : Bool) → (b || false) ≡ true → b ≡ true
    here true h = refl
    here false h = h
