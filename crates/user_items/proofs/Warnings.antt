-- Where reading finds a user-defined name unknown, an item defines it.
use Rattle.std.proofs.Common.{◌≡◌, ℕ, ◌+◌, Bool, true, false, not, ◌==◌, ◌&&◌, List, [], ◌∷◌, ◌++◌, map, length, Option, Some, None, refl, sym, ap, ◌∙◌}
use Rattle.std.proofs.Common.{inl, inr, cond, append_assoc}
use Rattle.std.specs.List.{flat_map, list_all}
use Rattle.std.specs.Prelude.{codes, is_none}
use Rattle.std.specs.Str.{bytes_eq}
use Rattle.std.proofs.lemmas.Bool.{cases_Bool}
use Rattle.ti_caps.specs.Tables.{Capability, capability_named}
use Rattle.ti_source.specs.declared.code.Code.TheVariants as code
use Rattle.ti_source.specs.Folding.{PlacedByte}
use Rattle.ti_source.specs.Items.{Claim, Statement, piece_of}
use Rattle.ti_source.specs.Stating.{statement_of}
use Rattle.ti_source.specs.Reading.{ReadFault}
use Rattle.ti_source.specs.Parsing.{reading_of_text}
use Rattle.ti_source.specs.Judging.{faults_at, faults_from, header_faults}
use Rattle.ti_source.specs.Verdicts.{Verdict, accepted, accepted_odd, refused, faults_by, is_import, named_verdict, verdict_on as verdict_there, ReadClaim}
use Rattle.ti_source.specs.Verdicts.{reads_flag, reads_number, reads_text, reads_cancel}
use Rattle.ti_source.specs.inside.Header.{header_names}
use Rattle.ti_source.specs.inside.Parsing.{block_field, judged_as as judged_as_there, judged_of as judged_there}
use Rattle.ti_source.specs.Walking.{block_items}
use Rattle.ti_source.specs.inside.Verdicts.{read_claim}
use Rattle.std.specs.Prelude.{Ok, Err, nat_lt}
use Rattle.ti_text.specs.Limits.{names_max}
use Rattle.user_items.specs.Names.{is_user_defined_byte, is_user_defined_name}
use Rattle.user_items.specs.Verdicts.{defining_verdict, verdict_on}
use Rattle.user_items.specs.inside.Computed.{judged_with, judged_as, judged_of}
use Rattle.user_items.specs.Laws.{NamedPlace, is_unknown, user_warning, defines, places_at, places_from, WarningsAreOfDefiningItems}

-- ---- one statement

if_true : {X : Type 0} (b : Bool) (x y : X) → b ≡ true → cond b x y ≡ x
if_true b x y e = rw e refl

if_false : {X : Type 0} (b : Bool) (x y : X) → b ≡ false → cond b x y ≡ y
if_false b x y e = rw e refl

and_right : (a b : Bool) → (a && b) ≡ true → b ≡ true
and_right true b e = e
and_right false b e = absurd (cc)

none_is : (o : Option Capability) → is_none o ≡ true → o ≡ None
none_is None e = refl
none_is (Some c) e = absurd (cc)

no_capability : (name : List ℕ) → is_user_defined_name name ≡ true → capability_named name ≡ None
unfolding is_user_defined_name
no_capability name e =
    none_is (capability_named name)
    (and_right (not (bytes_eq name (codes "use"))) (is_none (capability_named name))
    (and_right (list_all is_user_defined_byte name) (not (bytes_eq name (codes "use")) && is_none (capability_named name))
    (and_right (not (length name == 0)) (list_all is_user_defined_byte name && (not (bytes_eq name (codes "use")) && is_none (capability_named name))) e)))

and_false : (a : Bool) → (a && false) ≡ false
and_false true = refl
and_false false = refl

abbrev pub place : ℕ → ℕ → List ℕ → List NamedPlace
place o line name = record { ordinal = o; line = line; name = name } ∷ []

-- no warning is of a name that is not user-defined
no_warning : (o line : ℕ) (name : List ℕ) (v : Verdict) → is_user_defined_name name ≡ false → flat_map user_warning (faults_by o line name v) ≡ []
no_warning o line name (accepted said) e = refl
no_warning o line name (accepted_odd said) e = refl
no_warning o line name (refused c) e = rw (e, and_false (is_unknown c)) refl

all_define : (name : List ℕ) (read : ReadClaim) → defines (defining_verdict name read) ≡ true
all_define name reads_flag = refl
all_define name (reads_number (Ok n)) = refl
all_define name (reads_number (Err cause)) = refl
all_define name (reads_text value (Ok found)) =
    elim found.1 as (λ b. defines (defining_verdict name (reads_text value (Ok (found.0, b)))) ≡ true) [ true ↦ refl | false ↦ refl ]
all_define name (reads_text value (Err cause)) = refl
all_define name reads_cancel = refl

warned : (o line : ℕ) (name : List ℕ) → is_user_defined_name name ≡ true → flat_map user_warning (faults_by o line name (refused code.UnknownCapability))
    ≡ place o line name
warned o line name u = rw u refl

pub placed : (o line : ℕ) (name : List ℕ) (read : ReadClaim) (b : Bool) → b ≡ true → place o line name
    ≡ places_at o (judged_with line name (cond b (Some (defining_verdict name read)) None))
placed o line name read true e = rw (all_define name read) refl
placed o line name read false e = absurd (cc)

not_placed : (o line : ℕ) (name : List ℕ) (read : ReadClaim) (b : Bool) → b ≡ false
    → places_at o (judged_with line name (cond b (Some (defining_verdict name read)) None)) ≡ []
not_placed o line name read true e = absurd (cc)
not_placed o line name read false e = refl

named : (o line : ℕ) (name : List ℕ) (read : ReadClaim) → flat_map user_warning (faults_by o line name (named_verdict read (capability_named name)))
    ≡ places_at o (judged_with line name (cond (is_user_defined_name name) (Some (defining_verdict name read)) None))
named o line name read =
    elim (cases_Bool (is_user_defined_name name)) [
      | inl u ↦
          ap (λ c. flat_map user_warning (faults_by o line name (named_verdict read c))) (no_capability name u) ∙ warned o line name u
          ∙ placed o line name read (is_user_defined_name name) u
      | inr u ↦ no_warning o line name (named_verdict read (capability_named name)) u ∙ sym (not_placed o line name read (is_user_defined_name name) u)
    ]

one_warning : (o line : ℕ) (name : List ℕ) (claim : Claim) (read : ReadClaim)
    → flat_map user_warning (faults_by o line name (verdict_there name claim read)) ≡ places_at o (judged_with line name (verdict_on name claim read))
one_warning o line name claim read = elim (cases_Bool (is_import name claim)) [ inl h ↦ rw h refl | inr h ↦ rw h (named o line name read) ]

-- ---- all of them

stated : (o line : ℕ) (s : Option Statement) → flat_map user_warning (faults_at o (judged_as_there line s)) ≡ places_at o (judged_as line s)
stated o line None = refl
stated o line (Some s) = one_warning o line s.name s.claim (read_claim s.claim)

flat_map-append : (xs ys : List ReadFault) → flat_map user_warning (xs ++ ys) ≡ flat_map user_warning xs ++ flat_map user_warning ys
flat_map-append [] ys = refl
flat_map-append (x ∷ xs) ys =
    ap (λ zs. user_warning x ++ zs) (flat_map-append xs ys) ∙ sym (append_assoc (user_warning x) (flat_map user_warning xs) (flat_map user_warning ys))

all_warnings : (o : ℕ) (items : List (List PlacedByte)) → flat_map user_warning (faults_from o (map judged_there items)) ≡ places_from o (map judged_of items)
all_warnings o [] = refl
all_warnings o (item ∷ items) =
    flat_map-append (faults_at o (judged_there item)) (faults_from (o + 1) (map judged_there items))
    ∙ ap (λ xs. xs ++ flat_map user_warning (faults_from (o + 1) (map judged_there items))) (stated o (piece_of item).line (statement_of (piece_of item).text))
    ∙ ap (λ xs. places_at o (judged_of item) ++ xs) (all_warnings (o + 1) items)

no_header_warning : (field : List ℕ) (names : Option (List (List ℕ))) → flat_map user_warning (header_faults field names) ≡ []
no_header_warning field None = refl
no_header_warning field (Some names) =
    elim (nat_lt names_max (length field)) as (λ b. flat_map user_warning
    (cond b (record { ordinal = 0; line = 1; code = code.NamesTooLong; detail = None } ∷ []) []) ≡ []) [ true ↦ refl | false ↦ refl ]

pub warnings : WarningsAreOfDefiningItems
unfolding reading_of_text
warnings block =
    let field = block_field block in
    let header = header_faults field (header_names field) in
    let rest = faults_from 0 (map judged_there (block_items block)) in
    flat_map-append header rest ∙ ap (λ xs. xs ++ flat_map user_warning rest) (no_header_warning field (header_names field))
    ∙ all_warnings 0 (block_items block)
