-- The items and the faults that reading gives are in the order of the items, and an item with a
-- fault by itself uses no name.
use Rattle.std.proofs.Common.{◌≡◌, ℕ, ◌+◌, ◌<◌, ◌≤◌, ◌⊎◌, inl, inr, Bool, true, false, ◌&&◌, ◌||◌, nat_eq, nat_lt, cond, List, [], ◌∷◌, ◌++◌, length, map}
use Rattle.std.proofs.Common.{filter, Option, Some, None, Ok, Err, Result, is_some, refl, sym, ◌∙◌, ap, arith}
use Rattle.std.specs.Option.{option_to_list}
use Rattle.std.proofs.lemmas.Bool.{false≢true, and_right, and_left, or_from, cases_eq, ne_eqb, or_cases}
use Rattle.std.proofs.lemmas.List.Elements.{filter-append}
use Rattle.ti_caps.specs.Tables.{Capability, capability_named}
use Rattle.ti_caps.specs.declared.capability.Kind.{Kind}
use Rattle.ti_caps.specs.declared.capability.Kind.TheVariants.{Flag, Number, Text}
use Rattle.ti_source.specs.declared.code.Code.{Code}
use Rattle.ti_source.specs.declared.code.Code.TheVariants as code
use Rattle.ti_spelling.specs.declared.numbers.NumberError.{NumberError}
use Rattle.ti_spelling.specs.declared.numbers.NumberError.TheVariants.{Bad, TooLarge}
use Rattle.ti_source.specs.Folding.{PlacedByte}
use Rattle.ti_source.specs.Items.{Claim, Statement, piece_of, without_outer_space}
use Rattle.ti_source.specs.Stating.{statement_of}
use Rattle.ti_source.specs.inside.Header.{header_names}
use Rattle.ti_source.specs.Reading.{Said, said_import, ReadItem, ReadFault}
use Rattle.ti_source.specs.Parsing.{accepted, is_import, said_by, code_by, item_fault, header_fault, reading_of_text}
use Rattle.ti_text.specs.Limits.{names_max}
use Rattle.ti_source.specs.Verdicts.{ReadClaim, reads_flag, reads_number, reads_text, reads_cancel, number_verdict, text_verdict, fitting_verdict}
use Rattle.ti_source.specs.Verdicts.{named_verdict, claimed_text}
use Rattle.ti_source.specs.inside.Verdicts.{read_claim, verdict_of}
use Rattle.ti_source.specs.Judging.{Judged, items_at, faults_at, items_from, faults_from, header_faults}
use Rattle.ti_source.specs.inside.Parsing.{judged_as, judged_of, block_field}
use Rattle.ti_source.specs.Walking.{block_items}
use Rattle.base_meaning.specs.Reaching.{used_name}
use Rattle.base_meaning.specs.Faults.{is_kept}
use Rattle.base_meaning.specs.Laws.{Climbs}
use Rattle.base_meaning.specs.ItemLaws.{has_fault, has_use, AreOrdered, ReadItemsAreOrdered}
use Rattle.base_meaning.proofs.ItemLawProofs.{any-append}

-- ---- a verdict of a capability is no use

abbrev uses_name : Option Said → Bool
uses_name None = false
uses_name (Some said) = is_some (used_name said)

number_no_use : (c : Capability) (r : Result ℕ NumberError) → uses_name (said_by (number_verdict c r)) ≡ false
number_no_use c (Ok n) = refl
number_no_use c (Err Bad) = refl
number_no_use c (Err TooLarge) = refl

odd_no_use : (c : Capability) (text : List ℕ) (odd : Bool) → uses_name (said_by (text_verdict c (Ok (text, odd)))) ≡ false
odd_no_use c text true = refl
odd_no_use c text false = refl

fitting_no_use : (c : Capability) (claim : ReadClaim) (k : Kind) → uses_name (said_by (fitting_verdict c claim k)) ≡ false
fitting_no_use c reads_flag Flag = refl
fitting_no_use c reads_flag Number = refl
fitting_no_use c reads_flag Text = refl
fitting_no_use c (reads_number read) Flag = refl
fitting_no_use c (reads_number read) Number = number_no_use c read
fitting_no_use c (reads_number read) Text = refl
fitting_no_use c (reads_text value found) Flag = refl
fitting_no_use c (reads_text value found) Number = refl
fitting_no_use c (reads_text value found) Text =
    elim found as (λ r. uses_name (said_by (text_verdict c r)) ≡ false) [ Ok text ↦ odd_no_use c text.0 text.1 | Err cause ↦ refl ]
fitting_no_use c reads_cancel k = refl

named_no_use : (claim : ReadClaim) (o : Option Capability) → uses_name (said_by (named_verdict claim o)) ≡ false
named_no_use claim None = refl
named_no_use claim (Some c) = fitting_no_use c claim c.kind

-- a verdict has no fault or accepts no use
apart_verdict : (v : Bool) (claim : Claim) (read : ReadClaim) (o : Option Capability)
    → (code_by (cond v (accepted (said_import (without_outer_space (claimed_text claim)))) (named_verdict read o)) ≡ None)
    ⊎ (uses_name (said_by (cond v (accepted (said_import (without_outer_space (claimed_text claim)))) (named_verdict read o))) ≡ false)
apart_verdict true claim read o = inl refl
apart_verdict false claim read o = inr (named_no_use read o)

-- ---- what one item gives

items_apart : (o k line : ℕ) (x : Option Said) → uses_name x ≡ false
    → has_use o (map (λ said. record { ordinal = k; line = line; said = said }) (option_to_list x)) ≡ false
items_apart o k line None e = refl
items_apart o k line (Some s) e = or_from (nat_eq k o && is_some (used_name s)) false (and_right (nat_eq k o) (is_some (used_name s)) e) refl

other_items : (o k line : ℕ) (x : Option Said) → nat_eq k o ≡ false
    → has_use o (map (λ said. record { ordinal = k; line = line; said = said }) (option_to_list x)) ≡ false
other_items o k line None e = refl
other_items o k line (Some s) e = or_from (nat_eq k o && is_some (used_name s)) false (and_left (nat_eq k o) (is_some (used_name s)) e) refl

other_faults : (o k line : ℕ) (name : List ℕ) (x : Option Code) → nat_eq k o ≡ false → has_fault o (map (item_fault k line name) (option_to_list x)) ≡ false
other_faults o k line name None e = refl
other_faults o k line name (Some c) e = or_from (nat_eq k o) false e refl

other_items_at : (o k : ℕ) (j : Option Judged) → nat_eq k o ≡ false → has_use o (items_at k j) ≡ false
other_items_at o k None e = refl
other_items_at o k (Some j) e = other_items o k j.line (said_by j.verdict) e

other_faults_at : (o k : ℕ) (j : Option Judged) → nat_eq k o ≡ false → has_fault o (faults_at k j) ≡ false
other_faults_at o k None e = refl
other_faults_at o k (Some j) e = other_faults o k j.line j.name (code_by j.verdict) e

-- one item has no fault or is no use
apart_at : (o k line : ℕ) (s : Option Statement) → (has_fault o (faults_at k (judged_as line s)) ≡ false) ⊎ (has_use o (items_at k (judged_as line s)) ≡ false)
apart_at o k line None = inl refl
apart_at o k line (Some s) =
    elim (apart_verdict (is_import s.name s.claim) s.claim (read_claim s.claim) (capability_named s.name)) [
      | inl no_fault ↦ inl (ap (λ x. has_fault o (map (item_fault k line s.name) (option_to_list x))) no_fault)
      | inr no_use ↦ inr (items_apart o k line (said_by (verdict_of s.name s.claim)) no_use)
    ]

-- ---- all items

not_both : (a b : Bool) → a ≡ false → b ≡ false → (a || b) ≡ false
not_both a b e f = or_from a b e f

later_faults : (o k : ℕ) (js : List (Option Judged)) → o < k → has_fault o (faults_from k js) ≡ false
later_faults o k [] l = refl
later_faults o k (j ∷ js) l =
    any-append (λ (f : ReadFault). nat_eq f.ordinal o) (faults_at k j) (faults_from (k + 1) js)
    ∙ not_both (has_fault o (faults_at k j)) (has_fault o (faults_from (k + 1) js)) (other_faults_at o k j (ne_eqb k o (λ e. omega arith)))
    (later_faults o (k + 1) js (omega arith))

later_items : (o k : ℕ) (js : List (Option Judged)) → o < k → has_use o (items_from k js) ≡ false
later_items o k [] l = refl
later_items o k (j ∷ js) l =
    any-append (λ (i : ReadItem). nat_eq i.ordinal o && is_some (used_name i.said)) (items_at k j) (items_from (k + 1) js)
    ∙ not_both (has_use o (items_at k j)) (has_use o (items_from (k + 1) js)) (other_items_at o k j (ne_eqb k o (λ e. omega arith)))
    (later_items o (k + 1) js (omega arith))

apart_from : (o k : ℕ) (items : List (List PlacedByte)) → has_fault o (faults_from k (map judged_of items)) ≡ true
    → has_use o (items_from k (map judged_of items)) ≡ false
apart_from o k [] t = refl
apart_from o k (i ∷ is) t =
    let j = judged_of i in
    let js = map judged_of is in
    let uses = any-append (λ (x : ReadItem). nat_eq x.ordinal o && is_some (used_name x.said)) (items_at k j) (items_from (k + 1) js) in
    let faults : (has_fault o (faults_at k j) || has_fault o (faults_from (k + 1) js)) ≡ true =
    sym (any-append (λ (f : ReadFault). nat_eq f.ordinal o) (faults_at k j) (faults_from (k + 1) js)) ∙ t in
    uses ∙ elim (cases_eq k o) [
      | inr other ↦ not_both (has_use o (items_at k j)) (has_use o (items_from (k + 1) js))
          (other_items_at o k j (ne_eqb k o other))
          (apart_from o (k + 1) is (elim (or_cases (has_fault o (faults_at k j)) (has_fault o (faults_from (k + 1) js)) faults) [
            | inl here ↦ absurd (false≢true (sym (other_faults_at o k j (ne_eqb k o other)) ∙ here))
            | inr later ↦ later
          ]))
      | inl same ↦ not_both (has_use o (items_at k j)) (has_use o (items_from (k + 1) js))
          (elim (apart_at o k (piece_of i).line (statement_of (piece_of i).text)) [
            | inr no_use ↦ no_use
            | inl no_fault ↦ elim (or_cases (has_fault o (faults_at k j)) (has_fault o (faults_from (k + 1) js)) faults) [
              | inl here ↦ absurd (false≢true (sym no_fault ∙ here))
              | inr later ↦ absurd (false≢true (sym (later_faults o (k + 1) js (omega arith)) ∙ later))
            ]
          ])
          (later_items o (k + 1) js (omega arith))
    ]

-- ---- ordinals rise

climbs-lower : (l m : ℕ) (ns : List ℕ) → l ≤ m → Climbs m ns → Climbs l ns
climbs-lower l m [] h c = tt
climbs-lower l m (n ∷ ns) h c = (let first = c.0 in omega arith, c.1)

front_faults : (k line : ℕ) (name : List ℕ) (x : Option Code) (fs : List ReadFault) → Climbs (k + 1) (map (λ (f : ReadFault). f.ordinal) fs)
    → Climbs k (map (λ (f : ReadFault). f.ordinal) (map (item_fault k line name) (option_to_list x) ++ fs))
front_faults k line name None fs c = climbs-lower k (k + 1) (map (λ (f : ReadFault). f.ordinal) fs) (omega arith) c
front_faults k line name (Some code) fs c = (omega arith, climbs-lower k (k + 1) (map (λ (f : ReadFault). f.ordinal) fs) (omega arith) c)

front_faults_at : (k : ℕ) (j : Option Judged) (fs : List ReadFault) → Climbs (k + 1) (map (λ (f : ReadFault). f.ordinal) fs)
    → Climbs k (map (λ (f : ReadFault). f.ordinal) (faults_at k j ++ fs))
front_faults_at k None fs c = climbs-lower k (k + 1) (map (λ (f : ReadFault). f.ordinal) fs) (omega arith) c
front_faults_at k (Some j) fs c = front_faults k j.line j.name (code_by j.verdict) fs c

front_items : (k line : ℕ) (x : Option Said) (is : List ReadItem) → Climbs (k + 1) (map (λ (i : ReadItem). i.ordinal) is)
    → Climbs k (map (λ (i : ReadItem). i.ordinal) (map (λ said. record { ordinal = k; line = line; said = said }) (option_to_list x) ++ is))
front_items k line None is c = climbs-lower k (k + 1) (map (λ (i : ReadItem). i.ordinal) is) (omega arith) c
front_items k line (Some said) is c = (omega arith, climbs-lower k (k + 1) (map (λ (i : ReadItem). i.ordinal) is) (omega arith) c)

front_items_at : (k : ℕ) (j : Option Judged) (is : List ReadItem) → Climbs (k + 1) (map (λ (i : ReadItem). i.ordinal) is)
    → Climbs k (map (λ (i : ReadItem). i.ordinal) (items_at k j ++ is))
front_items_at k None is c = climbs-lower k (k + 1) (map (λ (i : ReadItem). i.ordinal) is) (omega arith) c
front_items_at k (Some j) is c = front_items k j.line (said_by j.verdict) is c

faults_climb : (k : ℕ) (js : List (Option Judged)) → Climbs k (map (λ (f : ReadFault). f.ordinal) (faults_from k js))
faults_climb k [] = tt
faults_climb k (j ∷ js) = front_faults_at k j (faults_from (k + 1) js) (faults_climb (k + 1) js)

items_climb : (k : ℕ) (js : List (Option Judged)) → Climbs k (map (λ (i : ReadItem). i.ordinal) (items_from k js))
items_climb k [] = tt
items_climb k (j ∷ js) = front_items_at k j (items_from (k + 1) js) (items_climb (k + 1) js)

-- ---- without the faults of the header

no_header_fault : (field : List ℕ) (o : Option (List (List ℕ))) → filter (is_kept false) (header_faults field o) ≡ []
no_header_fault field None = refl
no_header_fault field (Some names) =
    elim (nat_lt names_max (length field)) as (λ v. filter (is_kept false) (cond v (header_fault code.NamesTooLong ∷ []) [])
    ≡ []) [ true ↦ refl | false ↦ refl ]

climbs-filter : (test : ReadFault → Bool) (k : ℕ) (fs : List ReadFault) → Climbs k (map (λ (f : ReadFault). f.ordinal) fs)
    → Climbs k (map (λ (f : ReadFault). f.ordinal) (filter test fs))
climbs-filter test k [] c = tt
climbs-filter test k (f ∷ fs) c =
    elim (test f) as (λ v. Climbs k (map (λ (g : ReadFault). g.ordinal) (cond v (f ∷ filter test fs) (filter test fs)))) [
      | true ↦ (c.0, climbs-filter test f.ordinal fs c.1)
      | false ↦ climbs-filter test k fs (climbs-lower k f.ordinal (map (λ (g : ReadFault). g.ordinal) fs) c.0 c.1)
    ]

or_true : (a b : Bool) → b ≡ true → (a || b) ≡ true
or_true true b e = refl
or_true false b e = e

or_rest : (a b c : Bool) → (a || b) ≡ true → (b ≡ true → c ≡ true) → (a || c) ≡ true
or_rest true b c e h = refl
or_rest false b c e h = h e

fault_filter : (test : ReadFault → Bool) (o : ℕ) (fs : List ReadFault) → has_fault o (filter test fs) ≡ true → has_fault o fs ≡ true
fault_filter test o [] t = t
fault_filter test o (f ∷ fs) t =
    elim (test f) as (λ v. has_fault o (cond v (f ∷ filter test fs) (filter test fs)) ≡ true → (nat_eq f.ordinal o || has_fault o fs) ≡ true) [
      | true ↦ λ e. or_rest (nat_eq f.ordinal o) (has_fault o (filter test fs)) (has_fault o fs) e (fault_filter test o fs)
      | false ↦ λ e. or_true (nat_eq f.ordinal o) (has_fault o fs) (fault_filter test o fs e)
    ] t

kept_faults : (header faults : List ReadFault) → filter (is_kept false) header ≡ [] → filter (is_kept false) (header ++ faults) ≡ filter (is_kept false) faults
kept_faults header faults e = filter-append (is_kept false) header faults ∙ ap (λ xs. xs ++ filter (is_kept false) faults) e

ordered_from : (header : List ReadFault) (items : List (List PlacedByte)) → filter (is_kept false) header ≡ []
    → AreOrdered (filter (is_kept false) (header ++ faults_from 0 (map judged_of items))) (items_from 0 (map judged_of items))
ordered_from header items none =
    let js = map judged_of items in
    let e = kept_faults header (faults_from 0 js) none in
    record {
      faults_climb = rw e (climbs-filter (is_kept false) 0 (faults_from 0 js) (faults_climb 0 js));
      items_climb = items_climb 0 js;
      apart = λ o t. apart_from o 0 items (fault_filter (is_kept false) o (faults_from 0 js) (ap (has_fault o) (sym e) ∙ t));
    }

pub ordered_items : ReadItemsAreOrdered
unfolding reading_of_text
ordered_items = λ text. ordered_from (header_faults (block_field text) (header_names (block_field text))) (block_items text)
    (no_header_fault (block_field text) (header_names (block_field text)))
