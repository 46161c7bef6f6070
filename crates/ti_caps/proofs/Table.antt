-- The table by name holds each capability once, with its name.
use Rattle.std.proofs.Common.{◌≡◌, ◌≢◌, ℕ, zero, suc, ◌+◌, ◌<◌, Bool, inl, inr, true, false, ◌&&◌, nat_lt, nat_eq, List, [], ◌∷◌, length, get_or, refl, sym}
use Rattle.std.proofs.Common.{◌∙◌, ap, subst, arith, bytes_eq, ltb-true, eqb-true, add-zero, zero-add}
use Rattle.std.specs.List.{list_all, Contains}
use Rattle.std.proofs.lemmas.Bool.{and_parts, cases_lt}
use Rattle.std.proofs.lemmas.List.Sums.{AllPass-from_list_all}
use Rattle.std.proofs.lemmas.List.Elements.{All-contains, at_from_Contains}
use Rattle.std.proofs.lemmas.Slice.Eq.{bytes_eq-Decides}
use Rattle.ti_caps.specs.declared.capability.Kind.{Kind}
use Rattle.ti_caps.specs.declared.capability.Kind.TheVariants.{Flag, Number, Text}
use Rattle.ti_caps.specs.Tables.{same_kind, Capability, IsCapability, capability, count_of, name_of, names, CapabilityNamesAreDistinct}
use Rattle.ti_caps.specs.Names.{flag_names, number_names, text_names}
use Rattle.ti_caps.specs.inside.Lookup.{NameRow, by_name}
use Rattle.ti_caps.specs.inside.Lookup.{IsInNameOrder, IsTableRow, HasNoRow}
use Rattle.ti_caps.proofs.Same.{same_kind-true}
use Rattle.ti_caps.proofs.Order.{order_from_rising, names_apart}

-- each list is as long as its count
pub length-names : (k : Kind) → length (names k) ≡ count_of k
unfolding names flag_names number_names text_names
length-names Flag = refl
length-names Number = refl
length-names Text = refl

-- the names rise
pub in_name_order : IsInNameOrder by_name
unfolding by_name names flag_names number_names text_names
in_name_order = order_from_rising _ _ refl

-- each row is that of a capability
abbrev row_is_right : NameRow → Bool
row_is_right r = nat_lt r.2 (count_of r.1) && bytes_eq (get_or (names r.1) r.2 []) r.0

rows_are_right : list_all row_is_right by_name ≡ true
unfolding by_name names flag_names number_names text_names
rows_are_right = refl

-- each capability has a row
abbrev has_row : Kind → ℕ → List NameRow → Bool
has_row k i [] = false
has_row k i (r ∷ rs) = elim (same_kind r.1 k && nat_eq r.2 i) [ true ↦ true | false ↦ has_row k i rs ]

abbrev covered : Kind → ℕ → List (List ℕ) → Bool
covered k i [] = true
covered k i (n ∷ ns) = has_row k i by_name && covered k (i + 1) ns

all_covered : (k : Kind) → covered k 0 (names k) ≡ true
unfolding by_name names flag_names number_names text_names
all_covered Flag = refl
all_covered Number = refl
all_covered Text = refl

-- the row of a capability, if the table holds one; and what each row says
pub row_names : (r : NameRow) → Contains by_name r → (r.2 < count_of r.1) × (name_of (capability r.1 r.2) ≡ r.0)
row_names r among =
    let parts = and_parts _ _ (All-contains (λ q. row_is_right q ≡ true) by_name r (AllPass-from_list_all row_is_right by_name rows_are_right) among) in
    (ltb-true _ _ parts.0, (bytes_eq-Decides _ _).0 parts.1)

pub Contains-cons : {X : Type 0} (y : X) (xs : List X) (x : X) → Contains xs x → Contains (y ∷ xs) x
Contains-cons y xs x (j, l, e) = (suc j, omega arith, e)

row_cases : (k : Kind) (i : ℕ) (r : NameRow) (rs : List NameRow) (b : Bool) → (same_kind r.1 k && nat_eq r.2 i) ≡ b
    → (has_row k i rs ≡ true → (n : List ℕ) × Contains rs (n, k, i)) → elim b [ true ↦ true | false ↦ has_row k i rs ] ≡ true → (n : List ℕ)
    × Contains (r ∷ rs) (n, k, i)
row_cases k i r rs true e rest h =
    let parts = and_parts _ _ e in
    let with_kind : Kind → NameRow = λ m. (r.0, m, r.2) in
    let with_index : ℕ → NameRow = λ m. (r.0, k, m) in
    (r.0, (0, omega arith, ap with_kind (same_kind-true r.1 k parts.0) ∙ ap with_index (eqb-true r.2 i parts.1)))
row_cases k i r rs false e rest h = let there = rest h in (there.0, Contains-cons r rs _ there.1)

row_from_test : (k : Kind) (i : ℕ) (rs : List NameRow) → has_row k i rs ≡ true → (n : List ℕ) × Contains rs (n, k, i)
row_from_test k i [] h = cc
row_from_test k i (r ∷ rs) h = row_cases k i r rs (same_kind r.1 k && nat_eq r.2 i) refl (λ g. row_from_test k i rs g) h

covered_at : (k : Kind) (i : ℕ) (ns : List (List ℕ)) → covered k i ns ≡ true → (j : ℕ) → j < length ns → has_row k (i + j) by_name ≡ true
covered_at k i [] h j l = absurd (omega arith)
covered_at k i (n ∷ ns) h zero l = rw add-zero (and_parts _ _ h).0
covered_at k i (n ∷ ns) h (suc j) l =
    let further : i + 1 + j ≡ i + suc j = omega arith in
    subst (λ m. has_row k m by_name ≡ true) further (covered_at k (i + 1) ns (and_parts _ _ h).1 j (omega arith))

-- each capability has a row, with its name
pub row_of_capability : (c : Capability) → IsCapability c → IsTableRow by_name (name_of c) c.kind c.index
row_of_capability c within =
    let test = covered_at c.kind 0 (names c.kind) (all_covered c.kind) c.index (rw length-names within) in
    let (n, among) = row_from_test c.kind c.index by_name (subst (λ m. has_row c.kind m by_name ≡ true) (zero-add c.index) test) in
    let same : name_of c ≡ n = (row_names (n, c.kind, c.index) among).1 in
    subst (λ m. Contains by_name (m, c.kind, c.index)) (sym same) among

pub no_name_from_no_row : (x : List ℕ) → HasNoRow by_name x → (c : Capability) → IsCapability c → name_of c ≢ x
no_name_from_no_row x none c within = All-contains (λ r. r.0 ≢ x) by_name (name_of c, c.kind, c.index) none (row_of_capability c within)

-- no two capabilities have the same name
pub distinct_names : CapabilityNamesAreDistinct
distinct_names c d here there same =
    let (p, low, at_p) = at_from_Contains by_name _ (row_of_capability c here) in
    let (q, high, at_q) = at_from_Contains by_name _ (row_of_capability d there) in
    let row : NameRow = (name_of c, c.kind, c.index) in
    let name : NameRow → List ℕ = λ r. r.0 in
    let cap : NameRow → Capability = λ r. capability r.1 r.2 in
    let one_name : (get_or by_name p row).0 ≡ (get_or by_name q row).0 = ap name (at_p row) ∙ same ∙ sym (ap name (at_q row)) in
    elim (cases_lt p q) [
      | inl below ↦ absurd (names_apart by_name in_name_order p q row below high one_name)
      | inr not_below ↦ elim (cases_lt q p) [
        | inl above ↦ absurd (names_apart by_name in_name_order q p row above low (sym one_name))
        | inr not_above ↦ let one_place : p ≡ q = omega arith in ap cap (sym (at_p row) ∙ ap (λ i. get_or by_name i row) one_place ∙ at_q row)
      ]
    ]
