-- The capabilities of a kind by name: the tables of the code, and what the order has.
use Rattle.std.proofs.Common.{◌≡◌, ℕ, zero, suc, ◌<◌, Bool, true, false, ◌&&◌, nat_lt, List, [], ◌∷◌, map, refl, ap, ◌∙◌, subst, arith, ltb-true, slice_get}
use Rattle.std.proofs.Common.{Option, Some, None, IsSome, IfSome, ◌↔◌}
use Rattle.std.specs.Ordering.{nat_cmp}
use Rattle.std.specs.Cmp.Lexicographic.{slice_cmp}
use Rattle.std.specs.List.{list_all, Contains}
use Rattle.std.specs.List.Sorted.{IsStrictlySortedBy}
use Rattle.std.proofs.lemmas.Bool.{and_parts}
use Rattle.std.proofs.lemmas.Cmp.{nat_list_cmp_total}
use Rattle.std.proofs.lemmas.List.Sums.{AllPass-from_list_all}
use Rattle.std.proofs.lemmas.Option.{slice_get-map, slice_get_within, get_or_from_slice_get}
use Rattle.std.proofs.lemmas.Map.Keys.{sorted_from_all_adjacent}
use Rattle.ti_caps.specs.declared.capability.Kind.{Kind}
use Rattle.ti_caps.specs.declared.capability.Kind.TheVariants.{Flag, Number, Text}
use Rattle.ti_caps.specs.declared.name_order.TheConstants.{FLAGS_BY_NAME, NUMBERS_BY_NAME, TEXTS_BY_NAME}
use Rattle.ti_caps.specs.Names.{flag_names, number_names, text_names}
use Rattle.ti_caps.specs.Tables.{same_kind, Capability, IsCapability, capability, count_of, name_of, names}
use Rattle.ti_caps.specs.inside.Lookup.{NameRow, by_name}
use Rattle.ti_caps.specs.inside.NameOrder.{rows_of_kind, rows_in_order}
use Rattle.ti_caps.specs.NameOrder.{IsNameOrder, in_name_order}
use Rattle.ti_caps.proofs.Same.{same_kind-true, same_kind-itself}
use Rattle.ti_caps.proofs.NameOrder.{in_order, orders_are_one}
use Rattle.ti_caps.proofs.Order.{rising_from, adjacent_from_rising}
use Rattle.ti_caps.proofs.Table.{row_of_capability, Contains-cons}

-- the tables of the code
flag_rows : map (capability Flag) FLAGS_BY_NAME ≡ rows_in_order Flag
unfolding by_name
flag_rows = refl

number_rows : map (capability Number) NUMBERS_BY_NAME ≡ rows_in_order Number
unfolding by_name
number_rows = refl

text_rows : map (capability Text) TEXTS_BY_NAME ≡ rows_in_order Text
unfolding by_name
text_rows = refl

-- the names rise
abbrev rises : List (List ℕ) → Bool
rises [] = true
rises (x ∷ xs) = rising_from x xs

sorted_from_rises : (ns : List (List ℕ)) → rises ns ≡ true → IsStrictlySortedBy (slice_cmp nat_cmp) ns
unfolding IsStrictlySortedBy
sorted_from_rises [] h = tt
sorted_from_rises (x ∷ xs) h = sorted_from_all_adjacent nat_list_cmp_total (x ∷ xs) [] (adjacent_from_rising x xs h)

names_rise : (k : Kind) → rises (map (λ c. name_of c) (rows_in_order k)) ≡ true
unfolding by_name names flag_names number_names text_names
names_rise Flag = refl
names_rise Number = refl
names_rise Text = refl

-- each item is a capability of the kind
abbrev is_of : Kind → Capability → Bool
is_of k c = same_kind c.kind k && nat_lt c.index (count_of c.kind)

all_of : (k : Kind) → list_all (is_of k) (rows_in_order k) ≡ true
unfolding by_name
all_of Flag = refl
all_of Number = refl
all_of Text = refl

is_of-true : (k : Kind) (c : Capability) → is_of k c ≡ true → (c.kind ≡ k) × IsCapability c
is_of-true k c h = let parts = and_parts _ _ h in (same_kind-true c.kind k parts.0, ltb-true _ _ parts.1)

-- each capability of the kind is in the table
kept_by : (k : Kind) (q : NameRow) (rest : List NameRow) (r : NameRow) (b : Bool) → same_kind q.1 k ≡ b → same_kind r.1 k ≡ true → Contains (q ∷ rest) r
    → (Contains rest r → Contains (rows_of_kind k rest) (capability r.1 r.2)) → Contains (rows_of_kind k (q ∷ rest)) (capability r.1 r.2)
kept_by k q rest r true e same (zero, l, at) later = let cap : NameRow → Capability = λ (x : NameRow). capability x.1 x.2 in rw e (0, omega arith, ap cap at)
kept_by k q rest r true e same (suc i, l, at) later = rw e (Contains-cons _ _ _ (later (i, omega arith, at)))
kept_by k q rest r false e same (zero, l, at) later = let kind : NameRow → Bool = λ (x : NameRow). same_kind x.1 k in let both = ap kind at in absurd (cc)
kept_by k q rest r false e same (suc i, l, at) later = rw e (later (i, omega arith, at))

contains_kept : (k : Kind) (rows : List NameRow) (r : NameRow) → same_kind r.1 k ≡ true → Contains rows r → Contains (rows_of_kind k rows) (capability r.1 r.2)
contains_kept k [] r same (i, l, at) = absurd (omega arith)
contains_kept k (q ∷ rest) r same among = kept_by k q rest r (same_kind q.1 k) refl same among (contains_kept k rest r same)

rows_are_in_order : (k : Kind) → IsNameOrder k (rows_in_order k)
rows_are_in_order k = record {
  rises = sorted_from_rises _ (names_rise k);
  valid = let every = AllPass-from_list_all (is_of k) (rows_in_order k) (all_of k) in λ i d l. is_of-true k _ (every i d l);
  all = λ i l. contains_kept k by_name (name_of (capability k i), k, i) (same_kind-itself k) (row_of_capability (capability k i) l);
}

-- the table is the order by name
rows_are_the_order : (k : Kind) → rows_in_order k ≡ in_name_order k
rows_are_the_order k = orders_are_one k (rows_in_order k) (in_name_order k) (rows_are_in_order k) (in_order k)

pub flags_by_name : map (capability Flag) FLAGS_BY_NAME ≡ in_name_order Flag
flags_by_name = flag_rows ∙ rows_are_the_order Flag

pub numbers_by_name : map (capability Number) NUMBERS_BY_NAME ≡ in_name_order Number
numbers_by_name = number_rows ∙ rows_are_the_order Number

pub texts_by_name : map (capability Text) TEXTS_BY_NAME ≡ in_name_order Text
texts_by_name = text_rows ∙ rows_are_the_order Text

-- the capability at a place of the code's table is at that place of the order
at_place : (k : Kind) (xs : List ℕ) (place index : ℕ) → map (capability k) xs ≡ in_name_order k → slice_get xs place ≡ Some index
    → slice_get (in_name_order k) place ≡ Some (capability k index)
at_place k xs place index same at = rw (← same, slice_get-map, at)

within_count : (k : Kind) (place index : ℕ) → slice_get (in_name_order k) place ≡ Some (capability k index) → index < count_of k
within_count k place index at =
    let c : Capability = capability k index in
    let l = slice_get_within (in_name_order k) place c at in
    let is = get_or_from_slice_get (in_name_order k) place c c at in
    let valid = (in_order k).valid place c l in
    subst (λ (d : Capability). d.index < count_of d.kind) is valid.1

pub by_place : (k : Kind) (xs : List ℕ) (place index : ℕ) (o : Option Capability) → map (capability k) xs ≡ in_name_order k
    → slice_get xs place ≡ Some index → (IsSome o ↔ (index < count_of k)) → IfSome o (λ c. c ≡ capability k index)
    → o ≡ slice_get (in_name_order k) place
by_place k xs place index None same at within value =
    let there : false ≡ true = within.1 (within_count k place index (at_place k xs place index same at)) in absurd (cc)
by_place k xs place index (Some c) same at within value = rw (at_place k xs place index same at, value)
