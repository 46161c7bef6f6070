-- what is at a place of an order
use Rattle.std.proofs.Common.{◌≡◌, ℕ, ◌<◌, length, get_or, slice_get, Option, Some, IsSome, option_map, refl, ◌∙◌, ap, zero-add}
use Rattle.std.specs.List.{range_with_len}
use Rattle.std.proofs.lemmas.List.FromFn.{length-range_with_len, get_or-range_with_len}
use Rattle.std.proofs.lemmas.Option.{slice_get-map, slice_get-get_or}
use Rattle.ti_caps.specs.declared.capability.Kind.{Kind}
use Rattle.ti_caps.specs.declared.capability.Kind.TheVariants.{Flag, Number, Text}
use Rattle.ti_caps.specs.NameOrder.{in_name_order}
use Rattle.ti_caps.proofs.NameOrder.{length-in_name_order}
use Rattle.ti_caps.specs.Tables.{Capability, capability, count_of}
use Rattle.ti_list.specs.declared.layout.Order.{Order}
use Rattle.ti_list.specs.declared.layout.Order.TheVariants as order
use Rattle.ti_list.specs.Listing.{by_index, in_order}

-- an order has as many capabilities as the kind
pub length-in_order : (by : Order) (k : Kind) → length (in_order by k) ≡ count_of k
unfolding in_order
length-in_order order.Table Flag = refl
length-in_order order.Table Number = refl
length-in_order order.Table Text = refl
length-in_order order.Name k = length-in_name_order k

-- in the order by index each capability is at its index
pub index_at : (k : Kind) (place : ℕ) → place < count_of k → slice_get (by_index k) place ≡ Some (capability k place)
index_at k place within =
    let n : ℕ = count_of k in
    let there : place < length (range_with_len 0 n) = rw length-range_with_len within in
    let is : get_or (range_with_len 0 n) place 0 ≡ place = get_or-range_with_len 0 n place 0 within ∙ zero-add place in
    slice_get-map (capability k) (range_with_len 0 n) place ∙ ap (λ o. option_map (capability k) o) (slice_get-get_or (range_with_len 0 n) place 0 there)
    ∙ ap (λ i. Some (capability k i)) is

-- in the order by name there is something at each place
pub some_at : (k : Kind) (place : ℕ) (o : Option Capability) → o ≡ slice_get (in_name_order k) place → place < count_of k → IsSome o
unfolding in_order
some_at k place o is within =
    let there : place < length (in_name_order k) = rw (length-in_order order.Name k) within in
    let c : Capability = capability k place in
    rw (is, slice_get-get_or (in_name_order k) place c there) refl
