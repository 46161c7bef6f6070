-- The capabilities of a kind by name, and the items of all.
use Rattle.std.proofs.Common.{◌≡◌, ℕ, ◌<◌, ◌+◌, ◌++◌, List, [], ◌∷◌, length, map, slice_get, take, Option, Some, IsSome, append_assoc, refl, sym, ◌∙◌, ap}
use Rattle.std.proofs.lemmas.List.{map-append, map_more}
use Rattle.std.proofs.lemmas.Option.{get_or_from_slice_get, slice_get-get_or, slice_get_within}
use Rattle.serde_json.specs.Data.{Data}
use Rattle.ti_caps.specs.declared.capability.Kind.{Kind}
use Rattle.ti_caps.specs.declared.capability.Kind.TheVariants.{Flag, Number, Text}
use Rattle.ti_caps.specs.NameOrder.{in_name_order}
use Rattle.ti_caps.proofs.NameOrder.{length-in_name_order}
use Rattle.ti_caps.specs.Tables.{Capability, capability, count_of}
use Rattle.server_answers.specs.Offers.{all_capabilities}

-- in the order by name there is something at each place
pub named_at : (k : Kind) (place : ℕ) (o : Option Capability) → o ≡ slice_get (in_name_order k) place → place < count_of k → IsSome o
named_at k place o is within =
    let there : place < length (in_name_order k) = rw (length-in_name_order k) within in
    let c : Capability = capability k place in
    rw (is, slice_get-get_or (in_name_order k) place c there) refl

-- the item of one more
pub one_more : {A B : Type 0} (f : A → B) (xs : List A) (n : ℕ) (x : A) (before : List B) → slice_get xs n ≡ Some x
    → (before ++ map f (take n xs)) ++ f x ∷ [] ≡ before ++ map f (take (n + 1) xs)
one_more f xs n x before e =
    let within : n < length xs = slice_get_within xs n x e in
    append_assoc before (map f (take n xs)) (f x ∷ [])
    ∙ ap (λ l. before ++ l) (sym (map_more f xs n x within ∙ ap (λ y. map f (take n xs) ++ f y ∷ []) (get_or_from_slice_get xs n x x e)))

-- the items of the three kinds
pub items_of_all : (f : Capability → Data) (a b c d : List Data) → a ≡ [] → b ≡ a ++ map f (in_name_order Flag) → c ≡ b ++ map f (in_name_order Number)
    → d ≡ c ++ map f (in_name_order Text) → d ≡ map f all_capabilities
unfolding all_capabilities
items_of_all f a b c d none flags numbers texts =
    texts
    ∙ (ap (λ (l : List Data). l ++ map f (in_name_order Text))
    (numbers ∙ ap (λ (l : List Data). l ++ map f (in_name_order Number)) (flags ∙ ap (λ (l : List Data). l ++ map f (in_name_order Flag)) none))
    ∙ sym (map-append f (in_name_order Flag ++ in_name_order Number) (in_name_order Text)
    ∙ ap (λ (l : List Data). l ++ map f (in_name_order Text)) (map-append f (in_name_order Flag) (in_name_order Number))))
