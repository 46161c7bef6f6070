-- The capability that has a name, as the definition computes it, is the one with that name.
use Rattle.std.specs.Option.{option_or}
use Rattle.std.proofs.Common.{◌≡◌, ◌≢◌, ◌↔◌, ◌⊎◌, inl, inr, ℕ, zero, suc, ◌<◌, Bool, true, false, if◌then◌else◌, List, [], ◌∷◌, length, get_or, refl, sym}
use Rattle.std.proofs.Common.{◌∙◌, ap, subst, arith, bytes_eq, Option, Some, None, MatchOption, IfSome, IsSome, option_map}
use Rattle.std.proofs.lemmas.Slice.Eq.{bytes_eq-Decides}
use Rattle.ti_caps.specs.declared.capability.Kind.{Kind}
use Rattle.ti_caps.specs.declared.capability.Kind.TheVariants.{Flag, Number, Text}
use Rattle.ti_caps.specs.Tables.{Capability, IsCapability, capability, count_of, name_of, names, EveryNameIsFound, place_of, named_in, capability_named}
use Rattle.ti_caps.specs.inside.Lookup.{by_name}
use Rattle.ti_caps.specs.inside.Lookup.{IsTableRow}
use Rattle.ti_caps.proofs.Table.{length-names, row_names, distinct_names}

-- a place of a name, or that there is none
PlaceSays : List ℕ → List (List ℕ) → Option ℕ → Type 0
PlaceSays x ns None = (i : ℕ) → i < length ns → get_or ns i [] ≢ x
PlaceSays x ns (Some i) = (i < length ns) × (get_or ns i [] ≡ x)

not_either : (x n : List ℕ) (ns : List (List ℕ)) → n ≢ x → ((i : ℕ) → i < length ns → get_or ns i [] ≢ x) → (i : ℕ) → i < length (n ∷ ns)
    → get_or (n ∷ ns) i [] ≢ x
not_either x n ns other says zero l = other
not_either x n ns other says (suc i) l = says i (omega arith)

place_later : (x n : List ℕ) (ns : List (List ℕ)) (o : Option ℕ) → n ≢ x → PlaceSays x ns o → PlaceSays x (n ∷ ns) (option_map (λ i. suc i) o)
unfolding PlaceSays
place_later x n ns None other says = not_either x n ns other says
place_later x n ns (Some i) other says = (omega arith, says.1)

place_first : (x n : List ℕ) (ns : List (List ℕ)) (b : Bool) → bytes_eq n x ≡ b → PlaceSays x ns (place_of x ns)
    → PlaceSays x (n ∷ ns) (if b then Some 0 else option_map (λ i. suc i) (place_of x ns))
unfolding PlaceSays
place_first x n ns true e says = (omega arith, (bytes_eq-Decides n x).0 e)
place_first x n ns false e says = place_later x n ns (place_of x ns) (λ same. let t = (bytes_eq-Decides n x).1 same in cc) says

place_says : (x : List ℕ) (ns : List (List ℕ)) → PlaceSays x ns (place_of x ns)
unfolding PlaceSays
place_says x [] = λ i l. absurd (omega arith)
place_says x (n ∷ ns) = place_first x n ns (bytes_eq n x) refl (place_says x ns)

-- the capability has the name, or no capability of these kinds has it
Says : (Kind → Type 0) → List ℕ → Option Capability → Type 0
Says K x None = (c : Capability) → K c.kind → IsCapability c → name_of c ≢ x
Says K x (Some c) = IsCapability c × (name_of c ≡ x)

of_place : (x : List ℕ) (k : Kind) (o : Option ℕ) → PlaceSays x (names k) o → Says (λ l. l ≡ k) x (option_map (capability k) o)
unfolding PlaceSays Says
of_place x k None says = λ c same within. subst (λ l. get_or (names l) c.index [] ≢ x) (sym same)
    (says c.index (rw length-names (subst (λ l. c.index < count_of l) same within)))
of_place x k (Some i) says = (rw (← length-names) says.0, says.1)

named_in_says : (x : List ℕ) (k : Kind) → Says (λ l. l ≡ k) x (named_in x k)
named_in_says x k = of_place x k _ (place_says x (names k))

both_say : (K L : Kind → Type 0) (x : List ℕ) (o p : Option Capability) → Says K x o → Says L x p → Says (λ k. K k ⊎ L k) x (option_or o p)
unfolding Says
both_say K L x None None first second = λ c either within. elim either [ inl k ↦ first c k within | inr l ↦ second c l within ]
both_say K L x None (Some d) first second = second
both_say K L x (Some c) p first second = first

some_kind : (k : Kind) → (k ≡ Flag) ⊎ ((k ≡ Number) ⊎ (k ≡ Text))
some_kind Flag = inl refl
some_kind Number = inr (inl refl)
some_kind Text = inr (inr refl)

all_kinds : (K : Kind → Type 0) (x : List ℕ) (o : Option Capability) → ((k : Kind) → K k) → Says K x o
    → MatchOption o ((c : Capability) → IsCapability c → name_of c ≢ x) (λ c. IsCapability c × (name_of c ≡ x))
unfolding Says
all_kinds K x None every says = λ c within. says c (every c.kind) within
all_kinds K x (Some c) every says = says

pub named_says : (x : List ℕ) → MatchOption (capability_named x) ((c : Capability) → IsCapability c → name_of c ≢ x) (λ c. IsCapability c × (name_of c ≡ x))
unfolding capability_named
named_says x = all_kinds _ x _ some_kind (both_say _ _ x _ _ (named_in_says x Flag) (both_say _ _ x _ _ (named_in_says x Number) (named_in_says x Text)))

-- what has the name, or shows that nothing has it, is the capability of that name
pub one_answer : (x : List ℕ) (r o : Option Capability) → MatchOption r ((c : Capability) → IsCapability c → name_of c ≢ x)
    (λ c. IsCapability c × (name_of c ≡ x)) → MatchOption o ((c : Capability) → IsCapability c → name_of c ≢ x) (λ c. IsCapability c × (name_of c ≡ x)) → r ≡ o
one_answer x None None p q = refl
one_answer x None (Some d) p q = absurd (p d q.0 q.1)
one_answer x (Some c) None p q = absurd (q c p.0 p.1)
one_answer x (Some c) (Some d) p q = ap (λ e. Some e) (distinct_names c d p.0 q.0 (p.1 ∙ sym q.1))

pub no_capability_named : (x : List ℕ) → ((c : Capability) → IsCapability c → name_of c ≢ x) → None ≡ capability_named x
no_capability_named x none = one_answer x None _ none (named_says x)

pub is_capability_named : (x : List ℕ) (c : Capability) → IsCapability c → name_of c ≡ x → Some c ≡ capability_named x
is_capability_named x c within named = one_answer x (Some c) _ (within, named) (named_says x)

pub every_name : EveryNameIsFound
every_name c within = sym (is_capability_named (name_of c) c within refl)

-- the capability at a row's place is there, and has the row's name
pub record IsFound (x : List ℕ) (k : Kind) (i : ℕ) (r : Option Capability) : Type 0 where
  pub is : r ≡ Some (capability k i)
  pub within : i < count_of k
  pub named : name_of (capability k i) ≡ x

pub found_at : (x : List ℕ) (k : Kind) (i : ℕ) (r : Option Capability) → IsTableRow by_name x k i → IsSome r ↔ (i < count_of k)
    → IfSome r (λ c. c ≡ capability k i) → IsFound x k i r
found_at x k i None row there value = let says = row_names (x, k, i) row in let some : IsSome {T = Capability} None = there.1 says.0 in cc
found_at x k i (Some c) row there value = let says = row_names (x, k, i) row in record { is = ap (λ e. Some e) value; within = says.0; named = says.1 }
