-- The laws of the definitions.
use Rattle.std.proofs.Common.{◌≡◌, ℕ, zero, suc, ◌<◌, ◌⊎◌, inl, inr, true, false, List, [], ◌∷◌, length, Option, Some, None, is_some, option_map, slice_get}
use Rattle.std.proofs.Common.{refl, sym, ◌∙◌, ap, subst, arith}
use Rattle.std.proofs.lemmas.Bool.{cases_Bool, false≢true}
use Rattle.std.proofs.lemmas.Option.{same_Some, none-some}
use Rattle.ti_source.specs.Reading.{Reading}
use Rattle.base_meaning.specs.Owner.{is_among, owner, owner_block}
use Rattle.ti_layout.specs.Values.{Mention}
use Rattle.base_meaning.specs.Expansion.{expand, expansion}
use Rattle.base_meaning.specs.Reaching.{LeadsTo, leads_to}
use Rattle.base_meaning.specs.Laws.{IsFirstWith, OwnersAreFirst, ExpansionsStay, ExpansionsAreFound, WaysAreFound, IsUseFault, nobody_owns, leads_back}
use Rattle.base_meaning.specs.Laws.{owner_unresolved, owner_resolved, UseFaultsAreFound, UsesAreFound, OwnersAreTold, Resolves}
use Rattle.base_meaning.proofs.Owning.{nobody, somebody, owning}
use Rattle.base_meaning.proofs.Depth.{expand-le, bounded}
use Rattle.base_meaning.proofs.UseFaults.{use_fault_missing, use_fault_circular, use_fault_open, use_fault_none}
use Rattle.base_meaning.proofs.Leading.{any_use-used, used-any_use, is_owner-from, is_owner-is, leads_to-LeadsTo, LeadsTo-leads_to}

-- ---- owners

first_later : (b : Reading) (bs : List Reading) (name : List ℕ) (at : ℕ) → is_among name b.names ≡ false → IsFirstWith bs name at
    → IsFirstWith (b ∷ bs) name (suc at)
first_later b bs name at e h = record {
  block = h.block;
  stands = h.stands;
  has = h.has;
  first = λ before other l s. earlier before other l s;
} where
  earlier : (before : ℕ) (other : Reading) → before < suc at → slice_get (b ∷ bs) before ≡ Some other → is_among name other.names ≡ true → ⊥
  earlier zero other l s t = false≢true (sym e ∙ (ap (λ x. is_among name x.names) (same_Some b other s) ∙ t))
  earlier (suc before) other l s t = h.first before other (omega arith) s t

owner_step : (b : Reading) (bs : List Reading) (name : List ℕ) (at : ℕ) → is_among name b.names ≡ false
    → ((p : ℕ) → owner bs name ≡ Some p → IsFirstWith bs name p) → (o : Option ℕ) → owner bs name ≡ o → option_map (λ p. suc p) o ≡ Some at
    → IsFirstWith (b ∷ bs) name at
owner_step b bs name at e h None o m = absurd (none-some at m)
owner_step b bs name at e h (Some p) o m = rw (← same_Some (suc p) at m) (first_later b bs name p e (h p o))

some_owner : (bs : List Reading) (name : List ℕ) (at : ℕ) → owner bs name ≡ Some at → IsFirstWith bs name at
some_owner [] name at o = absurd (none-some at o)
some_owner (b ∷ bs) name at o =
    elim (cases_Bool (is_among name b.names)) [
      | inl here ↦
          let e : 0 ≡ at = same_Some 0 at (rw here at o) in
          rw (← e) (record { block = b; stands = refl; has = here; first = λ before other l. absurd (omega arith) })
      | inr later ↦ owner_step b bs name at later (some_owner bs name) (owner bs name) refl (rw later at o)
    ]

none_step : (o : Option ℕ) → option_map (λ p. suc p) o ≡ None → o ≡ None
none_step None e = refl
none_step (Some p) e = absurd (none-some (suc p) (sym e))

no_owner : (bs : List Reading) (name : List ℕ) → owner bs name ≡ None → (at : ℕ) (b : Reading) → slice_get bs at ≡ Some b → is_among name b.names ≡ true → ⊥
no_owner [] name o at b s t = none-some b s
no_owner (c ∷ bs) name o zero b s t =
    let here : is_among name c.names ≡ true = ap (λ x. is_among name x.names) (same_Some c b s) ∙ t in
    none-some 0 (sym (rw here at o))
no_owner (c ∷ bs) name o (suc at) b s t =
    elim (cases_Bool (is_among name c.names)) [
      | inl here ↦ none-some 0 (sym (rw here at o))
      | inr later ↦ no_owner bs name (none_step (owner bs name) (rw later at o)) at b s t
    ]

pub first_owners : OwnersAreFirst
first_owners = record { some = some_owner; none = no_owner }

-- ---- expansions

pub staying_expansions : ExpansionsStay
staying_expansions = λ env depth deeper block mentions l e. expand-le env depth deeper block mentions l e

some_is : {X : Type 0} (o : Option X) → is_some o ≡ true → (x : X) × (o ≡ Some x)
some_is None e = absurd (false≢true e)
some_is (Some x) e = (x, refl)

is_resolved : (bs : List Reading) (at : ℕ) (b : Reading) → slice_get bs at ≡ Some b → Resolves (owner_block bs) b → is_some (expansion bs b) ≡ true
is_resolved bs at b s r =
    let w = some_is (expand (owner_block bs) r.0 b) r.1 in
    ap (λ o. is_some o) (bounded bs r.0 at b w.0 s w.1)

pub found_expansions : ExpansionsAreFound
found_expansions = record {
  found = λ bs at depth b ms s e. bounded bs depth at b ms s e;
  resolves = λ bs at b s. (λ t. (suc (length bs), t), λ r. is_resolved bs at b s r);
}

-- ---- names

pub found_uses : UsesAreFound
found_uses = λ name items. (λ t. any_use-used name items t, λ u. used-any_use name items u)

pub told_owners : OwnersAreTold
told_owners = λ bs name at. (λ t. is_owner-is bs name at t, λ o. is_owner-from bs name at o)

-- ---- ways and faults

pub found_ways : WaysAreFound
found_ways = λ bs from at. (λ t. leads_to-LeadsTo bs from at t, λ w. LeadsTo-leads_to bs from at w)

no_way : (bs : List Reading) (from : List ℕ) (at : ℕ) → leads_to bs from at ≡ false → LeadsTo bs from at → ⊥
no_way bs from at e w = false≢true (sym e ∙ LeadsTo-leads_to bs from at w)

unresolved_or_not : (o : Option (List Mention)) → (o ≡ None) ⊎ ((ms : List Mention) × (o ≡ Some ms))
unresolved_or_not None = inl refl
unresolved_or_not (Some ms) = inr (ms, refl)

pub told_faults : UseFaultsAreFound
told_faults = λ bs at name.
    elim (owning bs name) [
      | nobody o _ ↦ subst (IsUseFault bs at name) (use_fault_missing bs at name o) (nobody_owns o)
      | somebody q b own ↦ elim (cases_Bool (leads_to bs name at)) [
        | inl back ↦ subst (IsUseFault bs at name) (use_fault_circular bs at name b own.is back) (leads_back (leads_to-LeadsTo bs name at back))
        | inr off ↦ elim (unresolved_or_not (expansion bs b)) [
          | inl none ↦ subst (IsUseFault bs at name) (use_fault_open bs at name b own.is off none)
              (owner_unresolved b own.is (no_way bs name at off) (λ r. none_is_some (expansion bs b) none (is_resolved bs q b own.stands r)))
          | inr some ↦ subst (IsUseFault bs at name) (use_fault_none bs at name b some.0 own.is off some.1)
              (owner_resolved b own.is (no_way bs name at off) (suc (length bs), ap (λ o. is_some o) some.1))
        ]
      ]
    ] where
      none_is_some : (o : Option (List Mention)) → o ≡ None → is_some o ≡ true → ⊥
      none_is_some o e t = false≢true (sym (ap (λ x. is_some x) e) ∙ t)
