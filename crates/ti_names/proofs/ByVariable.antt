-- The capability of a variable.
use Rattle.std.proofs.Common.{◌≡◌, ◌≢◌, ℕ, ◌<◌, true, List, [], get_or, refl, sym, ◌∙◌, ap, subst, Option, Some, None, IfSome, IfNone, option_map}
use Rattle.std.proofs.lemmas.List.Sums.{AllPass-from_list_all}
use Rattle.std.proofs.lemmas.Option.{same_Some}
use Rattle.std.specs.List.{list_all}
use Rattle.ti_caps.specs.declared.capability.Kind.{Kind}
use Rattle.ti_caps.specs.declared.capability.Kind.TheVariants.{Flag, Number, Text}
use Rattle.ti_caps.specs.Tables.{Capability, IsCapability, capability, count_of}
use Rattle.ti_names.specs.Names.{EveryVariableIsFound, VariablesAreDistinct, capability_of_variable, variable_of, variables, with_variable}
use Rattle.ti_names.specs.inside.Index.{word_at}
use Rattle.ti_names.proofs.Cover.{lacks, not_in_from_lacks}
use Rattle.ti_names.proofs.Named as Named
use Rattle.ti_names.proofs.Search.{is_last, is_nowhere, key_of_last}
use Rattle.ti_names.proofs.VariableTables.{keys, places, index_of, listed, length-variables, flags_lack, numbers_lack}

-- ---- by the lists of the three kinds

module _ (x : List ℕ) where
  pub from_flags : (c : Capability) → with_variable x Flag ≡ Some c → Some c ≡ capability_of_variable x
  unfolding capability_of_variable
  from_flags c e = rw e refl

  pub from_numbers : (c : Capability) → with_variable x Flag ≡ None → with_variable x Number ≡ Some c → Some c ≡ capability_of_variable x
  unfolding capability_of_variable
  from_numbers c e f = rw (e, f) refl

  pub from_texts : (r : Option Capability) → with_variable x Flag ≡ None → with_variable x Number ≡ None → r ≡ with_variable x Text
      → r ≡ capability_of_variable x
  unfolding capability_of_variable
  from_texts r e f g = rw (e, f) g

  pub found : (k : Kind) (c : Capability) → with_variable x k ≡ Some c → IsCapability c × (variable_of c ≡ x)
  found k c e =
      let h = Named.has x k (variables k) (length-variables k) c e in
      (subst (λ q. c.index < count_of q) (sym h.of_kind) h.within, subst (λ q. get_or (variables q) c.index [] ≡ x) (sym h.of_kind) h.same)

  pub if_found : (k : Kind) (r : Option Capability) → r ≡ with_variable x k → IfSome r (λ c. IsCapability c × (variable_of c ≡ x))
  if_found k None e = tt
  if_found k (Some c) e = found k c (sym e)

  lacking : (c : Capability) → IsCapability c → with_variable x c.kind ≡ None → variable_of c ≢ x
  lacking c within e = Named.lacks x c.kind (variables c.kind) (length-variables c.kind) e c.index within

  of_each : (k : Kind) → with_variable x Flag ≡ None → with_variable x Number ≡ None → with_variable x Text ≡ None → with_variable x k ≡ None
  of_each Flag e f g = e
  of_each Number e f g = f
  of_each Text e f g = g

  pub if_none : (r : Option Capability) → with_variable x Flag ≡ None → with_variable x Number ≡ None → r ≡ with_variable x Text
      → IfNone r ((c : Capability) → IsCapability c → variable_of c ≢ x)
  if_none None e f g = λ c within. lacking c within (of_each c.kind e f (sym g))
  if_none (Some d) e f g = tt

-- ---- each variable is that of one capability

own : (k : Kind) (i : ℕ) → i < count_of k → with_variable (word_at (variables k) i) k ≡ Some (capability k i)
own k i l =
    ap (λ p. option_map (capability k) p) (sym (is_last (variables k) (keys k) (places k) (index_of k) i (rw length-variables l) (listed k i l)))

others : (k m : Kind) → list_all (λ key. lacks (keys m) key) (keys k) ≡ true → (i : ℕ) → i < count_of k → with_variable (word_at (variables k) i) m ≡ None
others k m test i l =
    let (row, within, at) = key_of_last (variables k) (keys k) (places k) (index_of k) i (listed k i l) in
    let absent = subst (λ key. lacks (keys m) key ≡ true) at (AllPass-from_list_all (λ key. lacks (keys m) key) (keys k) test row 0 within) in
    ap (λ p. option_map (capability m) p)
    (sym (is_nowhere (variables m) (keys m) (places m) (index_of m) (word_at (variables k) i) (not_in_from_lacks _ (keys m) absent)))

found_at : (k : Kind) (i : ℕ) → i < count_of k → Some (capability k i) ≡ capability_of_variable (word_at (variables k) i)
unfolding keys
found_at Flag i l = from_flags _ (capability Flag i) (own Flag i l)
found_at Number i l = from_numbers _ (capability Number i) (others Number Flag (flags_lack Number (λ e. cc)) i l) (own Number i l)
found_at Text i l =
    from_texts _ (Some (capability Text i)) (others Text Flag (flags_lack Text (λ e. cc)) i l) (others Text Number numbers_lack i l) (sym (own Text i l))

pub every_variable : EveryVariableIsFound
every_variable c within = sym (found_at c.kind c.index within)

pub distinct_variables : VariablesAreDistinct
distinct_variables c d here there same =
    same_Some c d (sym (every_variable c here) ∙ ap (λ x. capability_of_variable x) same ∙ every_variable d there)
