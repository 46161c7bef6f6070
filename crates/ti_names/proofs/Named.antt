-- The capability at the last place of a word in the list of a kind.
use Rattle.std.proofs.Common.{◌≡◌, ◌≢◌, ◌↔◌, ℕ, ◌<◌, true, false, List, [], length, get_or, refl, sym, ◌∙◌, ap, subst, Option, Some, None, IfSome, IsSome, option_map}
use Rattle.ti_caps.specs.declared.capability.Kind.{Kind}
use Rattle.ti_caps.specs.Tables.{Capability, capability, count_of}
use Rattle.std.proofs.lemmas.Option.{same_Some}
use Rattle.ti_names.specs.Names.{last_place_of}
use Rattle.ti_names.proofs.Places.{place_of_some, place_of_none}

-- the capability of a kind at the last place of a word
abbrev pub at_last : List ℕ → Kind → List (List ℕ) → Option Capability
at_last x k ws = option_map (capability k) (last_place_of x ws)

module _ (x : List ℕ) (k : Kind) (ws : List (List ℕ)) (long : length ws ≡ count_of k) where
  made : (i : ℕ) (o : Option Capability) → i < count_of k → (IsSome o ↔ (i < count_of k)) → IfSome o (λ c. c ≡ capability k i) → o ≡ Some (capability k i)
  made i None l within value = let there : false ≡ true = within.1 l in absurd (cc)
  made i (Some c) l within value = ap (λ d. Some d) value

  -- what Cap::at gives for the place
  pub at_place : (i : ℕ) (o : Option Capability) → last_place_of x ws ≡ Some i → (IsSome o ↔ (i < count_of k)) → IfSome o (λ c. c ≡ capability k i)
      → o ≡ at_last x k ws
  at_place i o e within value =
      made i o (subst (λ n. i < n) long (place_of_some x ws i e).0) within value ∙ sym (ap (λ p. option_map (capability k) p) e)

  -- what the capability has, if there is one
  pub record Has (c : Capability) : Type 0 where
    pub of_kind : c.kind ≡ k
    pub within : c.index < count_of k
    pub same : get_or ws c.index [] ≡ x
    pub last : (i : ℕ) → c.index < i → i < count_of k → get_or ws i [] ≢ x

  has_from : (p : Option ℕ) → last_place_of x ws ≡ p → (c : Capability) → option_map (capability k) p ≡ Some c → Has c
  has_from None e c h = cc
  has_from (Some i) e c h =
      let says = place_of_some x ws i e in
      let is : capability k i ≡ c = same_Some (capability k i) c h in
      subst (λ d. Has d) is (record {
        of_kind = refl;
        within = subst (λ n. i < n) long says.0;
        same = says.1;
        last = λ j later l. says.2 j later (subst (λ n. j < n) (sym long) l);
      })

  pub has : (c : Capability) → at_last x k ws ≡ Some c → Has c
  has c h = has_from (last_place_of x ws) refl c h

  lacks_from : (p : Option ℕ) → last_place_of x ws ≡ p → option_map (capability k) p ≡ None → (i : ℕ) → i < count_of k → get_or ws i [] ≢ x
  lacks_from None e h i l = place_of_none x ws e i (subst (λ n. i < n) (sym long) l)
  lacks_from (Some j) e h i l = cc

  -- if there is none, no capability of the kind has the word
  pub lacks : at_last x k ws ≡ None → (i : ℕ) → i < count_of k → get_or ws i [] ≢ x
  lacks h = lacks_from (last_place_of x ws) refl h
