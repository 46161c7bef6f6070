-- The capability of a code.
use Rattle.std.proofs.Common.{◌≡◌, ◌≢◌, ℕ, ◌<◌, ◌≤◌, inl, inr, List, [], get_or, codes, refl, sym, ◌∙◌, ap, subst, arith, Option, Some, None, IfSome, IfNone, option_map}
use Rattle.std.proofs.lemmas.Bool.{cases_lt}
use Rattle.ti_caps.specs.declared.capability.Kind.{Kind}
use Rattle.ti_caps.specs.declared.capability.Kind.TheVariants.{Flag, Number, Text}
use Rattle.ti_caps.specs.Names.{text_names}
use Rattle.ti_caps.specs.Tables.{Capability, IsCapability, capability, count_of, name_of, names}
use Rattle.ti_names.specs.Names.{EveryCodeIsFound, HasCode, capability_of_code, code_of, termcap_codes}
use Rattle.ti_names.specs.inside.Index.{word_at}
use Rattle.ti_names.proofs.CodeTables.{IsSharedCode, keys, places, index_of, listed, length-codes}
use Rattle.ti_names.proofs.Named as Named
use Rattle.ti_names.proofs.Search.{is_last}

module _ (x : List ℕ) (k : Kind) where
  -- the capability at the last place of the code
  abbrev at_code : Option Capability
  at_code = Named.at_last x k (termcap_codes k)

  pub is_of_code : (r : Option Capability) → r ≡ at_code → r ≡ capability_of_code k x
  unfolding capability_of_code
  is_of_code r e = e

  abbrev has : (c : Capability) → at_code ≡ Some c → Named.Has x k (termcap_codes k) (length-codes k) c
  has c e = Named.has x k (termcap_codes k) (length-codes k) c e

  has_code : (c : Capability) → at_code ≡ Some c → HasCode k x c
  has_code c e =
      let h = has c e in
      record {
        valid = subst (λ q. c.index < count_of q) (sym h.of_kind) h.within;
        same_kind = h.of_kind;
        same_code = subst (λ q. get_or (termcap_codes q) c.index [] ≡ x) (sym h.of_kind) h.same;
      }

  pub if_found : (r : Option Capability) → r ≡ at_code → IfSome r (λ c. HasCode k x c)
  if_found None e = tt
  if_found (Some c) e = has_code c (sym e)

  in_list : (d : Capability) → HasCode k x d → (d.index < count_of k) × (get_or (termcap_codes k) d.index [] ≡ x)
  in_list d h = (subst (λ q. d.index < count_of q) h.same_kind h.valid, subst (λ q. get_or (termcap_codes q) d.index [] ≡ x) h.same_kind h.same_code)

  not_later : (c : Capability) → at_code ≡ Some c → (d : Capability) → HasCode k x d → d.index ≤ c.index
  not_later c e d h = elim (cases_lt c.index d.index) [
    | inl later ↦ let there = in_list d h in absurd ((has c e).last d.index later there.0 there.1)
    | inr others ↦ omega arith
  ]

  pub if_last : (r : Option Capability) → r ≡ at_code → IfSome r (λ c. (d : Capability) → HasCode k x d → d.index ≤ c.index)
  if_last None e = tt
  if_last (Some c) e = not_later c (sym e)

  pub if_none : (r : Option Capability) → r ≡ at_code → IfNone r ((d : Capability) → IsCapability d → d.kind ≡ k → code_of d ≢ x)
  if_none None e = λ d within of_kind same.
      let there = in_list d (record { valid = within; same_kind = of_kind; same_code = same }) in
      Named.lacks x k (termcap_codes k) (length-codes k) (sym e) d.index there.0 there.1
  if_none (Some c) e = tt

-- ---- each code but one leads back

name_of_smgl : name_of (capability Text 271) ≡ codes "smgl"
unfolding names text_names
name_of_smgl = refl

not_shared : (k : Kind) (i : ℕ) → name_of (capability k i) ≢ codes "smgl" → IsSharedCode k i → ⊥
not_shared Flag i other shared = shared
not_shared Number i other shared = shared
not_shared Text i other shared = other (ap (λ n. name_of (capability Text n)) shared ∙ name_of_smgl)

found_at : (k : Kind) (i : ℕ) → i < count_of k → name_of (capability k i) ≢ codes "smgl" → capability_of_code k (word_at (termcap_codes k) i) ≡ Some (capability k i)
unfolding capability_of_code
found_at k i l other = ap (λ p. option_map (capability k) p)
    (sym (is_last (termcap_codes k) (keys k) (places k) (index_of k) i (rw length-codes l) (listed k i l (not_shared k i other))))

pub every_code : EveryCodeIsFound
every_code c within other = found_at c.kind c.index within other
