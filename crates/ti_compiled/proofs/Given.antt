-- Contents with another content of one capability.
use Rattle.std.proofs.Common.{◌≡◌, ◌≢◌, ℕ, ◌≤◌, cond, Option, None, refl, sym, ap, ◌∙◌, subst, arith, inl, inr}
use Rattle.std.proofs.lemmas.Bool.{cases_lt}
use Rattle.ti_caps.specs.Tables.{Capability, IsCapability, capability, count_of}
use Rattle.ti_caps.specs.declared.capability.Kind.{Kind}
use Rattle.ti_layout.specs.Image.{written_count}
use Rattle.ti_layout.specs.Laws.{without_cancel}
use Rattle.ti_layout.specs.Values.{Content, Contents}
use Rattle.ti_layout.proofs.SortedEntries.{same_from_one, test_from_other}
use Rattle.ti_layout.proofs.ImageReading.{past-written}
use Rattle.ti_compiled.specs.Image.{with_content}

-- something is held only of the 497 capabilities
abbrev pub HoldsNoOther : Contents → Type 0
HoldsNoOther c = (kind : Kind) (index : ℕ) → count_of kind ≤ index → c (capability kind index) ≡ None

module _ (c : Contents) where
  pub given_here : (k : Capability) (v : Option Content) → with_content c k v k ≡ v
  given_here k v = ap (λ b. cond b v (c k)) (same_from_one k k refl)

  pub given_other : (k : Capability) (v : Option Content) (d : Capability) → d ≢ k → with_content c k v d ≡ c d
  given_other k v d other = ap (λ b. cond b v (c d)) (test_from_other k d (λ e. other (sym e)))

  pub given_place : (kind : Kind) (i : ℕ) (v : Option Content) (j : ℕ) → j ≢ i → with_content c (capability kind i) v (capability kind j)
      ≡ c (capability kind j)
  given_place kind i v j other = given_other (capability kind i) v (capability kind j) (λ e. other (ap (λ (d : Capability). d.index) e))

  -- a place that is not written holds nothing
  pub nothing_past : HoldsNoOther c → (kind : Kind) (j : ℕ) → written_count c kind ≤ j → without_cancel (c (capability kind j)) ≡ None
  nothing_past past kind j le = elim (cases_lt j (count_of kind)) [
    | inl under ↦ past-written c kind j le under
    | inr over ↦ ap without_cancel (past kind j over)
  ]

  beyond : (k d : Capability) → d ≡ k → IsCapability k → count_of d.kind ≤ d.index → ⊥
  beyond k d e valid over = let under = subst IsCapability (sym e) valid in omega arith

  pub given_past : HoldsNoOther c → (k : Capability) (v : Option Content) → IsCapability k → HoldsNoOther (with_content c k v)
  given_past past k v valid kind index over =
      given_other k v (capability kind index) (λ e. beyond k (capability kind index) e valid over) ∙ past kind index over
