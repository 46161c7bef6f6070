-- The owner of a name that leads back to its user does not resolve.
use Rattle.std.proofs.Common.{◌≡◌, ℕ, zero, suc, ◌+◌, ◌<◌, ◌≤◌, inl, inr, Bool, true, false, cond, List, [], ◌∷◌, length, Option, Some, None}
use Rattle.std.proofs.Common.{option_and_then, option_map, slice_get, sym, ◌∙◌, arith}
use Rattle.std.proofs.lemmas.Bool.{cases_Bool}
use Rattle.std.proofs.lemmas.Option.{none-some}
use Rattle.ti_source.specs.declared.parsing.Rule.{Rule}
use Rattle.ti_source.specs.declared.parsing.Rule.TheVariants.{Leftmost, OwnFirst}
use Rattle.ti_source.specs.Reading.{Reading, ReadItem}
use Rattle.base_meaning.specs.Owner.{owner_block}
use Rattle.ti_layout.specs.Values.{Mention}
use Rattle.base_meaning.specs.Expansion.{is_broken, mentions_of, expand_items, own_items, use_items, uncancelled, block_mentions, expand, expansion}
use Rattle.base_meaning.specs.Reaching.{Uses, IsUseWay, leads_to}
use Rattle.base_meaning.specs.ValueTables.{names_at}
use Rattle.base_meaning.proofs.Owning.{owner_to_owned}
use Rattle.base_meaning.proofs.Depth.{joined_parts, names_at-le}
use Rattle.base_meaning.proofs.Ruling.{mapped_part, uses-use}
use Rattle.base_meaning.proofs.MentionMerging.{mentions_of-used}
use Rattle.base_meaning.proofs.Leading.{leads_to-LeadsTo}

-- the name has an expansion at that depth
abbrev IsDeep : (List ℕ → Option Reading) → ℕ → List ℕ → Type 0
IsDeep env k name = (ms : List Mention) × (names_at env k name ≡ Some ms)

pub used_is_there : (f : List ℕ → Option (List Mention)) (items : List ReadItem) (name : List ℕ) (ms : List Mention) → Uses items name
    → expand_items f items ≡ Some ms → (ns : List Mention) × (f name ≡ Some ns)
used_is_there f [] name ms u e = absurd u
used_is_there f (i ∷ is) name ms (inl here) e =
    let p = joined_parts (mentions_of f i.said) (expand_items f is) ms e in
    (p.front, sym (mentions_of-used f i.said name here) ∙ p.front_is)
used_is_there f (i ∷ is) name ms (inr later) e =
    let p = joined_parts (mentions_of f i.said) (expand_items f is) ms e in
    used_is_there f is name p.back later p.back_is

pub used_is_in : (r : Rule) (f : List ℕ → Option (List Mention)) (items : List ReadItem) (name : List ℕ) (ms : List Mention) → Uses items name
    → block_mentions r f items ≡ Some ms → (ns : List Mention) × (f name ≡ Some ns)
used_is_in Leftmost f items name ms u e = used_is_there f items name ms u e
used_is_in OwnFirst f items name ms u e =
    let p = joined_parts (expand_items f (own_items items)) (option_map uncancelled (expand_items f (use_items items))) ms e in
    let m = mapped_part uncancelled (expand_items f (use_items items)) p.back p.back_is in
    used_is_there f (use_items items) name m.before (uses-use items name u) m.is

pub if_there : (broken : Bool) (o : Option (List Mention)) (ms : List Mention) → cond broken None o ≡ Some ms → o ≡ Some ms
if_there true o ms e = absurd (none-some ms e)
if_there false o ms e = e

-- what the owner of a deep name uses is one less deep
step_down : (env : List ℕ → Option Reading) (k : ℕ) (name next : List ℕ) (b : Reading) → IsDeep env (suc k) name → env name ≡ Some b → Uses b.items next
    → IsDeep env k next
step_down env k name next b d e u =
    let whole : expand env (suc k) b ≡ Some d.0 = rw e at d.1 in
    used_is_in b.rule (names_at env k) b.items next d.0 u (if_there (is_broken b) (block_mentions b.rule (names_at env k) b.items) d.0 whole)

along : (env : List ℕ → Option Reading) (way : List (List ℕ)) (k : ℕ) (name to : List ℕ) → IsDeep env (length way + k) name → IsUseWay env name way to
    → IsDeep env k to
along env [] k name to d w = let z : 0 + k ≡ k = omega arith in rw (w, z) at d
along env (x ∷ way) k name to d w =
    let z : suc (length way) + k ≡ suc (length way + k) = omega arith in
    along env way k x to (step_down env (length way + k) name x w.0.0 (rw z at d) w.0.1 w.0.2) w.1

-- a number of times the length of a way that leads back
times : ℕ → ℕ → ℕ
times zero l = 0
times (suc j) l = l + times j l

times-le : (j l : ℕ) → 0 < l → j ≤ times j l
unfolding times
times-le zero l p = omega arith
times-le (suc j) l p = let h = times-le j l p in omega arith

never_shallow : (env : List ℕ → Option Reading) (name : List ℕ) → IsDeep env 0 name → ⊥
never_shallow env name d =
    elim (env name) as (λ o. option_and_then (expand env 0) o ≡ Some d.0 → ⊥) [ None ↦ λ e. none-some d.0 e | Some b ↦ λ e. none-some d.0 e ] d.1

module _ (env : List ℕ → Option Reading) (name to : List ℕ) (way : List (List ℕ)) (b : Reading) (w : IsUseWay env name way to) (e : env to ≡ Some b)
    (u : Uses b.items name) where
  around : (k : ℕ) → IsDeep env (suc (length way) + k) name → IsDeep env k name
  around k d =
      let z : suc (length way) + k ≡ length way + suc k = omega arith in
      step_down env k to name b (along env way (suc k) name to (rw z at d) w) e u

  descend : (j : ℕ) → IsDeep env (times j (suc (length way))) name → ⊥
  unfolding times
  descend zero d = never_shallow env name d
  descend (suc j) d = descend j (around (times j (suc (length way))) d)

  pub not_circular : (k : ℕ) → IsDeep env k name → ⊥
  not_circular k d =
      let deep = times-le k (suc (length way)) (omega arith) in
      descend k (d.0, names_at-le env k (times k (suc (length way))) deep name d.0 d.1)

-- a use whose owner resolves does not lead back
pub resolved_not_circular : (bs : List Reading) (at : ℕ) (b c : Reading) (name : List ℕ) (ms : List Mention) → slice_get bs at ≡ Some b → Uses b.items name
    → owner_block bs name ≡ Some c → expansion bs c ≡ Some ms → leads_to bs name at ≡ false
resolved_not_circular bs at b c name ms s u o x =
    elim (cases_Bool (leads_to bs name at)) [
      | inr missing ↦ missing
      | inl reached ↦
          let w = leads_to-LeadsTo bs name at reached in
          let deep : names_at (owner_block bs) (suc (length bs)) name ≡ Some ms = rw o x in
          absurd (not_circular (owner_block bs) name w.1 w.0 b w.2 (owner_to_owned bs w.1 at b w.3 s) u (suc (length bs)) (ms, deep))
    ]
