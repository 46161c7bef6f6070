-- The block that decides a capability: as it is looked for, and that it is the one.
use Rattle.std.proofs.Common.{◌≡◌, ℕ, zero, suc, ◌+◌, ◌-◌, ◌<◌, List, [], ◌∷◌, ◌++◌, Option, Some, None, length, slice_get, refl, sym, ap, subst, ◌∙◌}
use Rattle.std.proofs.Common.{add-one, arith}
use Rattle.std.specs.Prelude.{option_and_then, option_map}
use Rattle.std.specs.Option.{option_map_or}
use Rattle.std.proofs.lemmas.Option.{none-some, same_Some}
use Rattle.ti_caps.specs.Tables.{Capability, IsCapability, capability}
use Rattle.ti_caps.specs.declared.capability.Kind.{Kind}
use Rattle.ti_source.specs.Reading.{Reading, ReadItem}
use Rattle.ti_layout.specs.Values.{Contents}
use Rattle.base_meaning.specs.ValueTables.{HasTable}
use Rattle.source_blocks.specs.Deciding.{Decides, OneBlockDecides, decides_it, hands_it_on, decider, decider_by, decider_in, first_say, inherited_below}
use Rattle.source_blocks.specs.Deciding.{inherited_one, items_of, said_by, say_at, say_before, say_of}
use Rattle.source_blocks.specs.declared.deciding.Say.{Say}
use Rattle.source_blocks.specs.declared.deciding.Say.TheVariants.{Silent, Decisive, HandsOn}

-- ---- what a block says

pub table_says : {T : Type 0} (says : T → Contents) (blocks : List Reading) (c : Capability) (at : ℕ) (block : Reading) (table : Option T) → IsCapability c
    → slice_get blocks at ≡ Some block
    → HasTable says blocks block table → option_and_then (λ (t : T). says t c) table ≡ said_by blocks c at
table_says says blocks c at block None valid here h = rw (here, h) refl
table_says says blocks c at block (Some table) valid here h = h.2 c valid ∙ sym (rw (here, h.1) refl)

-- ---- the items of a block

pub items_there : (blocks : List Reading) (at : ℕ) (items : List ReadItem) → option_map (λ (block : Reading). block.items) (slice_get blocks at)
    ≡ Some items → items_of blocks at ≡ items
items_there blocks at items e = by_block (slice_get blocks at) items e
  where
    by_block : (found : Option Reading) (items : List ReadItem) → option_map (λ (block : Reading). block.items) found ≡ Some items
        → option_map_or (λ (block : Reading). block.items) found [] ≡ items
    by_block None items e = absurd (none-some items e)
    by_block (Some block) items e = same_Some block.items items e

-- ---- one more item

pub say_here : (blocks : List Reading) (c : Capability) (item : ReadItem) (items : List ReadItem) (say whole : Say) → say ≡ say_of blocks c item.said
    → first_say blocks c (item ∷ items) ≡ whole → say_before say (first_say blocks c items) ≡ whole
say_here blocks c item items say whole is so = ap (λ (s : Say). say_before s (first_say blocks c items)) is ∙ so

-- ---- one more block

left : (most passed : ℕ) → passed < most → most - passed ≡ suc (most - (passed + 1))
left most passed less = omega (arith, less)

pub walk_by : (blocks : List Reading) (c : Capability) (most passed at : ℕ) (say : Say) (whole : Option ℕ) → passed < most → say ≡ say_at blocks c at
    → decider_in blocks c (most - passed) at ≡ whole → decider_by say at (decider_in blocks c (most - (passed + 1))) ≡ whole
unfolding decider_in
walk_by blocks c most passed at say whole less is so =
    ap (λ (s : Say). decider_by s at (decider_in blocks c (most - (passed + 1)))) is
    ∙ sym (ap (λ (n : ℕ). decider_in blocks c n at) (left most passed less)) ∙ so

pub walk_over : (blocks : List Reading) (c : Capability) (at : ℕ) → decider_in blocks c 0 at ≡ None
unfolding decider_in
walk_over blocks c at = refl

-- ---- one more capability

pub below_none : (blocks : List Reading) (at : ℕ) (kind : Kind) → inherited_below blocks at kind 0 ≡ []
unfolding inherited_below
below_none blocks at kind = refl

pub below_one : (blocks : List Reading) (at : ℕ) (kind : Kind) (n : ℕ) → inherited_below blocks at kind (n + 1) ≡ inherited_below blocks at kind n
    ++ inherited_one blocks at (capability kind n)
unfolding inherited_below
below_one blocks at kind n = rw (add-one n) refl

-- ---- laws

clash_on : (say : Say) (next : ℕ) → say ≡ Decisive → say ≡ HandsOn next → ⊥
clash_on say next e f = let g : Decisive ≡ HandsOn next = sym e ∙ f in cc

same_next : (say : Say) (one other : ℕ) → say ≡ HandsOn one → say ≡ HandsOn other → one ≡ other
same_next say one other e f = let g : HandsOn one ≡ HandsOn other = sym e ∙ f in cc

-- the rest of a way to the block that decides
data Rest (blocks : List Reading) (c : Capability) (at by : ℕ) : Type 0 where
  ends : say_at blocks c at ≡ Decisive → at ≡ by → Rest blocks c at by
  goes_on : (next : ℕ) → say_at blocks c at ≡ HandsOn next → Decides blocks c next by → Rest blocks c at by

rest_of : (blocks : List Reading) (c : Capability) (at by : ℕ) → Decides blocks c at by → Rest blocks c at by
rest_of blocks c _ _ (decides_it {at = at} says) = ends says refl
rest_of blocks c _ _ (hands_it_on {at = at} {next = next} {by = by} says decides) = goes_on next says decides

pub one_decides : OneBlockDecides
one_decides blocks c _ _ other (decides_it {at = at} says) e =
    elim (rest_of blocks c at other e) [
      | ends _ is ↦ is
      | goes_on next on _ ↦ absurd (clash_on (say_at blocks c at) next says on)
    ]
one_decides blocks c _ _ other (hands_it_on {at = at} {next = next} {by = by} says decides) e =
    elim (rest_of blocks c at other e) [
      | ends decisive _ ↦ absurd (clash_on (say_at blocks c at) next decisive says)
      | goes_on further on more ↦
          one_decides blocks c next by other decides (subst (λ (n : ℕ). Decides blocks c n other) (same_next (say_at blocks c at) further next on says) more)
    ]

-- what is found decides
say_decides : (blocks : List Reading) (c : Capability) (at by : ℕ) (say : Say) (on : ℕ → Option ℕ) → say_at blocks c at ≡ say
    → ((next : ℕ) → on next ≡ Some by → Decides blocks c next by) → decider_by say at on ≡ Some by → Decides blocks c at by
say_decides blocks c at by Silent on says through e = absurd (none-some by e)
say_decides blocks c at by Decisive on says through e = subst (λ (n : ℕ). Decides blocks c at n) (same_Some at by e) (decides_it says)
say_decides blocks c at by (HandsOn next) on says through e = hands_it_on says (through next e)

in_decides : (blocks : List Reading) (c : Capability) (most at by : ℕ) → decider_in blocks c most at ≡ Some by → Decides blocks c at by
unfolding decider_in
in_decides blocks c zero at by e = absurd (none-some by e)
in_decides blocks c (suc most) at by e =
    say_decides blocks c at by (say_at blocks c at) (decider_in blocks c most) refl (λ next f. in_decides blocks c most next by f) e

pub found_decides : (blocks : List Reading) (c : Capability) (at by : ℕ) → decider blocks c at ≡ Some by → Decides blocks c at by
found_decides blocks c at by e =
    say_decides blocks c at by (say_at blocks c at) (decider_in blocks c (length blocks)) refl (λ next f. in_decides blocks c (length blocks) next by f) e

-- what decides within so many blocks is found
pub in_here : (blocks : List Reading) (c : Capability) (most at : ℕ) → say_at blocks c at ≡ Decisive → decider_in blocks c (suc most) at ≡ Some at
unfolding decider_in
in_here blocks c most at e = ap (λ (s : Say). decider_by s at (decider_in blocks c most)) e

pub in_later : (blocks : List Reading) (c : Capability) (most at next : ℕ) → say_at blocks c at ≡ HandsOn next
    → decider_in blocks c (suc most) at ≡ decider_in blocks c most next
unfolding decider_in
in_later blocks c most at next e = ap (λ (s : Say). decider_by s at (decider_in blocks c most)) e

pub found_in : (blocks : List Reading) (c : Capability) (at : ℕ) → decider blocks c at ≡ decider_in blocks c (suc (length blocks)) at
unfolding decider_in
found_in blocks c at = refl
