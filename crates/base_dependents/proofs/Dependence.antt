-- Why what a search finds depends on the edit, whatever the exchange was.
use Rattle.std.proofs.Common.{◌≡◌, ℕ, inl, inr, true, List, [], ◌++◌, Option, Some, None, slice_get, refl, sym, ◌∙◌, ap, subst}
use Rattle.std.proofs.lemmas.Bool.{or_left, or_right}
use Rattle.std.proofs.lemmas.Map.Keys.{any_passes_from_place}
use Rattle.std.proofs.lemmas.Option.{same_Some}
use Rattle.std.specs.Str.{bytes_eq}
use Rattle.std.specs.Cmp.Lexicographic.{bytes_decides}
use Rattle.ti_source.specs.Reading.{Reading}
use Rattle.base_meaning.specs.Owner.{is_among, owner}
use Rattle.base_meaning.specs.Exchange.{PlacedBlock, Exchange, with_block, HasPlace, new_list}
use Rattle.base_meaning.specs.Dependents.{lookup_names_of, touched_names, IsPutAt, IsDependent}
use Rattle.base_meaning.proofs.Exchanging.{list_any-append}
use Rattle.base_meaning.proofs.ExchangeLaws.{users_depend}
use Rattle.base_meaning.proofs.Placing.{get-with_put}
use Rattle.base_slots.specs.declared.slots.Slots.{Slots}
use Rattle.ti_text.specs.Lists.{Has, AreDistinct}
use Rattle.base_slots.specs.Slots.{ids_of, blocks_of, reading_at, StandsAt}
use Rattle.base_slots.proofs.Owners.{user_uses, block_somewhere}
use Rattle.base_dependents.specs.Dependents.{IsExchangeOf}
use Rattle.base_dependents.specs.inside.Search.{IsUserOfOne, IsUserOfOwned, IsUserOf, Depends}

-- ---- names among names

pub among_at : (names : List (List ℕ)) (i : ℕ) (name : List ℕ) → slice_get names i ≡ Some name → is_among name names ≡ true
among_at names i name e = any_passes_from_place (bytes_eq name) names i name e ((bytes_decides name name).1 refl)

among_front : (name : List ℕ) (xs ys : List (List ℕ)) → is_among name xs ≡ true → is_among name (xs ++ ys) ≡ true
among_front name xs ys t = list_any-append name xs ys ∙ or_left (is_among name xs) (is_among name ys) t

among_behind : (name : List ℕ) (xs ys : List (List ℕ)) → is_among name ys ≡ true → is_among name (xs ++ ys) ≡ true
among_behind name xs ys t = list_any-append name xs ys ∙ or_right (is_among name xs) (is_among name ys) t

-- the names of the block put in are those of the block that is there
pub names_put : (rest : List Reading) (o : Option PlacedBlock) (at : ℕ) (block : Reading) → HasPlace rest o → IsPutAt o at
    → slice_get (with_block rest o) at ≡ Some block → lookup_names_of o ≡ block.names
names_put rest None at block l put e = absurd put
names_put rest (Some placed) at block l put e =
    let here : slice_get (with_block rest (Some placed)) at ≡ Some placed.block =
    subst (λ (p : ℕ). slice_get (with_block rest (Some placed)) p ≡ Some placed.block) put (get-with_put rest placed l) in
    ap (λ b. b.names) (same_Some placed.block block (sym here ∙ e))

-- ---- one exchange

-- a block with the id depends on it
abbrev pub DependsOn : Slots → Exchange → ℕ → Type 0
DependsOn s e id = (at : ℕ) × StandsAt s at id × IsDependent e at

module _ (s : Slots) (put : Option ℕ) (out : List (List ℕ)) (e : Exchange) (h : IsExchangeOf s put out e) where
  new_block : (at : ℕ) (block : Reading) → slice_get (blocks_of s) at ≡ Some block → slice_get (new_list e) at ≡ Some block
  new_block at block f = ap (λ bs. slice_get bs at) h.new ∙ f

  -- a user of a touched name depends
  touched_user : (id : ℕ) (name : List ℕ) → IsUserOf s name id → is_among name (touched_names e) ≡ true → DependsOn s e id
  touched_user id name u t =
      let w = user_uses s name u.0 id u.1 in
      (w.0, w.2, (w.1, new_block w.0 w.1 w.3, inr (name, t, (name, [], w.4, refl))))

  out_user : (id : ℕ) → IsUserOfOne s out id → DependsOn s e id
  out_user id u =
      let there : is_among u.1 (lookup_names_of e.out) ≡ true = ap (is_among u.1) h.out_names ∙ among_at out u.0 u.1 u.2 in
      touched_user id u.1 u.3 (among_front u.1 (lookup_names_of e.out) (lookup_names_of e.put) there)

  put_user : (id p place : ℕ) (block : Reading) → put ≡ Some p → StandsAt s place p → slice_get (blocks_of s) place ≡ Some block
      → IsUserOfOne s block.names id → DependsOn s e id
  put_user id p place block is ps b u =
      let same = names_put e.rest e.put place block h.fits.put ((h.put_id place p ps).1 is) (new_block place block b) in
      let there : is_among u.1 (lookup_names_of e.put) ≡ true = ap (is_among u.1) same ∙ among_at block.names u.0 u.1 u.2 in
      touched_user id u.1 u.3 (among_behind u.1 (lookup_names_of e.out) (lookup_names_of e.put) there)

  owned_user : (id p : ℕ) (names : List (List ℕ)) → AreDistinct (ids_of s) → DependsOn s e p → IsUserOfOwned s p names id → DependsOn s e id
  owned_user id p names once d u =
      let w = user_uses s u.1 u.4.0 id u.4.1 in
      let same : d.0 ≡ u.3.0 = once d.0 u.3.0 p d.1 u.3.2 in
      let own : owner (new_list e) u.1 ≡ Some u.3.0 = ap (λ bs. owner bs u.1) h.new ∙ u.3.1 in
      (w.0, w.2, users_depend e u.3.0 w.0 w.1 u.1 h.fits (subst (λ (k : ℕ). IsDependent e k) same d.2) own (new_block w.0 w.1 w.3) w.4)

  put_itself : (id : ℕ) → put ≡ Some id → Has (ids_of s) id → DependsOn s e id
  put_itself id is there =
      let w = block_somewhere s id there in
      (w.0, w.1, (reading_at s id, new_block w.0 (reading_at s id) w.2, inl ((h.put_id w.0 id w.1).1 is)))

-- ---- whatever the exchange was

pub put_depends : (s : Slots) (put : Option ℕ) (out : List (List ℕ)) (id : ℕ) → put ≡ Some id → Has (ids_of s) id → Depends s put out id
put_depends s put out id is there = λ e h. put_itself s put out e h id is there

pub out_depends : (s : Slots) (put : Option ℕ) (out : List (List ℕ)) (id : ℕ) → IsUserOfOne s out id → Depends s put out id
out_depends s put out id u = λ e h. out_user s put out e h id u

pub names_depend : (s : Slots) (put : Option ℕ) (out : List (List ℕ)) (p id : ℕ) → put ≡ Some p → Has (ids_of s) p → IsUserOfOne s (reading_at s p).names id
    → Depends s put out id
names_depend s put out p id is there u = λ e h. let w = block_somewhere s p there in put_user s put out e h id p w.0 (reading_at s p) is w.1 w.2 u

pub owned_depends : (s : Slots) (put : Option ℕ) (out : List (List ℕ)) (p id : ℕ) (names : List (List ℕ)) → AreDistinct (ids_of s) → Depends s put out p
    → IsUserOfOwned s p names id → Depends s put out id
owned_depends s put out p id names once d u = λ e h. owned_user s put out e h id p names once (d e h) u
