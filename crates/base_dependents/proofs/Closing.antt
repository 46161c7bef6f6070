-- All that depends on the edit was found at the end of a search.
use Rattle.std.proofs.Common.{◌≡◌, ℕ, inl, inr, true, suc, List, [], ◌∷◌, length, nat_eq, Option, Some, None, slice_get, Contains, refl, sym, ◌∙◌, ap}
use Rattle.std.proofs.Common.{subst, arith}
use Rattle.std.specs.List.{IsDistinct}
use Rattle.std.proofs.lemmas.Bool.{or_cases, false≢true}
use Rattle.std.proofs.lemmas.Option.{same_Some, slice_get_within, slice_get-get_or, get_or_from_slice_get}
use Rattle.std.specs.Str.{bytes_eq}
use Rattle.std.specs.Cmp.Lexicographic.{bytes_decides}
use Rattle.ti_source.specs.Reading.{Reading}
use Rattle.base_meaning.specs.Owner.{is_among}
use Rattle.base_meaning.specs.Reaching.{Uses}
use Rattle.base_meaning.specs.Exchange.{PlacedBlock, Exchange, with_block, HasPlace, new_list}
use Rattle.base_meaning.specs.Dependents.{lookup_names_of, touched_names, IsPutAt, IsDependent, AreClosed}
use Rattle.base_meaning.specs.UseLaws.{UsesBlock, AreFound}
use Rattle.base_meaning.proofs.Exchanging.{list_any-append}
use Rattle.base_meaning.proofs.ExchangeLaws.{found_dependents}
use Rattle.base_meaning.proofs.LawProofs.{first_owners}
use Rattle.base_meaning.proofs.Placing.{get-with_put}
use Rattle.ti_text.specs.Lists.{Has, AreDistinct}
use Rattle.ti_text.proofs.Lists.{item_at}
use Rattle.base_slots.specs.declared.slots.Slots.{Slots}
use Rattle.base_slots.specs.Slots.{ids_of, blocks_of, reading_at, StandsAt}
use Rattle.base_slots.proofs.Owners.{uses_user}
use Rattle.base_dependents.specs.Dependents.{IsExchangeOf, AreDependentIds}
use Rattle.base_dependents.specs.inside.Search.{IsPutOrUser, IsPutOrUserIn, IsSearch}
use Rattle.base_slots.specs.Positions.{ArePositions}
use Rattle.base_dependents.specs.inside.Uses.{ArePlaced}
use Rattle.base_dependents.proofs.Lists.{once}
use Rattle.base_dependents.proofs.Owners.{HasId, id_at}

-- ---- names among names

among_place : (names : List (List ℕ)) (name : List ℕ) → is_among name names ≡ true → (i : ℕ) × (slice_get names i ≡ Some name)
among_place [] name e = absurd (false≢true e)
among_place (n ∷ names) name e =
    elim (or_cases (bytes_eq name n) (is_among name names) e) [
      | inl here ↦ (0, ap (λ m. Some m) (sym ((bytes_decides name n).0 here)))
      | inr later ↦ let w = among_place names name later in (suc w.0, w.1)
    ]

-- ---- the block put in

put_within : (rest : List Reading) (o : Option PlacedBlock) (at : ℕ) → HasPlace rest o → IsPutAt o at → (block : Reading)
    × (slice_get (with_block rest o) at ≡ Some block) × (lookup_names_of o ≡ block.names)
put_within rest None at l p = absurd p
put_within rest (Some placed) at l p =
    (placed.block, subst (λ (k : ℕ). slice_get (with_block rest (Some placed)) k ≡ Some placed.block) p (get-with_put rest placed l), refl)

put_somewhere : (o : Option PlacedBlock) (name : List ℕ) → is_among name (lookup_names_of o) ≡ true → (at : ℕ) × IsPutAt o at
put_somewhere None name e = absurd (false≢true e)
put_somewhere (Some placed) name e = (placed.at, refl)

-- ---- elements and their positions

contains_at : (xs : List ℕ) (i x : ℕ) → slice_get xs i ≡ Some x → Contains xs x
contains_at xs i x e = (i, slice_get_within xs i x e, get_or_from_slice_get xs i x x e)

at_contained : (xs : List ℕ) (x : ℕ) → Contains xs x → Has xs x
at_contained xs x c = (c.0, slice_get-get_or xs c.0 x c.1 ∙ ap (λ y. Some y) c.2)

-- ---- the end of a search

-- what was found at the end, with the positions of the blocks
pub record IsEnded (s : Slots) (put : Option ℕ) (out : List (List ℕ)) (ids positions : List ℕ) : Type 0 where
  pub distinct : AreDistinct (ids_of s)
  pub unique : IsDistinct nat_eq ids
  pub ended : IsSearch s put out ids (length ids)
  pub positions_are : ArePositions (ids_of s) ids positions

module _ (s : Slots) (put : Option ℕ) (out : List (List ℕ)) (ids positions : List ℕ) (h : IsEnded s put out ids positions) where
  -- a block that was found has its place
  place_of : (at id : ℕ) → StandsAt s at id → Has ids id → Has positions at
  place_of at id st f =
      let n = h.positions_are.as_many in
      let l = slice_get_within ids f.0 id f.1 in
      let there = item_at positions f.0 (omega arith) in
      let same : there.0 ≡ at = h.distinct there.0 at id (h.positions_are.stands f.0 id there.0 f.1 there.1) st in
      (f.0, there.1 ∙ ap (λ p. Some p) same)

  -- at a place is a block that was found
  found_at : (i at : ℕ) → slice_get positions i ≡ Some at → (id : ℕ) × (slice_get ids i ≡ Some id) × StandsAt s at id
  found_at i at e =
      let n = h.positions_are.as_many in
      let l = slice_get_within positions i at e in
      let there = item_at ids i (omega arith) in
      (there.0, there.1, h.positions_are.stands i there.0 at there.1 e)

  -- with each block its users were found
  pub users_found : AreFound (blocks_of s) positions
  users_found i at user e u =
      let f = found_at i at e in
      let own = first_owners.some (blocks_of s) u.2.0 at u.2.2 in
      let me = id_at s at own.block h.distinct own.stands in
      let same : me.id ≡ f.0 = same_Some me.id f.0 (sym me.stands ∙ f.2) in
      let name = among_place own.block.names u.2.0 own.has in
      let named : slice_get (reading_at s f.0).names name.0 ≡ Some u.2.0 =
      ap (λ k. slice_get (reading_at s k).names name.0) (sym same) ∙ (ap (λ b. slice_get b.names name.0) me.is ∙ name.1) in
      let who = id_at s user u.0 h.distinct u.1 in
      let uses = uses_user s u.2.0 user who.id u.0 who.stands u.1 u.2.1 in
      place_of user who.id who.stands (h.ended.closed i f.0 (slice_get_within ids i f.0 f.1) f.1 who.id (name.0, u.2.0, named, (at, u.2.2, f.2), uses))

  module _ (e : Exchange) (x : IsExchangeOf s put out e) where
    new_id : (at : ℕ) (block : Reading) → slice_get (new_list e) at ≡ Some block → HasId s at block
    new_id at block f = id_at s at block h.distinct (ap (λ bs. slice_get bs at) (sym x.new) ∙ f)

    -- the block put in has the id, and its names are those that the edit touches
    put_found : (at : ℕ) → IsPutAt e.put at → (id : ℕ) × StandsAt s at id × (put ≡ Some id) × (lookup_names_of e.put ≡ (reading_at s id).names)
    put_found at p =
        let w = put_within e.rest e.put at x.fits.put p in
        let me = new_id at w.0 w.1 in
        (me.id, me.stands, (x.put_id at me.id me.stands).0 p, w.2 ∙ ap (λ b. b.names) (sym me.is))

    -- what was found has the block put in and its users
    has_put : (p id : ℕ) → put ≡ Some p → IsPutOrUser s p id → Has ids id
    has_put p id is a = h.ended.has_put id (let P : Option ℕ → Type 0 = λ o. IsPutOrUserIn s o id in subst P (sym is) a)

    user_found : (user : ℕ) (block : Reading) (name : List ℕ) → slice_get (new_list e) user ≡ Some block → Uses block.items name
        → is_among name (touched_names e) ≡ true → Has positions user
    user_found user block name f u t =
        let me = new_id user block f in
        let uses = uses_user s name user me.id block me.stands (ap (λ bs. slice_get bs user) (sym x.new) ∙ f) u in
        place_of user me.id me.stands
        (elim (or_cases (is_among name (lookup_names_of e.out)) (is_among name (lookup_names_of e.put))
        (sym (list_any-append name (lookup_names_of e.out) (lookup_names_of e.put)) ∙ t)) [
          | inl old ↦ (let w = among_place out name (ap (is_among name) (sym x.out_names) ∙ old) in h.ended.has_out me.id (w.0, name, w.1, uses))
          | inr new ↦
              let where_put = put_somewhere e.put name new in
              let p = put_found where_put.0 where_put.1 in
              let w = among_place (reading_at s p.0).names name (ap (is_among name) (sym p.3) ∙ new) in
              has_put p.0 me.id p.2 (inr (w.0, name, w.1, uses))
        ])

    contained : (at : ℕ) → Has positions at → Contains positions at
    contained at f = contains_at positions f.0 at f.1

    pub all_closed : AreClosed e positions
    all_closed = record {
      put = λ at p. let w = put_found at p in contained at (place_of at w.0 w.1 (has_put w.0 w.0 w.2 (inl refl)));
      touching = λ user block name f u t. contained user (user_found user block name f u t);
      using = λ user at u c.
          let w = at_contained positions at c in
          contained user (users_found w.0 at user w.1 (subst (λ (bs : List Reading). UsesBlock bs user at) x.new u));
    }

  pub dependent_ids : AreDependentIds s put out ids positions
  dependent_ids = record {
    as_many = h.positions_are.as_many;
    stands = h.positions_are.stands;
    once = λ i j id e f. once ids i j id h.unique e f;
    dependents = λ e x at. (
      (λ c.
          (let w = at_contained positions at c in
          let f = found_at w.0 at w.1 in
          let d = h.ended.sound f.0 (w.0, f.1) e x in
          subst (λ (k : ℕ). IsDependent e k) (h.distinct d.0 at f.0 d.1 f.2) d.2)),
      λ d. found_dependents e positions (all_closed e x) at d,
    );
    closed = users_found;
  }

-- ---- the answer, in lists that were copied

pub copied_ids : (s : Slots) (put : Option ℕ) (out : List (List ℕ)) (found ids positions : List ℕ) → IsSearch s put out found (length found)
    → ArePlaced (ids_of s) found ids positions → AreDependentIds s put out ids positions
copied_ids s put out found ids positions ended h =
    let P : List ℕ → Type 0 = λ xs. AreDependentIds s put out xs positions in
    subst P (sym h.ids_found) (dependent_ids s put out found positions
    (record { distinct = h.listed_once; unique = h.found_once; ended = ended; positions_are = h.are_positions }))
