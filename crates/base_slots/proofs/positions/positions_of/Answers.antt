use Rattle.std.proofs.Common.{◌≡◌, ℕ, inl, inr, List, [], ◌∷◌, ◌++◌, length, get_or, take, Some, slice_get, subst, arith}
use Rattle.std.proofs.lemmas.List.{length-append, take_all, take_more}
use Rattle.std.proofs.lemmas.Option.{slice_get_within, slice_get-get_or}
use Rattle.ti_text.proofs.Lists.{push_cases}
use Rattle.base_slots.specs.Positions.{ArePositions}
use Rattle.base_slots.proofs.positions.positions_of.Goals as goal

-- one more id is there
one_position_more : (listed ids positions : List ℕ) (id at : ℕ) → ArePositions listed ids positions → slice_get listed at ≡ Some id
    → ArePositions listed (ids ++ id ∷ []) (positions ++ at ∷ [])
one_position_more listed ids positions id at h here = record {
  as_many = (let n = h.as_many in omega (arith, length-append ids (id ∷ []), length-append positions (at ∷ [])));
  stands = λ i one there e f.
      elim (push_cases ids id i one e) [
        | inl early ↦ elim (push_cases positions at i there f) [
          | inl too ↦ h.stands i one there early too
          | inr last ↦ (let n = h.as_many in let l = slice_get_within ids i one early in let m : i ≡ length positions = last.0 in absurd (omega arith))
        ]
        | inr late ↦ elim (push_cases positions at i there f) [
          | inl early ↦ (let n = h.as_many in let l = slice_get_within positions i there early in let m : i ≡ length ids = late.0 in absurd (omega arith))
          | inr last ↦ rw (late.1, last.1) here
        ]
      ];
}

pub loop-id-preserved : goal.loop-id-preserved
loop-id-preserved c =
    let ids = c.args.ids.now in
    let at = c.loop-id.id-index in
    rw (take_more ids at 0 c.loop-id-test.true, c.in_ok-push.ensures.items)
    (one_position_more c.args.order.now.listed (take at ids) c.loop-id.positions.items (get_or ids at 0) c.position.result c.loop-id.invariant
    c.position.ensures)

pub position-requires : goal.position-requires
position-requires c =
    c.requires c.loop-id.id-index (get_or c.args.ids.now c.loop-id.id-index 0) (slice_get-get_or c.args.ids.now c.loop-id.id-index 0 c.loop-id-test.true)

pub returns : goal.returns
returns c = subst (λ done. ArePositions c.args.order.now.listed done c.loop-id.positions.items)
    (take_all c.loop-id.id-index c.args.ids.now c.loop-id-test.false) c.loop-id.invariant
