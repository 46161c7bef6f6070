use Rattle.std.proofs.Common.{◌≡◌, ◌<◌, length, Some, refl, sym, ◌∙◌, arith}
use Rattle.std.specs.List.{slice_get}
use Rattle.std.proofs.lemmas.Option.{slice_get_read, slice_get_within, same_Some}
use Rattle.base_index.specs.Listing.{ListsBefore}
use Rattle.base_index.proofs.Filtering.{take_there, take_not}
use Rattle.base_index.proofs.listing.take_out.Goals as goal
use Rattle.base_index.proofs.listing.take_out.Goals.{else-place-len-via-then-place-len+else-index-id, else-place-len-via-else-place-len}

pub returns-then-index-id-clause-items : goal.returns-then-index-id-clause-items
returns-then-index-id-clause-items c =
    let list = c.args.list.now.items in
    let listed = c.args.order.now.listed in
    let place = c.count_before-place.result in
    let before : ListsBefore listed list c.args.id place = rw c.deref.ensures.value at c.count_before-place.ensures.count in
    let within : place < length list = omega (arith, c.len.ensures, c.args.list.now.ok.0) in
    let here = rw c.if-index-id.true at (slice_get_read list (length list) place c.index.result.now refl within c.index.ensures) in
    λ test e. c.remove.ensures.items ∙ take_there listed list c.args.id place c.requires.stands.0 c.count_before-place.ensures.distinct c.requires.stands.1
    before here test e

pub returns-else-place-len-clause-items : goal.returns-else-place-len-clause-items
returns-else-place-len-clause-items c =
    let list = c.args.list.now.items in
    let listed = c.args.order.now.listed in
    let place = c.count_before-place.result in
    let before : ListsBefore listed list c.args.id place = rw c.deref.ensures.value at c.count_before-place.ensures.count in
    let lacks : slice_get list place ≡ Some c.args.id → ⊥ =
    λ e. elim c.else-place-len.branch [
      | else-place-len-via-then-place-len+else-index-id w ↦
          let within : place < length list = omega (arith, c.len.ensures, c.args.list.now.ok.0) in
          let here = slice_get_read list (length list) place w.index.result.now refl within w.index.ensures in
          w.if-index-id.false (same_Some w.index.result.now c.args.id (sym here ∙ e))
      | else-place-len-via-else-place-len w ↦ (let within = slice_get_within list place c.args.id e in omega (arith, c.len.ensures, c.args.list.now.ok.0))
    ] in
    take_not listed list c.args.id place c.requires.stands.0 c.requires.stands.1 before lacks
