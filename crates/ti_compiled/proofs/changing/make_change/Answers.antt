use Rattle.std.proofs.Common.{◌≡◌, ◌≤◌, ℕ, List, length, Option, subst, sym, ◌∙◌, vec_capacity}
use Rattle.ti_caps.specs.Tables.{Capability}
use Rattle.ti_layout.specs.declared.header.Header.{Header}
use Rattle.ti_layout.specs.Values.{Content}
use Rattle.ti_layout.specs.Sizes.{HasSizes}
use Rattle.ti_compiled.specs.Image.{with_content}
use Rattle.ti_compiled.specs.inside.Changes.{image_with, BytesFitWith}
use Rattle.ti_compiled.specs.inside.Image.{names_in, contents_in}
use Rattle.ti_compiled.proofs.Rooms.{when_ok}
use Rattle.ti_compiled.proofs.changing.make_change.Goals as goal

-- the sizes after a change, of the same bytes by another name
sizes_after : (cap : Capability) (content : Option Content) (b x : List ℕ) (h : Header) → b ≡ x
    → HasSizes (names_in b) (with_content (contents_in b) cap content) h
    → HasSizes (names_in x) (with_content (contents_in x) cap content) h
sizes_after cap content b x h same has = subst (λ (y : List ℕ). HasSizes (names_in y) (with_content (contents_in y) cap content) h) same has

pub make-requires-clause-new : goal.make-requires-clause-new
make-requires-clause-new g c =
    sizes_after _ _ c.deref.result.now _ _ (c.deref.ensures.value ∙ sym c.make_room-room.ensures.items) c.sizes-new.ensures

pub make-requires-clause-small : goal.make-requires-clause-small
make-requires-clause-small g c =
    let cap = g.C.Change.capability_of c.args.change.now in
    let content = g.C.Change.content_of c.args.change.now in
    let b = c.args.bytes.now.items in
    let has = sizes_after cap content c.deref.result.now b c.sizes-new.result c.deref.ensures.value c.sizes-new.ensures in
    let fits = when_ok c.make_room-room.result _ (sym c.is_ok.ensures.value ∙ c.if-is_ok.true) (c.make_room-room.ensures.within (names_in b) _ has) in
    subst (λ (x : List ℕ). BytesFitWith x cap content) (sym c.make_room-room.ensures.items) fits

pub make-requires-clause-room : goal.make-requires-clause-room
make-requires-clause-room g c =
    let cap = g.C.Change.capability_of c.args.change.now in
    let content = g.C.Change.content_of c.args.change.now in
    let b = c.args.bytes.now.items in
    let has = sizes_after cap content c.deref.result.now b c.sizes-new.result c.deref.ensures.value c.sizes-new.ensures in
    let room = when_ok c.make_room-room.result _ (sym c.is_ok.ensures.value ∙ c.if-is_ok.true) (c.make_room-room.ensures.room (names_in b) _ has) in
    subst (λ (x : List ℕ). length (image_with x cap content) ≤ vec_capacity c.make_room-room.new.bytes) (sym c.make_room-room.ensures.items) room

pub returns-then-is_ok-clause-within : goal.returns-then-is_ok-clause-within
returns-then-is_ok-clause-within g c =
    c.make_room-room.ensures.within _ _ (sizes_after _ _ c.deref.result.now _ _ c.deref.ensures.value c.sizes-new.ensures)

pub returns-then-is_ok-clause-too_large : goal.returns-then-is_ok-clause-too_large
returns-then-is_ok-clause-too_large g c =
    c.make_room-room.ensures.too_large _ _ (sizes_after _ _ c.deref.result.now _ _ c.deref.ensures.value c.sizes-new.ensures)

pub returns-else-is_ok-clause-too_large : goal.returns-else-is_ok-clause-too_large
returns-else-is_ok-clause-too_large g c =
    c.make_room-room.ensures.too_large _ _ (sizes_after _ _ c.deref.result.now _ _ c.deref.ensures.value c.sizes-new.ensures)

pub returns-else-is_ok-clause-memory : goal.returns-else-is_ok-clause-memory
returns-else-is_ok-clause-memory g c =
    c.make_room-room.ensures.memory _ _ (sizes_after _ _ c.deref.result.now _ _ c.deref.ensures.value c.sizes-new.ensures)
