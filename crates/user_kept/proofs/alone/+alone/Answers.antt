use Rattle.std.proofs.Common.{◌≡◌, ◌∙◌, List, ℕ, [], ◌∷◌, ap, map, refl, subst, sym, take, true, arith}
use Rattle.std.specs.Option.{option_or}
use Rattle.std.specs.Rc.{rc_slice_items}
use Rattle.std.proofs.lemmas.Option.{same_Some}
use Rattle.ti_text.proofs.Lists.{map-take_item}
use Rattle.ti_layout.specs.Values.{Content, content_of}
use Rattle.user_items.specs.Parsing.{user_reading_of_text}
use Rattle.user_items.specs.Reading.{ReadUserItem, user_item_of, user_reading_of}
use Rattle.user_items.specs.Verdicts.{says}
use Rattle.user_values.specs.Tables.{AddsSaid, Said, said_at, said_once}
use Rattle.user_values.proofs.Making.{item_here, items_whole}
use Rattle.user_kept.proofs.Adding.{IsAdded, block_added, one_more_added, used_name}
use Rattle.user_kept.proofs.alone.+alone.Goals as goal

pub add_block-add_item-requires : goal.add_block-add_item-requires
add_block-add_item-requires t c = (
  omega (arith, c.decreases, c.if-depth-eq0.false),
  λ name said.
      let text = c.text.result.now in
      let here = item_here text c.in_ok-read.read c.deref-item-items.result.now c.loop-item.item-index c.item-item.result c.in_ok-read.ensures
      c.deref-item-items.ensures.value c.loop-item-test.true c.item-item.is in
      used_name c.args.database.now text c.loop-item.item-index (user_item_of c.item-item.result) name (c.requires.whole text c.text.ensures) here said,
)

pub add_block-loop-item-preserved : goal.add_block-loop-item-preserved
add_block-loop-item-preserved t c =
    let items = c.deref-item-items.result.now in
    let whole : c.in_ok-add_item.field-0 ≡ true = cc in
    rw (map-take_item user_item_of items c.loop-item.item-index c.item-item.result c.loop-item-test.true c.item-item.is)
    (one_more_added c.args.database.now (map user_item_of (take c.loop-item.item-index items)) (user_item_of c.item-item.result)
    (said_at c.args.table.now) (said_at c.loop-item.table) (said_at c.add_item.new.table) c.loop-item.invariant (c.in_ok-add_item.ensures whole))

pub add_block-returns : goal.add_block-returns
add_block-returns t c = λ done text stands.
    let db = c.args.database.now in
    let here : c.text.result.now ≡ text = same_Some c.text.result.now text (sym c.text.ensures ∙ stands) in
    let same : user_reading_of c.in_ok-read.read ≡ user_reading_of_text text = c.in_ok-read.ensures ∙ ap user_reading_of_text here in
    let all = items_whole text c.in_ok-read.read c.deref-item-items.result.now c.loop-item.item-index same c.deref-item-items.ensures.value
    c.loop-item-test.false in
    block_added db c.args.at text (said_at c.args.table.now) (said_at c.loop-item.table) stands (c.requires.whole text stands)
    (subst (λ (is : List ReadUserItem). IsAdded db is (said_at c.args.table.now) (said_at c.loop-item.table)) all c.loop-item.invariant)

added_one : (texts : List (List ℕ)) (name : List ℕ) (content : Content) (old new : Said)
    → ((q : List ℕ) → new q ≡ option_or (old q) (said_once name content q)) → AddsSaid texts (says name content) old new
added_one texts name content old new h = ((name, content) ∷ [], refl, h)

pub add_item-returns-in_ok-add-in-Says : goal.add_item-returns-in_ok-add-in-Says
add_item-returns-in_ok-add-in-Says t c = λ done.
    rw c.in-Says.is
    (added_one c.args.database.now (rc_slice_items c.in-Says.name) (content_of c.in-Says.value) (said_at c.args.table.now) (said_at c.add.new.self)
    c.in_ok-add-in-Says.ensures.said)
