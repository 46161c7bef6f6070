use Rattle.std.proofs.Common.{◌≡◌, ℕ, ◌+◌, ◌<◌, true, false, List, map, length, take, sym, ap, subst, arith}
use Rattle.user_items.specs.Reading.{user_item_of}
use Rattle.user_values.specs.Limit.{name_limit, name_said, names_of, distinct_after}
use Rattle.user_values.specs.inside.Counting.{AreFound, AreCounted}
use Rattle.user_values.proofs.Naming.{found_more, longer_with_all}
use Rattle.user_values.proofs.limit.find_names.Goals as goal

pub loop-item-preserved : goal.loop-item-preserved
loop-item-preserved c = λ names h.
    let items = c.args.items.now in
    let k = c.loop-item.item-index in
    let item = c.item-item.result in
    let front = distinct_after names (names_of (map user_item_of (take k items))) in
    let t : c.in_ok-find_item.field-0 ≡ true = cc in
    let now : AreFound (distinct_after front (name_said (user_item_of item).said)) c.find_item.new.found =
    subst (λ b. AreCounted b (distinct_after front (name_said (user_item_of item).said)) c.find_item.new.found) t
    (c.in_ok-find_item.ensures front (c.loop-item.invariant names h)) in
    subst (λ ns. AreFound ns c.find_item.new.found) (sym (found_more items k item names c.loop-item-test.true c.item-item.is)) now

pub returns-then-not-branch : goal.returns-then-not-branch
returns-then-not-branch c = λ names h.
    let items = c.args.items.now in
    let k = c.loop-item.item-index in
    let item = c.item-item.result in
    let front = distinct_after names (names_of (map user_item_of (take k items))) in
    let t : c.in_ok-find_item.field-0 ≡ false = cc in
    let over : name_limit < length (distinct_after front (name_said (user_item_of item).said)) =
    subst (λ b. AreCounted b (distinct_after front (name_said (user_item_of item).said)) c.find_item.new.found) t
    (c.in_ok-find_item.ensures front (c.loop-item.invariant names h)) in
    let more = ap (λ (xs : List (List ℕ)). length xs) (found_more items k item names c.loop-item-test.true c.item-item.is) in
    omega (arith, over, more, longer_with_all items (k + 1) names)
