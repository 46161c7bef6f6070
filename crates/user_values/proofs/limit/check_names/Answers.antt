use Rattle.std.proofs.Common.{◌≡◌, ℕ, ◌+◌, ◌<◌, ◌≤◌, true, false, List, [], map, length, take, sym, ap, subst, arith}
use Rattle.user_items.specs.declared.reading.UserItem.{UserItem}
use Rattle.user_items.specs.Reading.{user_item_of, user_reading_of}
use Rattle.user_values.specs.Limit.{name_limit, names_of, names_in, distinct_after}
use Rattle.user_values.specs.inside.Counting.{AreFound, AreCounted}
use Rattle.user_values.proofs.Naming.{found_in_more}
use Rattle.user_values.proofs.limit.check_names.Goals as goal

pub loop-at-preserved : goal.loop-at-preserved
loop-at-preserved c =
    let reads = c.args.reads.now in
    let k = c.loop-at.at in
    let read = c.index-reads-at.result in
    let front = distinct_after [] (names_in (map user_reading_of (take k reads))) in
    let t : c.in_ok-find_names.field-0 ≡ true = cc in
    let now : AreFound (distinct_after front (names_of (map user_item_of c.deref.result.now))) c.find_names.new.found =
    subst (λ b. AreCounted b (distinct_after front (names_of (map user_item_of c.deref.result.now))) c.find_names.new.found) t
    (c.in_ok-find_names.ensures front c.loop-at.invariant) in
    let same : AreFound (distinct_after front (names_of (user_reading_of read).items)) c.find_names.new.found =
    subst (λ (items : List UserItem). AreFound (distinct_after front (names_of (map user_item_of items))) c.find_names.new.found) c.deref.ensures.value now in
    subst (λ ns. AreFound ns c.find_names.new.found) (sym (found_in_more reads k read [] c.loop-at-test.true c.index-reads-at.is)) same

pub returns-then-not-branch-clause-too_many : goal.returns-then-not-branch-clause-too_many
returns-then-not-branch-clause-too_many c = λ at e.
    let reads = c.args.reads.now in
    let k = c.loop-at.at in
    let read = c.index-reads-at.result in
    let front = distinct_after [] (names_in (map user_reading_of (take k reads))) in
    let t : c.in_ok-find_names.field-0 ≡ false = cc in
    let over : name_limit < length (distinct_after front (names_of (map user_item_of c.deref.result.now))) =
    subst (λ b. AreCounted b (distinct_after front (names_of (map user_item_of c.deref.result.now))) c.find_names.new.found) t
    (c.in_ok-find_names.ensures front c.loop-at.invariant) in
    let same : name_limit < length (distinct_after front (names_of (user_reading_of read).items)) =
    subst (λ (items : List UserItem). name_limit < length (distinct_after front (names_of (map user_item_of items)))) c.deref.ensures.value over in
    let more = ap (λ (xs : List (List ℕ)). length xs) (found_in_more reads k read [] c.loop-at-test.true c.index-reads-at.is) in
    let counted = c.loop-at.invariant.counted in
    let few = c.loop-at.found.few in
    let here : k ≡ at = cc in
    let Over : ℕ → Type 0 = λ n. (n < length reads) × (length (distinct_after [] (names_in (map user_reading_of (take n reads)))) ≤ name_limit)
    × (name_limit < length (distinct_after [] (names_in (map user_reading_of (take (n + 1) reads))))) in
    subst Over here (c.loop-at-test.true, omega (arith, counted, few), omega (arith, same, more))
