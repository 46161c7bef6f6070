use Rattle.std.proofs.Common.{◌≡◌, ◌<◌, ◌∙◌, Some, length, drop, set, sym, ap, subst, arith, slice_get}
use Rattle.user_values.specs.Walking.{TablesSeen, IsOrderOf, once_made}
use Rattle.user_compiling.proofs.OneByOne.{AreFoundBefore, one_found, all_found, end_of, fewer_left}
use Rattle.user_compiling.proofs.compiling.compile_all.Goals as goal

pub table-requires : goal.table-requires
table-requires c = c.in_ok-at.ensures.last c.in-Some.at c.in-Some.is

pub loop-all-smaller-in_ok-state : goal.loop-all-smaller-in_ok-state
loop-all-smaller-in_ok-state c =
    let old = c.loop-all.tables in
    let next = c.in_ok-at.ensures.next in
    let listed : slice_get old.order old.made ≡ Some c.in-Some.at = sym next.next ∙ c.in-Some.is in
    subst (λ (s : TablesSeen). length (drop s.made s.order) < length (drop old.made old.order)) (sym (next.is ∙ ap (once_made old) c.in-Some.is))
    (fewer_left old.order old.made c.in-Some.at listed)

pub loop-all-smaller : goal.loop-all-smaller
loop-all-smaller c =
    let old = c.loop-all.tables in
    let next = c.in_ok-at.ensures.next in
    let listed : slice_get old.order old.made ≡ Some c.in-Some.at = sym next.next ∙ c.in-Some.is in
    subst (λ (s : TablesSeen). length (drop s.made s.order) < length (drop old.made old.order)) (sym (next.is ∙ ap (once_made old) c.in-Some.is))
    (fewer_left old.order old.made c.in-Some.at listed)

pub loop-all-preserved-in_ok-state : goal.loop-all-preserved-in_ok-state
loop-all-preserved-in_ok-state c =
    let db = c.args.database.now.texts in
    let rule = c.args.database.now.rule in
    let old = c.loop-all.tables in
    let all = c.loop-all.all.items in
    let inv = c.loop-all.invariant in
    let next = c.in_ok-at.ensures.next in
    let listed : slice_get old.order old.made ≡ Some c.in-Some.at = sym next.next ∙ c.in-Some.is in
    let below = inv.2.below old.made c.in-Some.at listed in
    subst (λ (s : TablesSeen). (s.rule ≡ rule) × (s.texts ≡ db) × IsOrderOf db s.order
    × AreFoundBefore rule db s.order (set all c.in-Some.at c.in_ok-state.state) s.made)
    (sym (next.is ∙ ap (once_made old) c.in-Some.is)) (
      inv.0,
      inv.1,
      inv.2,
      one_found rule db old.order all old.made c.in-Some.at c.in_ok-state.state inv.3 listed (omega (arith, inv.3.as_many, below)) c.in_ok-state.ensures,
    )

pub loop-all-preserved : goal.loop-all-preserved
loop-all-preserved c =
    let db = c.args.database.now.texts in
    let rule = c.args.database.now.rule in
    let old = c.loop-all.tables in
    let all = c.loop-all.all.items in
    let inv = c.loop-all.invariant in
    let next = c.in_ok-at.ensures.next in
    let listed : slice_get old.order old.made ≡ Some c.in-Some.at = sym next.next ∙ c.in-Some.is in
    let below = inv.2.below old.made c.in-Some.at listed in
    subst (λ (s : TablesSeen). (s.rule ≡ rule) × (s.texts ≡ db) × IsOrderOf db s.order
    × AreFoundBefore rule db s.order (set all c.in-Some.at c.in_ok-state.state) s.made)
    (sym (next.is ∙ ap (once_made old) c.in-Some.is)) (
      inv.0,
      inv.1,
      inv.2,
      one_found rule db old.order all old.made c.in-Some.at c.in_ok-state.state inv.3 listed (omega (arith, inv.3.as_many, below)) c.in_ok-state.ensures,
    )

pub returns : goal.returns
returns c =
    let old = c.loop-all.tables in
    let inv = c.loop-all.invariant in
    let next = c.in_ok-at.ensures.next in
    all_found c.args.database.now.rule c.args.database.now.texts old.order c.loop-all.all.items old.made inv.2 (end_of old.order old.made (sym c.in_default.is ∙ next.next)) inv.3
