use Rattle.std.proofs.Common.{List, subst}
use Rattle.ti_layout.specs.Values.{Mention, IsSorted}
use Rattle.ti_layout.proofs.SortedEntries.{agree_all}
use Rattle.ti_layout.proofs.values.Table.values_agree.Goals as goal

pub returns : goal.returns
returns c =
    let kept = subst (λ (es : List Mention). IsSorted es) c.self.view_is c.self.invariant in
    λ k. agree_all k c.args.self.now kept.agree
