use Rattle.std.proofs.Common.{◌≡◌, ◌<◌, ◌≤◌, ◌++◌, List, length, Some, None, cond, sym, ap, ◌∙◌, arith, All}
use Rattle.std.specs.Option.{option_or}
use Rattle.ti_caps.specs.Tables.{Capability, same_capability}
use Rattle.ti_layout.specs.Values.{Agrees, Mention, contents, content_of, entries_of}
use Rattle.ti_layout.specs.declared.values.Value.{Value}
use Rattle.ti_layout.specs.inside.Mentions.{recent_max}
use Rattle.ti_layout.proofs.SortedEntries.{err_is}
use Rattle.ti_layout.proofs.Fronts.{contents-append}
use Rattle.ti_layout.proofs.FirstMentions.{added_all, added_more, agree_more, one_longer}
use Rattle.ti_layout.proofs.mentions.Mentions.push.Goals as goal
use Rattle.ti_layout.proofs.mentions.Mentions.push.Goals.{then-len-ge-RECENT_MAX+in_ok-settle, else-len-ge-RECENT_MAX}

pub returns : goal.returns
returns c d valid =
    let inside = c.self.inside in
    let now = c.if-len-ge-RECENT_MAX.self-inside in
    let before : contents (now.table ++ entries_of now.recent.items) d ≡ contents c.args.self.now d = elim c.if-len-ge-RECENT_MAX.branch [
      | then-len-ge-RECENT_MAX+in_ok-settle w ↦
          rw w.self-inside-is
          (added_all _ _ d w.in_ok-settle.ensures.none ∙ w.in_ok-settle.ensures.merged d valid
          ∙ sym (contents-append inside.table (entries_of inside.recent.items) d) ∙ ap (λ es. contents es d) c.self.view_is)
      | else-len-ge-RECENT_MAX w ↦ rw w.self-inside-is (ap (λ es. contents es d) c.self.view_is)
    ] in
    ap (λ xs. contents (now.table ++ entries_of xs) d) c.in_ok-push.ensures.items
    ∙ added_more now.table now.recent.items (c.args.cap, c.args.value) d
    ∙ ap (λ o. option_or o (cond (same_capability c.args.cap d) (Some (content_of c.args.value)) None)) before

-- what the mentions before this one leave as it was
pub invariant_of-self : goal.invariant_of-self
invariant_of-self c = (c.settle.ensures.few, c.settle.ensures.agree)

pub returns-in_err-settle : goal.returns-in_err-settle
returns-in_err-settle c = let refused = err_is c.from_residual.result c.from_residual.ensures.0 in rw refused.1 tt

pub invariant_of-self-in_err-push : goal.invariant_of-self-in_err-push
invariant_of-self-in_err-push c =
    let now = c.if-len-ge-RECENT_MAX.self-inside.recent.items in
    let kept : (length now ≤ recent_max) × All (λ (e : Mention). Agrees e.0 e.1) (entries_of now) = elim c.if-len-ge-RECENT_MAX.branch [
      | then-len-ge-RECENT_MAX+in_ok-settle w ↦ rw w.self-inside-is (w.settle.ensures.few, w.settle.ensures.agree)
      | else-len-ge-RECENT_MAX w ↦ rw w.self-inside-is c.self.invariant
    ] in
    rw c.in_err-push.ensures.items kept

pub returns-in_err-push : goal.returns-in_err-push
returns-in_err-push c = let refused = err_is c.from_residual-in_err-push.result c.from_residual-in_err-push.ensures.0 in rw refused.1 tt

pub invariant_of-self-2 : goal.invariant_of-self-2
invariant_of-self-2 c =
    let now = c.if-len-ge-RECENT_MAX.self-inside.recent.items in
    let kept : (length now < recent_max) × All (λ (e : Mention). Agrees e.0 e.1) (entries_of now) = elim c.if-len-ge-RECENT_MAX.branch [
      | then-len-ge-RECENT_MAX+in_ok-settle w ↦
          let none = ap (λ (xs : List (Capability × Value)). length xs) w.in_ok-settle.ensures.none in
          rw w.self-inside-is (omega arith, w.settle.ensures.agree)
      | else-len-ge-RECENT_MAX w ↦
          let room : length c.self.inside.recent.items < recent_max =
          let counted = c.self.inside.recent.ok in let some = c.len.ensures in let few = w.if-len-ge-RECENT_MAX.false in omega arith in
          rw w.self-inside-is (room, c.self.invariant.1)
    ] in
    rw c.in_ok-push.ensures.items (one_longer now (c.args.cap, c.args.value) kept.0, agree_more now (c.args.cap, c.args.value) kept.1 c.requires)
