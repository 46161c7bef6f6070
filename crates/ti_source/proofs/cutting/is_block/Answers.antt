use Rattle.std.proofs.Common.{sym, ◌∙◌}
use Rattle.ti_source.proofs.WalkLemmas.{one_block_rule, one_block_parts, ends_of_block}
use Rattle.ti_source.proofs.cutting.is_block.Goals as goal
use Rattle.ti_source.proofs.cutting.is_block.Goals.{then-begins_with_head, else-begins_with_head}

pub returns-then-ends_with_newline : goal.returns-then-ends_with_newline
returns-then-ends_with_newline c =
    elim c.if-begins_with_head.branch [
      | then-begins_with_head w ↦
          one_block_rule c.args.text.now c.next_head.result (sym c.begins_with_head.ensures ∙ w.if-begins_with_head.true)
          (sym w.ends_with_newline.ensures ∙ sym w.value-is ∙ c.if-ends_with_newline.true) c.next_head.ensures
      | else-begins_with_head w ↦ (let clash = sym c.if-ends_with_newline.true ∙ w.value-is ∙ w.if-begins_with_head.false in cc)
    ]

pub returns-else-ends_with_newline : goal.returns-else-ends_with_newline
returns-else-ends_with_newline c = (
  λ t. (let clash = sym t ∙ c.if-ends_with_newline.false in cc),
  λ o. elim c.if-begins_with_head.branch [
    | then-begins_with_head w ↦ w.value-is ∙ w.ends_with_newline.ensures ∙ ends_of_block c.args.text.now o
    | else-begins_with_head w ↦ w.value-is ∙ c.begins_with_head.ensures ∙ (one_block_parts c.args.text.now o).begins
  ],
)
