use Rattle.std.proofs.Common.{◌≡◌, ◌∙◌, ap, filter, rules}
use Rattle.std.proofs.lemmas.Fn.{filter_same}
use Rattle.user_extension.specs.UserDefined.{row_of, rows_of}
use Rattle.user_changing.proofs.Saying.{is_other, rows-filter}
use Rattle.user_changing.proofs.order.take_out.Goals as goal

pub returns : goal.returns
returns c =
    let kept : c.retain.new.self.items ≡ filter (λ u. is_other c.args.name.now (row_of u)) c.args.rows.now.items =
    filter_same _ _ _ (λ x b f k. search rules) _ _ c.retain.ensures.filtered in
    ap rows_of kept ∙ rows-filter (is_other c.args.name.now) c.args.rows.now.items
