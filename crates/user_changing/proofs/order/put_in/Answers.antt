use Rattle.std.proofs.Common.{List, subst}
use Rattle.user_extension.specs.UserDefined.{row_of, rows_of}
use Rattle.user_extension.specs.declared.user_defined.UserDefined.{UserDefined}
use Rattle.user_changing.specs.inside.Rows.{IsGapFor}
use Rattle.user_changing.proofs.Ordered.{put_are}
use Rattle.user_changing.proofs.Saying.{put_said}
use Rattle.user_changing.proofs.order.put_in.Goals as goal

pub returns-clause-are : goal.returns-clause-are
returns-clause-are c =
    put_are c.args.rows.now.items c.insert.new.self.items c.place_of-at.result c.args.row c.in_ok-insert.ensures.items c.requires.are c.requires.name
    c.requires.value c.requires.new
    (subst (λ (xs : List UserDefined). IsGapFor (rows_of xs) (row_of c.args.row) c.place_of-at.result) c.deref.ensures.value c.place_of-at.ensures)

pub returns-clause-said : goal.returns-clause-said
returns-clause-said c = λ other.
    put_said c.args.rows.now.items c.insert.new.self.items c.place_of-at.result c.args.row other c.in_ok-insert.ensures.items c.requires.new
