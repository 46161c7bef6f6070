use Rattle.std.proofs.Common.{◌∙◌, List, Option, cond, Some, ap, subst, sym}
use Rattle.std.specs.Option.{option_map}
use Rattle.std.specs.Str.{bytes_eq}
use Rattle.std.proofs.lemmas.Result.{on_ok_weaker}
use Rattle.ti_layout.specs.Values.{content_seen}
use Rattle.ti_layout.specs.declared.values.Content.{Content as Lent}
use Rattle.user_extension.specs.UserDefined.{AreUserDefined, Row, rows_of}
use Rattle.user_extension.specs.Laws.{as_read}
use Rattle.user_extension.specs.Reading.{said}
use Rattle.user_changing.specs.inside.Rows.{IsNew}
use Rattle.user_changing.proofs.Saying.{are-filter, given_said, new-filter, said-filter}
use Rattle.user_changing.proofs.order.give.Goals as goal

pub put_in-requires-clause-are : goal.put_in-requires-clause-are
put_in-requires-clause-are c =
    subst (λ (rs : List Row). AreUserDefined rs) (sym c.take_out.ensures) (are-filter (rows_of c.args.rows.now.items) c.args.name.now c.requires.are)

pub put_in-requires-clause-new : goal.put_in-requires-clause-new
put_in-requires-clause-new c =
    subst (λ (rs : List Row). IsNew c.args.name.now rs) (sym c.take_out.ensures) (new-filter (rows_of c.args.rows.now.items) c.args.name.now)

pub returns-in-Some-clause-said : goal.returns-in-Some-clause-said
returns-in-Some-clause-said c =
    on_ok_weaker c.put_in.result (λ h other.
    h other ∙ given_said (rows_of c.args.rows.now.items) (rows_of c.take_out.new.rows.items) c.args.name.now other (Some (content_seen c.in-Some.value))
    c.take_out.ensures
    ∙ ap (λ (v : Option Lent). cond (bytes_eq c.args.name.now other) (option_map content_seen v) (said (as_read (rows_of c.args.rows.now.items)) other))
    (sym c.in-Some.is)) c.put_in.ensures.said

pub returns-in-None-clause-are : goal.returns-in-None-clause-are
returns-in-None-clause-are c =
    subst (λ (rs : List Row). AreUserDefined rs) (sym c.take_out.ensures) (are-filter (rows_of c.args.rows.now.items) c.args.name.now c.requires.are)

pub returns-in-None-clause-said : goal.returns-in-None-clause-said
returns-in-None-clause-said c = λ other.
    ap (λ (rs : List Row). said (as_read rs) other) c.take_out.ensures ∙ said-filter (rows_of c.args.rows.now.items) c.args.name.now other
    ∙ ap (λ (v : Option Lent). cond (bytes_eq c.args.name.now other) (option_map content_seen v) (said (as_read (rows_of c.args.rows.now.items)) other))
    (sym c.in-None.is)
