use Rattle.std.proofs.Common.{◌≡◌, ℕ, List, [], ◌∷◌, refl}
use Rattle.std.specs.Option.{option_or}
use Rattle.std.specs.Rc.{rc_slice_items}
use Rattle.std.proofs.lemmas.Result.{on_ok_weaker}
use Rattle.ti_source.specs.declared.parsing.Rule.{Rule}
use Rattle.ti_layout.specs.Values.{Content, content_of}
use Rattle.user_items.specs.Verdicts.{says}
use Rattle.user_values.specs.Tables.{Said, AddsSaidBy, said_at, said_once}
use Rattle.user_values.proofs.values.add_item.Goals as goal

added_one : (rule : Rule) (texts : List (List ℕ)) (name : List ℕ) (content : Content) (old new : Said)
    → ((q : List ℕ) → new q ≡ option_or (old q) (said_once name content q)) → AddsSaidBy rule texts (says name content) old new
added_one rule texts name content old new h = ((name, content) ∷ [], refl, h)

pub returns-in-Says : goal.returns-in-Says
returns-in-Says g c =
    rw c.in-Says.is
    (on_ok_weaker c.add.result (added_one g.rule c.args.database.now.texts (rc_slice_items c.in-Says.name) (content_of c.in-Says.value) (said_at c.args.table.now)
    (said_at c.add.new.self))
    c.add.ensures.said)
