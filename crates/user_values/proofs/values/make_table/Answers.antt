use Rattle.std.proofs.Common.{sym, subst}
use Rattle.std.proofs.lemmas.Result.{IfOk-weaker}
use Rattle.ti_source.specs.declared.parsing.Rule.{Rule}
use Rattle.user_items.specs.Reading.{UserBlock, user_reading_of}
use Rattle.ti_text.proofs.Lists.{item_at}
use Rattle.user_values.specs.Tables.{said_at}
use Rattle.user_values.specs.inside.Settling.{IsTableOfBlock, OwnersAreDone}
use Rattle.user_values.proofs.Making.{read_at, item_read, table_of_block}
use Rattle.user_values.proofs.values.make_table.Goals as goal

pub items_table-requires : goal.items_table-requires
items_table-requires c =
    let db = c.args.database.now.texts in
    let reads = c.args.reads.now in
    let read = c.index-reads-at.result in
    let text = item_at db c.args.at c.requires.within in
    let same = item_read db reads c.args.at text.0 read c.requires.reads text.1
    (read_at db reads c.args.at read c.requires.reads c.requires.within c.index-reads-at.is) in
    subst (λ (r : Rule). OwnersAreDone r db c.args.tables.now (user_reading_of read).items) (sym c.rule.ensures)
    (subst (λ (b : UserBlock). OwnersAreDone c.args.database.now.rule db c.args.tables.now b.items) (sym same) (c.requires.owners text.0 text.1))

pub returns : goal.returns
returns c =
    let db = c.args.database.now.texts in
    let reads = c.args.reads.now in
    let read = c.index-reads-at.result in
    IfOk-weaker c.items_table.result _ _
    (λ table h text stands.
    let same = item_read db reads c.args.at text read c.requires.reads stands
    (read_at db reads c.args.at read c.requires.reads c.requires.within c.index-reads-at.is) in
    table_of_block c.args.database.now.rule db c.args.at text (said_at table) stands (c.requires.whole text stands)
    (subst (λ (b : UserBlock). IsTableOfBlock c.args.database.now.rule db b.items (said_at table)) same
    (subst (λ (r : Rule). IsTableOfBlock r db (user_reading_of read).items (said_at table)) c.rule.ensures h)))
    c.items_table.ensures
