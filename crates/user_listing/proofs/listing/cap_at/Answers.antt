-- in the order by index a capability is at its index, and in the order by name the call below gives
-- it
use Rattle.std.proofs.Common.{◌≡◌, ◌∙◌, sym}
use Rattle.ti_caps.specs.Tables.{capability}
use Rattle.ti_list.specs.Listing.{in_order}
use Rattle.ti_list.proofs.Orders.{index_at, some_at}
use Rattle.user_listing.proofs.listing.cap_at.Goals as goal

pub unwrap-requires-in-Name : goal.unwrap-requires-in-Name
unwrap-requires-in-Name c = some_at _ _ _ c.by_name.ensures c.requires

pub returns-in-Table : goal.returns-in-Table
unfolding in_order
returns-in-Table c =
    let is : c.unwrap.result ≡ capability c.args.kind c.args.place = rw c.unwrap.ensures at c.at.ensures.value in
    rw (c.in-Table.is, is) (index_at _ _ c.requires)

pub returns-in-Name : goal.returns-in-Name
unfolding in_order
returns-in-Name c = rw c.in-Name.is (sym c.by_name.ensures ∙ c.unwrap-in-Name.ensures)
