use Rattle.std.proofs.Common.{Some, ap}
use Rattle.serde_json.specs.Data.{Data}
use Rattle.lsp_server.proofs.server.tell.Goals as goal

pub returns-in-Closed : goal.returns-in-Closed
returns-in-Closed g c = rw c.in-Closed.is c.close.ensures

pub returns-in_ok-outdate_unreadable-in-Unreadable : goal.returns-in_ok-outdate_unreadable-in-Unreadable
returns-in_ok-outdate_unreadable-in-Unreadable g c =
    let told = c.in_ok-outdate_unreadable-in-Unreadable.ensures in
    λ says. rw c.in-Unreadable.is (told.documents, ap (λ (d : Data). Some d) (told.warned says))
