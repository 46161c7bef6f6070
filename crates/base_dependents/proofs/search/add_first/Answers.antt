use Rattle.std.proofs.Common.{map}
use Rattle.std.specs.Rc.{rc_slice_items}
use Rattle.std.proofs.lemmas.Result.{on_ok_weaker}
use Rattle.base_dependents.proofs.Searching.{search_begun, first_put, first_none}
use Rattle.base_dependents.proofs.search.add_first.Goals as goal
use Rattle.base_dependents.proofs.search.add_first.Goals.{in-Some+in_ok-add_with_users, in_default}

pub returns : goal.returns
returns c =
    on_ok_weaker c.add_users_of_names.result
    (search_begun c.args.slots.now c.args.put (map rc_slice_items c.args.out.now) c.match-put.found.keys c.add_users_of_names.new.found.keys c.requires.put
    (elim c.match-put.branch [
      | in-Some+in_ok-add_with_users w ↦ rw w.found-is
          (first_put c.args.slots.now c.args.put w.in-Some.id c.args.found.now.keys w.add_with_users.new.found.keys c.requires.empty w.in-Some.is
          w.in_ok-add_with_users.ensures)
      | in_default w ↦ rw w.found-is (first_none c.args.slots.now c.args.put c.args.found.now.keys c.requires.empty w.in_default.is)
    ]))
    c.add_users_of_names.ensures
