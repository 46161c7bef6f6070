use Rattle.std.proofs.Common.{◌≡◌, Some, sym, refl, rules, arith}
use Rattle.base_index.specs.declared.names.Mentions.{Mentions}
use Rattle.base_index.specs.Names.{mentions_at}
use Rattle.base_index.proofs.Naming.{IsGrown, grown_seen, grown_capacity}
use Rattle.base_index.proofs.names.NameIndex.grow.Goals as goal

pub returns-in_err-reserve-clause-seen : goal.returns-in_err-reserve-clause-seen
returns-in_err-reserve-clause-seen c =
    let m = c.in-Some.mentions.now in
    let w : Mentions = record { holders = c.reserve.new.self; users = c.in-Some.mentions.now.users } in
    let found : mentions_at c.args.self.now c.args.name.now ≡ Some m = sym c.in-Some.ensures.value in
    let grown : IsGrown m w = record {
      holders = c.reserve.ensures.items;
      users = refl;
      holders_room = c.reserve.ensures.capacity;
      users_room = omega arith;
    } in
    grown_seen c.args.self.now (c.get_mut.follows.lender w) c.args.name.now m w found ((c.get_mut.follows.holds w).3 (search rules)) grown

pub returns-in_err-reserve-clause-capacity : goal.returns-in_err-reserve-clause-capacity
returns-in_err-reserve-clause-capacity c =
    let m = c.in-Some.mentions.now in
    let w : Mentions = record { holders = c.reserve.new.self; users = c.in-Some.mentions.now.users } in
    let found : mentions_at c.args.self.now c.args.name.now ≡ Some m = sym c.in-Some.ensures.value in
    let grown : IsGrown m w = record {
      holders = c.reserve.ensures.items;
      users = refl;
      holders_room = c.reserve.ensures.capacity;
      users_room = omega arith;
    } in
    grown_capacity c.args.self.now (c.get_mut.follows.lender w) c.args.name.now m w found ((c.get_mut.follows.holds w).3 (search rules)) grown

pub returns-in_err-reserve-2-clause-seen : goal.returns-in_err-reserve-2-clause-seen
returns-in_err-reserve-2-clause-seen c =
    let m = c.in-Some.mentions.now in
    let w : Mentions = record { holders = c.reserve.new.self; users = c.reserve-in-Some.new.self } in
    let found : mentions_at c.args.self.now c.args.name.now ≡ Some m = sym c.in-Some.ensures.value in
    let grown : IsGrown m w = record {
      holders = c.reserve.ensures.items;
      users = c.reserve-in-Some.ensures.items;
      holders_room = c.reserve.ensures.capacity;
      users_room = c.reserve-in-Some.ensures.capacity;
    } in
    grown_seen c.args.self.now (c.get_mut.follows.lender w) c.args.name.now m w found ((c.get_mut.follows.holds w).3 (search rules)) grown

pub returns-in_err-reserve-2-clause-capacity : goal.returns-in_err-reserve-2-clause-capacity
returns-in_err-reserve-2-clause-capacity c =
    let m = c.in-Some.mentions.now in
    let w : Mentions = record { holders = c.reserve.new.self; users = c.reserve-in-Some.new.self } in
    let found : mentions_at c.args.self.now c.args.name.now ≡ Some m = sym c.in-Some.ensures.value in
    let grown : IsGrown m w = record {
      holders = c.reserve.ensures.items;
      users = c.reserve-in-Some.ensures.items;
      holders_room = c.reserve.ensures.capacity;
      users_room = c.reserve-in-Some.ensures.capacity;
    } in
    grown_capacity c.args.self.now (c.get_mut.follows.lender w) c.args.name.now m w found ((c.get_mut.follows.holds w).3 (search rules)) grown

pub returns-in_ok-reserve-2-clause-seen : goal.returns-in_ok-reserve-2-clause-seen
returns-in_ok-reserve-2-clause-seen c =
    let m = c.in-Some.mentions.now in
    let w : Mentions = record { holders = c.reserve.new.self; users = c.reserve-in-Some.new.self } in
    let found : mentions_at c.args.self.now c.args.name.now ≡ Some m = sym c.in-Some.ensures.value in
    let grown : IsGrown m w = record {
      holders = c.reserve.ensures.items;
      users = c.reserve-in-Some.ensures.items;
      holders_room = c.reserve.ensures.capacity;
      users_room = c.reserve-in-Some.ensures.capacity;
    } in
    grown_seen c.args.self.now (c.get_mut.follows.lender w) c.args.name.now m w found ((c.get_mut.follows.holds w).3 (search rules)) grown

pub returns-in_ok-reserve-2-clause-capacity : goal.returns-in_ok-reserve-2-clause-capacity
returns-in_ok-reserve-2-clause-capacity c =
    let m = c.in-Some.mentions.now in
    let w : Mentions = record { holders = c.reserve.new.self; users = c.reserve-in-Some.new.self } in
    let found : mentions_at c.args.self.now c.args.name.now ≡ Some m = sym c.in-Some.ensures.value in
    let grown : IsGrown m w = record {
      holders = c.reserve.ensures.items;
      users = c.reserve-in-Some.ensures.items;
      holders_room = c.reserve.ensures.capacity;
      users_room = c.reserve-in-Some.ensures.capacity;
    } in
    grown_capacity c.args.self.now (c.get_mut.follows.lender w) c.args.name.now m w found ((c.get_mut.follows.holds w).3 (search rules)) grown
