use Rattle.std.proofs.Common.{◌≡◌, ◌<◌, length, Less, Equal, Greater, arith}
use Rattle.std.proofs.lemmas.Cmp.{ranked}
use Rattle.std.proofs.lemmas.List.{length-map}
use Rattle.ti_layout.specs.Values.{entries_of}
use Rattle.ti_layout.proofs.Fronts.{rank_found}
use Rattle.ti_layout.proofs.merging.whose_turn.Goals as goal

pub returns-in-Less : goal.returns-in-Less
returns-in-Less c =
    let f = c.in-Some-Some.ensures.lookup in
    let s = c.in-Some-Some.ensures'.lookup in
    let rank_f = rank_found _ _ _ f.3.0 f.1 in
    let rank_s = rank_found _ _ _ s.3.0 s.1 in
    let less : c.rank.result < c.rank-in-Some-Some.result = ranked c.rank.result c.rank-in-Some-Some.result Less c.in-Less.ensures in
    let within : c.args.at_first < length (entries_of c.args.first.now) = rw length-map f.3.0 in
    (within, λ _. omega arith)

pub returns-in-Equal : goal.returns-in-Equal
returns-in-Equal c =
    let f = c.in-Some-Some.ensures.lookup in
    let s = c.in-Some-Some.ensures'.lookup in
    let rank_f = rank_found _ _ _ f.3.0 f.1 in
    let rank_s = rank_found _ _ _ s.3.0 s.1 in
    let same : c.rank.result ≡ c.rank-in-Some-Some.result = ranked c.rank.result c.rank-in-Some-Some.result Equal c.in-Equal.ensures in
    let within_f : c.args.at_first < length (entries_of c.args.first.now) = rw length-map f.3.0 in
    let within_s : c.args.at_second < length (entries_of c.args.second.now) = rw length-map s.3.0 in
    (within_f, within_s, omega arith)

pub returns-in-Greater : goal.returns-in-Greater
returns-in-Greater c =
    let f = c.in-Some-Some.ensures.lookup in
    let s = c.in-Some-Some.ensures'.lookup in
    let rank_f = rank_found _ _ _ f.3.0 f.1 in
    let rank_s = rank_found _ _ _ s.3.0 s.1 in
    let more : c.rank-in-Some-Some.result < c.rank.result = ranked c.rank.result c.rank-in-Some-Some.result Greater c.in-Greater.ensures in
    let within : c.args.at_second < length (entries_of c.args.second.now) = rw length-map s.3.0 in
    (within, λ _. omega arith)
