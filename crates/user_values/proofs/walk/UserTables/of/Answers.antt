use Rattle.std.proofs.Common.{◌≡◌, ◌+◌, ◌<◌, ◌≤◌, List, [], map, length, take, Err, ap, subst}
use Rattle.user_items.specs.declared.reading.UserItems.{UserItems}
use Rattle.user_items.specs.Reading.{user_reading_of}
use Rattle.user_values.specs.declared.fault.ValuesError.TheVariants.{TooManyNames}
use Rattle.user_values.specs.Limit.{name_limit, distinct_after, names_in}
use Rattle.user_values.proofs.Naming.{over_limit}
use Rattle.user_values.proofs.walk.UserTables.of.Goals as goal

pub returns-clause-too_many : goal.returns-clause-too_many
returns-clause-too_many c = λ at e.
    let same : c.in-Err.error ≡ TooManyNames at = cc in
    let Over : List UserItems → Type 0 = λ rs. (at < length rs) × (length (distinct_after [] (names_in (map user_reading_of (take at rs)))) ≤ name_limit)
    × (name_limit < length (distinct_after [] (names_in (map user_reading_of (take (at + 1) rs))))) in
    let over : Over c.in_ok-reads.reads.items = subst Over c.deref.ensures.value (c.in-Err.ensures.too_many at (ap (λ x. Err x) same)) in
    over_limit c.in_ok-reads.reads.items c.args.database.now.texts at c.in_ok-reads.ensures over.0 over.1 over.2
