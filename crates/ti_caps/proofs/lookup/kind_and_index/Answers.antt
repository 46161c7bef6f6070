-- the row with that key has the name, or no row has it
use Rattle.std.proofs.Common.{◌<◌, Ok, Err, subst}
use Rattle.std.proofs.lemmas.List.Sorted.{searched}
use Rattle.ti_caps.specs.declared.keys.TheConstants.{KEYS}
use Rattle.ti_caps.specs.inside.Lookup.{by_name}
use Rattle.ti_caps.specs.inside.Keys.{key_of}
use Rattle.ti_caps.proofs.KeyTable.{as_long, keys_do_not_fall, only_place, no_place, none_then}
use Rattle.ti_caps.proofs.lookup.kind_and_index.Goals as goal

pub row_at-requires : goal.row_at-requires
row_at-requires c =
    let at = searched KEYS (key_of c.args.name.now) (Ok c.in-Ok.place) (rw (← c.key_of.ensures) c.in-Ok.ensures.position) keys_do_not_fall in
    subst (λ n. c.in-Ok.place < n) as_long at.0

pub returns-in-Ok-clause-found : goal.returns-in-Ok-clause-found
unfolding by_name
returns-in-Ok-clause-found c = c.row_at.ensures.found

pub returns-in-Ok-clause-none : goal.returns-in-Ok-clause-none
unfolding by_name
returns-in-Ok-clause-none c =
    let at = searched KEYS (key_of c.args.name.now) (Ok c.in-Ok.place) (rw (← c.key_of.ensures) c.in-Ok.ensures.position) keys_do_not_fall in
    none_then c.row_at.result (only_place c.args.name.now c.in-Ok.place at.0 at.1) c.row_at.ensures.none

pub returns-in-Err-clause-none : goal.returns-in-Err-clause-none
returns-in-Err-clause-none c =
    let at = searched KEYS (key_of c.args.name.now) (Err c.in-Err.field-0) (rw (← c.key_of.ensures) c.in-Err.ensures.position) keys_do_not_fall in
    no_place c.args.name.now c.in-Err.field-0 at.1 at.2
