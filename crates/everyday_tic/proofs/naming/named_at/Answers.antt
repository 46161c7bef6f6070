use Rattle.std.proofs.Common.{List, Option, ap, option_map, sym, ℕ, ◌∙◌, slice_get}
use Rattle.everyday_names.specs.Fields.{fields_seen}
use Rattle.everyday_tic.specs.Named.{named_state}
use Rattle.everyday_tic.specs.inside.States.{option_flat, others_seen, put, states_of}
use Rattle.everyday_tic.proofs.WholeNames.{no-names, whole-names}
use Rattle.everyday_tic.proofs.naming.named_at.Goals as goal

pub returns-in_default-entry_at : goal.returns-in_default-entry_at
returns-in_default-entry_at c state becomes =
    let at = c.args.at in
    no-names (states_of c.args.database.now.rule c.args.database.now.texts (option_map (λ c. c.now) c.args.compiled)) (others_seen c.args.others.now) at state
    becomes (option_flat (slice_get (fields_seen c.args.fields.now) at)) (sym c.in_default-entry_at.ensures)

pub returns : goal.returns
returns c state becomes =
    let at = c.args.at in
    let others = others_seen c.args.others.now in
    whole-names (states_of c.args.database.now.rule c.args.database.now.texts (option_map (λ c. c.now) c.args.compiled)) others at state becomes
    c.in-Some.field.now c.in-Some-entry_at.bytes.now c.in_ok-name_entry.field-0.items (sym c.in-Some-entry_at.ensures) c.in_ok-name_entry.ensures
    ∙ ap (λ (f : Option (List ℕ)). named_state f (put state (option_flat (slice_get others at)))) c.in-Some.ensures
