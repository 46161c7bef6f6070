use Rattle.std.proofs.Common.{◌∙◌, sym, ap, cond, Option, Some, None, is_some, refl, ◌≡◌}
use Rattle.std.specs.Option.{option_map}
use Rattle.base_meaning.specs.Readings.{reading_by}
use Rattle.user_values.proofs.Making.{read_by_text}
use Rattle.ti_layout.specs.Values.{contents}
use Rattle.user_compiling.proofs.SourceFaults.{entry_none, entry_one}
use Rattle.user_compiling.proofs.block_faults.is_oversized.Goals as goal

some-map : {X Y : Type 0} (f : X → Y) (o : Option X) → is_some (option_map f o) ≡ is_some o
some-map f None = refl
some-map f (Some x) = refl

pub returns-in-Some : goal.returns-in-Some
returns-in-Some c = λ text stands. entry_none c.args.database.now.rule c.args.database.now.texts c.args.at text _ stands c.in-Some.ensures

pub returns-in-None : goal.returns-in-None
returns-in-None c = λ text stands.
    entry_one contents c.args.database.now.rule c.args.database.now.texts c.args.at text _ stands
    (c.values.ensures (reading_by c.args.database.now.rule text) (read_by_text c.args.database.now.rule c.args.database.now.texts c.args.at text stands)) c.in-None.ensures
    ∙ ap (λ v. cond v 1 0) (some-map (λ t. t.now) c.values.result ∙ sym c.is_some.ensures)
