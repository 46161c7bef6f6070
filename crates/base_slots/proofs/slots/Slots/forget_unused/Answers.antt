use Rattle.ti_source.specs.Reading.{reading_of}
use Rattle.base_meaning.proofs.Leading.{used-any_use}
use Rattle.base_slots.specs.declared.indexing.Role.TheVariants.{Holder, User}
use Rattle.base_slots.specs.declared.slots.Slots.TheInside.{Inside}
use Rattle.base_slots.proofs.Seen.{forgotten_shown}
use Rattle.base_slots.proofs.Made.{fewer_indexed}
use Rattle.base_slots.proofs.slots.Slots.forget_unused.Goals as goal

pub returns-clause-forgotten : goal.returns-clause-forgotten
returns-clause-forgotten c =
    let new : Inside = record { order = c.self.inside.order; names = c.forget.new.index; slots = c.self.inside.slots } in
    let indexed = fewer_indexed c.self.inside new c.self.invariant c.forget.ensures.same in
    record {
      names = λ name said. forgotten_shown new name indexed (c.forget.ensures.gone Holder name said);
      uses = λ name said. forgotten_shown new name indexed (c.forget.ensures.gone User name (used-any_use name (reading_of c.args.block.now).items said));
    }
