use Rattle.std.proofs.Common.{◌<◌, length, refl, ◌∙◌, arith}
use Rattle.std.proofs.lemmas.List.{length-map}
use Rattle.ti_layout.specs.Values.{contents, entries_of}
use Rattle.ti_compiled.proofs.TableWalk.{passes_up, walk_begins, walk_ends, nothing_comes, entry_agrees, old_left, one_given}
use Rattle.ti_compiled.proofs.patching.give_all_changed.Goals as goal

pub loop-entry-init : goal.loop-entry-init
loop-entry-init c = record {
  names = refl;
  walks = walk_begins (entries_of c.args.new.now) c.requires.sorted _ _ _ _ (λ m lt. omega arith) c.requires.left
      (λ d none left. nothing_comes (contents c.args.old.now) (contents (entries_of c.args.new.now)) d _ none left);
}

pub give_changed-requires-clause-agrees : goal.give_changed-requires-clause-agrees
give_changed-requires-clause-agrees c = entry_agrees c.args.new.now c.requires.sorted _ _ c.loop-entry-test.true c.entry-item.is

pub give_changed-requires-clause-left : goal.give_changed-requires-clause-left
give_changed-requires-clause-left c = old_left c.args.new.now c.requires.sorted _ _ c.loop-entry-test.true c.entry-item.is _ _ _ _
    (passes_up c.loop-entry.entry-index) (omega arith) c.loop-entry.invariant.walks

pub loop-entry-preserved : goal.loop-entry-preserved
loop-entry-preserved c =
    let done = c.in_ok-give_changed.ensures in
    record {
      names = done.names ∙ c.loop-entry.invariant.names;
      walks = one_given c.args.new.now c.requires.sorted _ _ c.loop-entry-test.true c.entry-item.is _ _ _ _ (passes_up c.loop-entry.entry-index)
          (omega arith) c.loop-entry.invariant.walks _ done.given done.others.says;
    }

pub returns-clause-names : goal.returns-clause-names
returns-clause-names c = c.loop-entry.invariant.names

pub returns-clause-contents : goal.returns-clause-contents
returns-clause-contents c = walk_ends (entries_of c.args.new.now) c.requires.sorted _ _ _ _
    (λ m le lt. let e = c.loop-entry-test.false in let within : m < length c.args.new.now = rw length-map at lt in omega arith) c.loop-entry.invariant.walks
