use Rattle.std.proofs.Common.{◌-◌, refl, ◌∙◌, arith}
use Rattle.std.proofs.lemmas.List.{length-map}
use Rattle.ti_layout.specs.Values.{contents, entries_of}
use Rattle.ti_compiled.proofs.TableWalk.{passes_down, walk_begins, walk_ends, nothing_goes, old_held, one_taken_away}
use Rattle.ti_compiled.proofs.patching.take_all_changed_away.Goals as goal

pub loop-left-init : goal.loop-left-init
loop-left-init c = record {
  within = omega arith;
  names = refl;
  walks = walk_begins (entries_of c.args.old.now) c.requires.sorted _ _ _ _ (λ m lt. rw length-map at lt) c.requires.held
      (λ d none said. nothing_goes (contents (entries_of c.args.old.now)) (contents c.args.new.now) d _ none said);
}

pub take_away_changed-requires : goal.take_away_changed-requires
take_away_changed-requires c =
    let above = c.loop-left-test.true in
    let within = c.loop-left.invariant.within in
    record {
      held = old_held c.args.old.now c.requires.sorted (c.loop-left.left - 1) _ (omega arith) c.index-old-left.is _ _ _ _
          (passes_down c.loop-left.left (c.loop-left.left - 1) (omega arith)) (omega arith)
          c.loop-left.invariant.walks;
    }

pub loop-left-preserved : goal.loop-left-preserved
loop-left-preserved c =
    let above = c.loop-left-test.true in
    let within = c.loop-left.invariant.within in
    let done = c.in_ok-take_away_changed.ensures in
    record {
      within = omega arith;
      names = done.names ∙ c.loop-left.invariant.names;
      walks = one_taken_away c.args.old.now c.requires.sorted (c.loop-left.left - 1) _ (omega arith) c.index-old-left.is _ _ _ _
          (passes_down c.loop-left.left (c.loop-left.left - 1) (omega arith)) (omega arith)
          c.loop-left.invariant.walks _ done.left done.others.says;
    }

pub returns-clause-names : goal.returns-clause-names
returns-clause-names c = c.loop-left.invariant.names

pub returns-clause-left : goal.returns-clause-left
returns-clause-left c = walk_ends (entries_of c.args.old.now) c.requires.sorted _ _ _ _ (λ m lt within. omega arith) c.loop-left.invariant.walks
