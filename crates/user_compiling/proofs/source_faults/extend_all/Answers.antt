use Rattle.std.proofs.Common.{◌≡◌, ◌∙◌, ◌++◌, ◌+◌, suc, map, take, drop, length, refl, sym, ap, subst, arith, slice_get, Some, All, List}
use Rattle.std.specs.List.{take-map, drop-map}
use Rattle.std.proofs.lemmas.List.Elements.{All-nil, All-take, All-drop}
use Rattle.ti_text.proofs.Lists.{item_at}
use Rattle.base_meaning.specs.Readings.{reading_by, readings_by}
use Rattle.base_meaning.specs.Usable.{IsPlaced}
use Rattle.base_meaning.specs.Faults.{SourceFault, fault_seen as profile_fault_seen, block_faults, faults_after}
use Rattle.user_compiling.specs.declared.fault.ExtendedFault.{ExtendedFault}
use Rattle.user_compiling.specs.Faults.{fault_seen, extended_faults_after}
use Rattle.user_compiling.specs.Report.{IsExtendedPlaced}
use Rattle.user_compiling.specs.inside.Pairs.{count_at}
use Rattle.std.proofs.lemmas.Option.{slice_get_read}
use Rattle.user_compiling.proofs.SourceFaults.{count_of_block, part_front, part_back, one_block_more, left_in_two, left_more, none_left}
use Rattle.user_compiling.proofs.source_faults.extend_all.Goals as goal

pub add_block_faults-requires-clause-profile : goal.add_block_faults-requires-clause-profile
add_block_faults-requires-clause-profile c = λ text stands.
    let db = c.args.database.now.texts in
    let rule = c.args.database.now.rule in
    let blocks = readings_by rule db in
    let at = c.loop-at.at in
    let rest = c.loop-at.rest.now in
    let b = reading_by rule text in
    let two = left_in_two rule db at text (map profile_fault_seen rest) stands c.loop-at.invariant.left in
    let count = c.count_at.ensures.count ∙ ap (count_at at) two ∙ count_of_block blocks at b (drop (at + 1) blocks) in
    ap (map profile_fault_seen) (c.split_at.ensures.front ∙ ap (λ n. take n rest) count)
    ∙ part_front profile_fault_seen rest (block_faults blocks at b) (faults_after blocks (suc at) (drop (at + 1) blocks)) two

pub loop-at-preserved : goal.loop-at-preserved
loop-at-preserved c =
    let db = c.args.database.now.texts in
    let rule = c.args.database.now.rule in
    let blocks = readings_by rule db in
    let at = c.loop-at.at in
    let rest = c.loop-at.rest.now in
    let i = c.loop-at.invariant in
    let item = item_at db at (omega (arith, c.loop-at-test.true, c.requires.as_many)) in
    let text = item.0 in
    let stands : slice_get db at ≡ Some text = item.1 in
    let b = reading_by rule text in
    let two = left_in_two rule db at text (map profile_fault_seen rest) stands i.left in
    let count = c.count_at.ensures.count ∙ ap (count_at at) two ∙ count_of_block blocks at b (drop (at + 1) blocks) in
    let front_is : map profile_fault_seen c.split_at.result.0.now ≡ take c.count_at.result (map profile_fault_seen rest) =
    ap (map profile_fault_seen) c.split_at.ensures.front ∙ sym (take-map profile_fault_seen c.count_at.result rest) in
    let back_is : map profile_fault_seen c.split_at.result.1.now ≡ drop c.count_at.result (map profile_fault_seen rest) =
    ap (map profile_fault_seen) c.split_at.ensures.back ∙ sym (drop-map profile_fault_seen c.count_at.result rest) in
    let Placed : List SourceFault → Type 0 = All (IsPlaced (length db)) in
    let front_placed = subst Placed (sym front_is) (All-take (IsPlaced (length db)) c.count_at.result (map profile_fault_seen rest) i.left_placed) in
    let finding = slice_get_read c.args.findings.now (length c.args.findings.now) at c.index-findings-at.result refl c.loop-at-test.true c.index-findings-at.is in
    record {
      left = left_more rule db at (map profile_fault_seen c.split_at.result.1.now)
          (ap (map profile_fault_seen) (c.split_at.ensures.back ∙ ap (λ n. drop n rest) count)
          ∙ part_back profile_fault_seen rest (block_faults blocks at b) (faults_after blocks (suc at) (drop (at + 1) blocks)) two);
      left_placed = subst Placed (sym back_is) (All-drop (IsPlaced (length db)) c.count_at.result (map profile_fault_seen rest) i.left_placed);
      all = λ states by.
          let state = item_at states at (omega (arith, c.loop-at-test.true, c.requires.as_many, by.0)) in
          one_block_more rule db states at text state.0 (map fault_seen c.loop-at.all.items)
          (map fault_seen c.add_block_faults.new.faults.items) _ stands state.1 (i.all states by)
          (c.in_ok-add_block_faults.ensures.added text state.0 stands (by.1 at text state.0 c.index-findings-at.result stands state.1 finding));
      placed = c.in_ok-add_block_faults.ensures.placed front_placed i.placed;
    }

pub loop-at-init : goal.loop-at-init
loop-at-init c =
    let db = c.args.database.now.texts in
    let rule = c.args.database.now.rule in
    let blocks = readings_by rule db in
    record {
      left = c.requires.profile;
      left_placed = c.requires.placed;
      all = λ states by.
          ap (λ (xs : List ExtendedFault). map fault_seen xs ++ extended_faults_after blocks 0 db states) c.new-all.ensures.items;
      placed = subst (λ (xs : List ExtendedFault). All (IsExtendedPlaced (length db)) (map fault_seen xs)) (sym c.new-all.ensures.items)
          (All-nil (IsExtendedPlaced (length db)));
    }

pub returns-clause-all : goal.returns-clause-all
returns-clause-all c = λ states by.
    let db = c.args.database.now.texts in
    let rule = c.args.database.now.rule in
    let blocks = readings_by rule db in
    none_left blocks c.loop-at.at db states (map fault_seen c.loop-at.all.items) _
    (omega (arith, c.loop-at-test.false, c.requires.as_many)) (c.loop-at.invariant.all states by)

pub returns-clause-placed : goal.returns-clause-placed
returns-clause-placed c = c.loop-at.invariant.placed
