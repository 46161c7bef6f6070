use Rattle.std.proofs.Common.{◌≡◌, ℕ, ◌+◌, ◌-◌, length, ap, sym, ◌∙◌, arith}
use Rattle.base_meaning.specs.Owner.{readings}
use Rattle.source_blocks.specs.Deciding.{decider_by, decider_in}
use Rattle.source_blocks.specs.declared.deciding.Say.{Say}
use Rattle.source_blocks.proofs.Deciders.{walk_by, walk_over}
use Rattle.source_blocks.proofs.deciding.decider_in.Goals as goal

pub returns-in-Silent : goal.returns-in-Silent
returns-in-Silent c =
    let blocks = readings c.args.database.now in
    let most = length c.args.database.now in
    let passed = c.loop-passed._passed in
    ap (λ (s : Say). decider_by s c.loop-passed.here (decider_in blocks c.args.cap (most - (passed + 1)))) (sym c.in-Silent.is)
    ∙ walk_by blocks c.args.cap most passed c.loop-passed.here c.say_at.result (decider_in blocks c.args.cap most c.args.at) (omega arith)
    c.say_at.ensures.said c.loop-passed.invariant.so

pub returns-in-Decisive : goal.returns-in-Decisive
returns-in-Decisive c =
    let blocks = readings c.args.database.now in
    let most = length c.args.database.now in
    let passed = c.loop-passed._passed in
    ap (λ (s : Say). decider_by s c.loop-passed.here (decider_in blocks c.args.cap (most - (passed + 1)))) (sym c.in-Decisive.is)
    ∙ walk_by blocks c.args.cap most passed c.loop-passed.here c.say_at.result (decider_in blocks c.args.cap most c.args.at) (omega arith)
    c.say_at.ensures.said c.loop-passed.invariant.so

pub loop-passed-preserved : goal.loop-passed-preserved
loop-passed-preserved c =
    let blocks = readings c.args.database.now in
    let most = length c.args.database.now in
    let passed = c.loop-passed._passed in
    record {
      so = ap (λ (s : Say). decider_by s c.loop-passed.here (decider_in blocks c.args.cap (most - (passed + 1)))) (sym c.in-HandsOn.is)
          ∙ walk_by blocks c.args.cap most passed c.loop-passed.here c.say_at.result (decider_in blocks c.args.cap most c.args.at) (omega arith)
          c.say_at.ensures.said c.loop-passed.invariant.so;
      within = c.say_at.ensures.within c.in-HandsOn.next c.in-HandsOn.is;
    }

pub returns : goal.returns
returns c =
    let blocks = readings c.args.database.now in
    let none : length c.args.database.now - c.loop-passed._passed ≡ 0 = omega (arith, c.loop-passed-test.false) in
    sym (walk_over blocks c.args.cap c.loop-passed.here) ∙ ap (λ (n : ℕ). decider_in blocks c.args.cap n c.loop-passed.here) (sym none)
    ∙ c.loop-passed.invariant.so
