use Rattle.std.proofs.Common.{◌≡◌, ◌∷◌, ◌++◌, ◌∙◌, ◌+◌, List, ℕ, map, true, false, Bor, ap, refl, rules, subst, sym}
use Rattle.std.specs.Prelude.{min}
use Rattle.std.proofs.lemmas.Bool.{ne_eqb}
use Rattle.std.proofs.lemmas.List.{append-nil}
use Rattle.tools_tput.specs.Replies.{reply_of}
use Rattle.everyday_tput.specs.Answers.{target_of}
use Rattle.everyday_tput.specs.Running.{goes_on, nothing, passed_by, stopped}
use Rattle.everyday_tput.specs.inside.Running.{Progress, after_those}
use Rattle.everyday_tput.proofs.Needed.{map_nil}
use Rattle.everyday_tput.proofs.Progress.{advances, counted_more, counted_none, counted_same, runs_nothing, stops_there}
use Rattle.everyday_tput.proofs.running.run.Goals as goal
use Rattle.everyday_tput.proofs.running.run.Goals.{then-status-ne0, else-status-ne0}

pub returns-then-not-goes_on : goal.returns-then-not-goes_on
returns-then-not-goes_on c = λ line.
    let t = target_of c.args.target.now in
    let words = map (λ (word : Bor (List ℕ)). word.now) c.args.words.now in
    let cap = c.in-Some.cap.now.now in
    let others = map (λ (word : Bor (List ℕ)). word.now) c.in-Some.others.now in
    let all : map (λ (word : Bor (List ℕ)). word.now) c.loop-cap.rest.now ≡ cap ∷ others = search rules in
    let p = subst (Progress t c.args.until c.args.statics.now words c.loop-cap.bytes.items c.loop-cap.passed c.loop-cap.statics) all (c.loop-cap.invariant line) in
    let r = reply_of c.in_ok-outcome.outcome c.step.new.statics in
    let off : goes_on c.args.until c.in_ok-outcome.outcome.status ≡ false = sym c.if-not-goes_on.ensures in
    record {
      run = after_those c.loop-cap.bytes.items p.count (stopped r cap);
      runs = stops_there t c.args.until c.args.statics.now words c.loop-cap.bytes.items c.loop-cap.passed c.loop-cap.statics cap others p r
          c.in_ok-outcome.count (c.in_ok-outcome.ensures line) off;
      bytes = sym (c.in_ok-extend_from_slice.ensures.items ∙ ap (λ (b : List ℕ). c.loop-cap.bytes.items ++ b) c.as_slice.ensures.value);
      statics = refl;
      passed = counted_none c.loop-cap.passed p.count p.counted;
      stop = refl;
    }

pub loop-cap-preserved : goal.loop-cap-preserved
loop-cap-preserved c = λ line.
    let t = target_of c.args.target.now in
    let words = map (λ (word : Bor (List ℕ)). word.now) c.args.words.now in
    let cap = c.in-Some.cap.now.now in
    let others = map (λ (word : Bor (List ℕ)). word.now) c.in-Some.others.now in
    let all : map (λ (word : Bor (List ℕ)). word.now) c.loop-cap.rest.now ≡ cap ∷ others = search rules in
    let p = subst (Progress t c.args.until c.args.statics.now words c.loop-cap.bytes.items c.loop-cap.passed c.loop-cap.statics) all (c.loop-cap.invariant line) in
    let status = c.in_ok-outcome.outcome.status in
    let r = reply_of c.in_ok-outcome.outcome c.step.new.statics in
    let on : goes_on c.args.until status ≡ true = sym c.if-not-goes_on.ensures in
    let more : c.if-status-ne0.passed ≡ min 255 (p.count + passed_by status) =
    elim c.if-status-ne0.branch [
      | then-status-ne0 w ↦ counted_more c.loop-cap.passed p.count w.saturating_add-passed.result c.if-status-ne0.passed (passed_by status) p.counted
          w.saturating_add-passed.ensures w.passed-is (rw (ne_eqb _ _ w.if-status-ne0.true) refl)
      | else-status-ne0 w ↦ counted_same c.loop-cap.passed p.count c.if-status-ne0.passed (passed_by status) p.counted w.passed-is
          (rw w.if-status-ne0.false refl)
    ] in
    rw (c.in_ok-extend_from_slice.ensures.items, c.as_slice.ensures.value, c.later_words-rest.ensures.words)
    (advances t c.args.until c.args.statics.now words c.loop-cap.bytes.items c.loop-cap.passed c.loop-cap.statics cap others p r c.in_ok-outcome.count
    (c.in_ok-outcome.ensures line) c.if-status-ne0.passed on more)

pub returns : goal.returns
returns c = λ line.
    let t = target_of c.args.target.now in
    let words = map (λ (word : Bor (List ℕ)). word.now) c.args.words.now in
    let none = map_nil (λ (word : Bor (List ℕ)). word.now) c.loop-cap.rest.now c.in_default.ensures.cases in
    let p = subst (Progress t c.args.until c.args.statics.now words c.loop-cap.bytes.items c.loop-cap.passed c.loop-cap.statics) none (c.loop-cap.invariant line) in
    record {
      run = after_those c.loop-cap.bytes.items p.count (nothing c.loop-cap.statics);
      runs = p.leads (nothing c.loop-cap.statics) (runs_nothing t c.args.until c.loop-cap.statics);
      bytes = append-nil c.loop-cap.bytes.items;
      statics = refl;
      passed = counted_none c.loop-cap.passed p.count p.counted;
      stop = refl;
    }
