use Rattle.std.proofs.Common.{[], List, ℕ, map, Bor, Some, refl, subst, sym}
use Rattle.tools_tput.specs.Replies.{reply_of}
use Rattle.tools_tput.specs.Results.{Reply, number_text, reply}
use Rattle.everyday_tput.specs.Answers.{alone, of_defined_flag, of_defined_number, of_flag, of_number, of_other, target_of, with_words}
use Rattle.everyday_tput.specs.Commands.{of_no_text}
use Rattle.everyday_tput.specs.inside.Strings.{Steps}
use Rattle.everyday_tput.proofs.Steps.{steps_any}
use Rattle.everyday_tput.proofs.commands.step.Goals as goal

pub returns-in-Flag : goal.returns-in-Flag
returns-in-Flag c = λ line.
    rw (c.status_alone.ensures.bytes, c.status_alone.ensures.status)
    (steps_any (target_of c.args.target.now) c.args.statics.now c.args.cap.now (reply [] 0 c.args.statics.now)
    (map (λ (word : Bor (List ℕ)). word.now) c.args.others.now) (of_no_text (of_flag c.in-Flag.ensures)) (of_defined_flag c.in-Flag.ensures)
    (λ words. of_defined_flag c.in-Flag.ensures))

pub returns-in_ok-number_outcome-in-Number : goal.returns-in_ok-number_outcome-in-Number
returns-in_ok-number_outcome-in-Number c = λ line.
    let t = target_of c.args.target.now in
    let others = map (λ (word : Bor (List ℕ)). word.now) c.args.others.now in
    let s = c.args.statics.now in
    subst (λ (r : Reply). Steps t s c.args.cap.now others r 0) (sym (c.in_ok-number_outcome-in-Number.ensures s))
    (steps_any t s c.args.cap.now (reply (number_text (Some c.in-Number.number)) 0 s) others (of_no_text (of_number c.in-Number.ensures))
    (of_defined_number c.in-Number.ensures) (λ words. of_defined_number c.in-Number.ensures))

pub returns-in_ok-answer_other-in-Other : goal.returns-in_ok-answer_other-in-Other
returns-in_ok-answer_other-in-Other c = λ line.
    let other = c.in-Other.ensures in
    let s = c.args.statics.now in
    let answers = c.in_ok-answer_other-in-Other.ensures s in
    steps_any (target_of c.args.target.now) s c.args.cap.now (reply_of c.in_ok-answer_other-in-Other.field-0 s)
    (map (λ (word : Bor (List ℕ)). word.now) c.args.others.now) (of_no_text (of_other other.0 other.1))
    (answers (alone c.args.cap.now) line other refl) (λ words. answers (with_words c.args.cap.now words) line other refl)
