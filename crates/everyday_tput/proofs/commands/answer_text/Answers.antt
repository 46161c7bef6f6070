use Rattle.std.proofs.Common.{◌≡◌, ◌<◌, List, ℕ, length, map, take, Bor, refl, rules, sym, subst, arith}
use Rattle.std.proofs.lemmas.List.{length-map}
use Rattle.ti_printing.specs.declared.padding.Line.{Line}
use Rattle.tools_tput.specs.Replies.{reply_of}
use Rattle.tools_tput.specs.Results.{Sends}
use Rattle.everyday_tput.specs.Answers.{AnswersString, as_it_stands, by_fault, of_string, with_words}
use Rattle.everyday_tput.specs.Commands.{Takes, of_stuck, of_text}
use Rattle.everyday_tput.specs.inside.Strings.{Steps}
use Rattle.everyday_tput.proofs.Needed.{map_nil}
use Rattle.everyday_tput.proofs.Steps.{steps_more}
use Rattle.everyday_tput.proofs.commands.answer_text.Goals as goal

pub returns-then-is_empty : goal.returns-then-is_empty
returns-then-is_empty c = λ t line has.
    let zero : length c.args.others.now ≡ 0 = search rules in
    let r = reply_of c.in_ok-as_it_stands.field-0 c.args.statics.now in
    subst (λ ws. Steps t c.args.statics.now c.args.cap.now ws r 0) (sym (map_nil (λ (word : Bor (List ℕ)). word.now) c.args.others.now zero))
    (of_string has (as_it_stands (subst (λ (l : Line). Sends l c.args.text.now c.args.statics.now c.args.statics.now r) line
    (c.in_ok-as_it_stands.ensures c.args.statics.now))))

pub returns-in_default : goal.returns-in_default
returns-in_default c = λ t line has.
    let others = map (λ (word : Bor (List ℕ)). word.now) c.args.others.now in
    let few : 0 < length c.args.others.now = search rules in
    let some : 0 < length others = omega (arith, length-map c.args.others.now (λ (word : Bor (List ℕ)). word.now)) in
    let stuck = c.in_default.ensures.none.0 refl in
    let takes : Takes t.full c.args.cap.now c.least_words.result = rw c.least_words.ensures (of_stuck has stuck.1) in
    steps_more t c.args.statics.now c.args.cap.now (reply_of c.status_alone.result c.args.statics.now) others c.least_words.result some takes
    (rw (c.status_alone.ensures.bytes, c.status_alone.ensures.status) (of_string has (by_fault stuck.1)))

pub returns : goal.returns
returns c = λ t line has.
    let others = map (λ (word : Bor (List ℕ)). word.now) c.args.others.now in
    let few : 0 < length c.args.others.now = search rules in
    let some : 0 < length others = omega (arith, length-map c.args.others.now (λ (word : Bor (List ℕ)). word.now)) in
    let n = c.words_by-count.result in
    let r = reply_of c.in_ok-outcome.outcome c.expanded.new.statics in
    let takes : Takes t.full c.args.cap.now n = rw c.words_by-count.ensures (of_text has c.in-Some.ensures.some) in
    let answered = c.in_ok-outcome.ensures c.in-Some.ensures.some in
    steps_more t c.args.statics.now c.args.cap.now r others n some takes
    (of_string has (subst (λ (l : Line). AnswersString l c.args.statics.now c.args.text.now (with_words c.args.cap.now (take n others)) r) line
    (rw c.first_words-words.ensures at answered)))
