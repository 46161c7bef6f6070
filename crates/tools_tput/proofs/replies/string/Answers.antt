use Rattle.std.proofs.Common.{◌≡◌, ◌<◌, true, false, List, ℕ, length, map, Bor, refl, rules, subst, arith}
use Rattle.std.specs.Prelude.{is_some}
use Rattle.std.proofs.lemmas.List.{length-map}
use Rattle.tools_tput.specs.Results.{AnswersString}
use Rattle.tools_tput.specs.inside.Replies.{made_bytes}
use Rattle.tools_tput.specs.inside.Results.{sent_reply}
use Rattle.tools_tput.proofs.Answering.{sends_made, string_computed}
use Rattle.tools_tput.proofs.Sent.{of_expansion, of_fault, of_overflow, settled_none, settled_some}
use Rattle.tools_tput.proofs.replies.string.Goals as goal
use Rattle.tools_tput.proofs.replies.string.Goals.{then-is_some, else-is_some}

pub returns-after-is_some-clause-string : goal.returns-after-is_some-clause-string
returns-after-is_some-clause-string c =
    let words = map (λ (word : Bor (List ℕ)). word.now) c.args.words.now in
    let few : 0 < length c.args.words.now = search rules in
    let some : 0 < length words = omega (arith, length-map c.args.words.now (λ (word : Bor (List ℕ)). word.now)) in
    let after = c.expand.new.statics in
    let made = c.in_ok-made-in-Ok.made in
    let expands = rw c.parameters_of.ensures at c.in-Ok.ensures.ok in
    let is : AnswersString c.args.line.now c.args.cap.now words c.args.statics.now c.args.text.now (sent_reply (made_bytes made) c.args.statics.now after) =
    of_expansion c.args.line.now c.args.cap.now c.args.statics.now c.args.text.now words c.in-Ok.output.items after _ some expands
    (sends_made c.args.line.now c.in-Ok.output.items c.args.statics.now after (made_bytes made) c.in_ok-made-in-Ok.ensures) in
    let now = c.if-is_some.statics in
    let settled : AnswersString c.args.line.now c.args.cap.now words c.args.statics.now c.args.text.now (sent_reply (made_bytes made) now now) =
    elim c.if-is_some.branch [
      | then-is_some w ↦ (let yes : is_some made ≡ true = search rules in
          subst (AnswersString c.args.line.now c.args.cap.now words c.args.statics.now c.args.text.now)
          (settled_some made c.args.statics.now after c.if-is_some.statics yes w.statics-is) is)
      | else-is_some w ↦ (let no : is_some made ≡ false = search rules in
          subst (AnswersString c.args.line.now c.args.cap.now words c.args.statics.now c.args.text.now)
          (settled_none made c.args.statics.now after c.if-is_some.statics no w.statics-is) is)
    ] in
    string_computed c.args.line.now c.args.cap.now words c.args.statics.now c.args.text.now _ settled

pub returns-in-Err-BadFormat-clause-string : goal.returns-in-Err-BadFormat-clause-string
returns-in-Err-BadFormat-clause-string c =
    let words = map (λ (word : Bor (List ℕ)). word.now) c.args.words.now in
    let few : 0 < length c.args.words.now = search rules in
    let some : 0 < length words = omega (arith, length-map c.args.words.now (λ (word : Bor (List ℕ)). word.now)) in
    string_computed c.args.line.now c.args.cap.now words c.args.statics.now c.args.text.now _
    (of_fault c.args.line.now c.args.cap.now c.args.statics.now c.args.text.now words c.in-Err-BadFormat.field-0-0 some
    ((rw c.in-Err-BadFormat.field-0-is at (c.in-Err-BadFormat.ensures.bad_format c.in-Err-BadFormat.field-0-0)).0 refl))

pub returns-in-Err-StackFull-clause-string : goal.returns-in-Err-StackFull-clause-string
returns-in-Err-StackFull-clause-string c =
    let words = map (λ (word : Bor (List ℕ)). word.now) c.args.words.now in
    let few : 0 < length c.args.words.now = search rules in
    let some : 0 < length words = omega (arith, length-map c.args.words.now (λ (word : Bor (List ℕ)). word.now)) in
    string_computed c.args.line.now c.args.cap.now words c.args.statics.now c.args.text.now _
    (of_overflow c.args.line.now c.args.cap.now c.args.statics.now c.args.text.now words c.in-Err-StackFull.field-0-0 some
    (rw c.parameters_of.ensures at ((rw c.in-Err-StackFull.field-0-is at (c.in-Err-StackFull.ensures.stack_full c.in-Err-StackFull.field-0-0)) refl)))
