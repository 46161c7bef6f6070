-- A name with as many of the words after it as it takes.
use Rattle.std.proofs.Common.{◌≡◌, ℕ, ◌<◌, Bool, true, false, List, [], ◌∷◌, length, take, Option, Result, Ok, Err, subst, sym, arith}
use Rattle.std.specs.Prelude.{IfOk, Some, None, ℤ, bytes_eq, codes}
use Rattle.ti_layout.specs.View.{shown_text}
use Rattle.ti_printing.specs.declared.padding.Line.{Line}
use Rattle.tools_tput.specs.Entries.{content_named, line_at_rate}
use Rattle.tools_tput.specs.Results.{AnswersName, Reply, number_text, reply}
use Rattle.tools_tput.specs.Replies.{reply_of}
use Rattle.tools_tput.specs.declared.replies.TputOutcome.{TputOutcome}
use Rattle.everyday_tput.specs.Answers.{Answers, AnswersClear, AnswersStart, Command, FullTarget, HasNoTableText, alone, defined, name_of, of_clear, of_size}
use Rattle.everyday_tput.specs.Answers.{of_start, of_tables, scrollback_text, size_named, start_named, with_words}
use Rattle.everyday_tput.specs.Commands.{Takes}
use Rattle.everyday_tput.specs.inside.Strings.{Steps}

module _ (t : FullTarget) (statics : List ℤ) (cap : List ℕ) (r : Reply) where
  pub steps_more : (others : List (List ℕ)) (n : ℕ) → 0 < length others → Takes t.full cap n → Answers t statics (with_words cap (take n others)) r
      → Steps t statics cap others r n
  steps_more [] n some takes answers = absurd (omega arith)
  steps_more (word ∷ words) n some takes answers = (takes, answers)

  pub steps_any : (others : List (List ℕ)) → Takes t.full cap 0 → Answers t statics (alone cap) r
      → ((words : List (List ℕ)) → Answers t statics (with_words cap words) r) → Steps t statics cap others r 0
  steps_any [] takes one more = one
  steps_any (word ∷ words) takes one more = (takes, more (take 0 (word ∷ words)))

module _ {E : Type 0} (t : FullTarget) (statics : List ℤ) (command : Command) where
  pub sized_answer : (r : Result TputOutcome E) (n : ℕ) → IfOk r (λ outcome. reply_of outcome statics ≡ reply (number_text (Some n)) 0 statics)
      → size_named t (name_of command) ≡ Some n → IfOk r (λ outcome. Answers t statics command (reply_of outcome statics))
  sized_answer (Ok outcome) n is named = subst (Answers t statics command) (sym is) (of_size named)
  sized_answer (Err e) n is named = is

  pub cleared_answer : (r : Result TputOutcome E) (line : Line) (clear scrollback : Option (List ℕ)) → bytes_eq (name_of command) (codes "clear") ≡ true
      → IfOk r (λ outcome. AnswersClear line clear scrollback statics (reply_of outcome statics)) → line ≡ line_at_rate t.full.entry t.rate
      → clear ≡ shown_text (content_named t.full.entry (codes "clear")) → scrollback ≡ scrollback_text t
      → IfOk r (λ outcome. Answers t statics command (reply_of outcome statics))
  cleared_answer (Ok outcome) line clear scrollback clears is is_line is_clear is_scrollback =
      let r = reply_of outcome statics in
      let first = subst (λ (l : Line). AnswersClear l clear scrollback statics r) is_line is in
      let second = subst (λ (x : Option (List ℕ)). AnswersClear (line_at_rate t.full.entry t.rate) x scrollback statics r) is_clear first in
      of_clear clears (subst (λ (x : Option (List ℕ)). AnswersClear (line_at_rate t.full.entry t.rate)
      (shown_text (content_named t.full.entry (codes "clear"))) x statics r) is_scrollback second)
  cleared_answer (Err e) line clear scrollback clears is is_line is_clear is_scrollback = is

-- any other name
pub tables_answer : (t : FullTarget) (statics : List ℤ) (command : Command) (answer : Reply) (cap : List ℕ) → name_of command ≡ cap
    → size_named t cap ≡ None → bytes_eq cap (codes "clear") ≡ false → start_named cap ≡ None → defined t.full cap ≡ None → HasNoTableText t.full cap
    → AnswersName t.full.entry t.rate cap [] statics answer → Answers t statics command answer
tables_answer t statics command answer cap named sizes clears starts none nothing names =
    of_tables (rw named sizes) (rw named clears) (rw named starts) (rw named none) (rw named nothing) (rw named names)

-- `init` and `reset`
pub started_answer : {E : Type 0} (t : FullTarget) (statics : List ℤ) (command : Command) (r : Result TputOutcome E) (is_reset : Bool) (cap : List ℕ)
    → name_of command ≡ cap → start_named cap ≡ Some is_reset → IfOk r (λ outcome. AnswersStart t is_reset statics (reply_of outcome statics))
    → IfOk r (λ outcome. Answers t statics command (reply_of outcome statics))
started_answer t statics command (Ok outcome) is_reset cap named starts is = of_start (rw named starts) is
started_answer t statics command (Err e) is_reset cap named starts is = is
