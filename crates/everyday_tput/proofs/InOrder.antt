-- The laws of this crate.
use Rattle.std.proofs.Common.{◌≡◌, ℕ, ◌||◌, ◌&&◌, Bool, true, false, not, List, ◌∷◌, ◌++◌, Option, Some, None, refl, sym, subst, ap, ap₂, ◌∙◌, inl, inr, append_assoc, add_assoc, zero-add}
use Rattle.std.specs.Prelude.{bytes_eq, codes, is_some, ℤ}
use Rattle.ti_caps.specs.Tables.{capability_named}
use Rattle.ti_layout.specs.Values.{Content}
use Rattle.ti_layout.specs.View.{Entry, shown_text}
use Rattle.tools_tput.specs.Entries.{content_named, line_at_rate}
use Rattle.tools_tput.specs.Results.{Reply}
use Rattle.user_extension.specs.Reading.{ReadRow}
use Rattle.everyday_tput.specs.Answers.{Answers, AnswersClear, AnswersStart, Command, FullEntry, FullTarget, HasNoText, HasText, defined, is_own_name, name_of, scrollback_text}
use Rattle.everyday_tput.specs.Answers.{of_clear, of_defined_flag, of_defined_number, of_flag, of_number, of_other, of_size, of_start, of_string, of_tables}
use Rattle.everyday_tput.specs.Answers.{first_refused, last_refused, started, without_file}
use Rattle.everyday_tput.specs.Commands.{Takes, is_unknown_to_tables, of_no_text, of_stuck, of_text}
use Rattle.everyday_tput.specs.Laws.{TablesNeedNoExtension, with_full}
use Rattle.everyday_tput.specs.Running.{OneAfterAnother, Run, Runs, Stop, followed, no_command, nothing, one, stops, then_others}
use Rattle.everyday_tput.specs.declared.running.Until.{Until}

-- ---- commands one after another

module _ (t : FullTarget) (until : Until) where
  first_of_none : (statics : List ℤ) (b : Run) → b ≡ followed (nothing statics) b
  first_of_none statics b = ap (λ (n : ℕ). record { bytes = b.bytes; statics = b.statics; passed = n; stop = b.stop }) (sym (zero-add b.passed))

  followed_twice : (a b c : Run) → followed a (followed b c) ≡ followed (followed a b) c
  followed_twice a b c =
      ap₂ (λ (bytes : List ℕ) (n : ℕ). record { bytes = bytes; statics = c.statics; passed = n; stop = c.stop })
      (sym (append_assoc a.bytes b.bytes c.bytes)) (sym (add_assoc a.passed b.passed c.passed))

  goes : (statics : List ℤ) (first later : List Command) (a b : Run) → Runs t until statics first a → a.stop ≡ None → Runs t until a.statics later b
      → Runs t until statics (first ++ later) (followed a b)
  goes statics _ later _ b no_command none r = subst (Runs t until statics later) (first_of_none statics b) r
  goes statics _ later _ b (stops answers off) none r = absurd (cc none)
  goes statics _ later _ b (then_others {command = command} {commands = commands} {answer = answer} {later = others} answers on runs) none r =
      subst (Runs t until statics (command ∷ (commands ++ later))) (followed_twice (one answer) others b)
      (then_others answers on (goes answer.statics commands later others b runs none r))

  ends : (statics : List ℤ) (first later : List Command) (a : Run) (stop : Stop) → Runs t until statics first a → a.stop ≡ Some stop
      → Runs t until statics (first ++ later) a
  ends statics _ later _ stop no_command some = absurd (cc some)
  ends statics _ later _ stop (stops answers off) some = stops answers off
  ends statics _ later _ stop (then_others {commands = commands} {answer = answer} {later = others} answers on runs) some =
      then_others answers on (ends answer.statics commands later others stop runs some)

  pub one_after_another : OneAfterAnother t until
  one_after_another = record { goes_on = goes; stops = ends }

-- ---- names of the tables

known : (b : Bool) → not b ≡ false → b ≡ true
known true is = refl
known false is = absurd (cc is)

none_defined : (e : FullEntry) (cap : List ℕ) → is_unknown_to_tables cap ≡ false → defined e cap ≡ None
none_defined e cap is = rw (known (is_own_name cap || is_some (capability_named cap)) is) refl

none_some : {Y : Type 0} (o : Option Content) (content : Content) → o ≡ None → o ≡ Some content → Y
none_some o content none is = absurd (cc (sym none ∙ is))

-- the same entry with others
abbrev others : FullEntry → List ReadRow → FullEntry
others e rows = record { entry = e.entry; rows = rows }

module _ (e : FullEntry) (rows : List ReadRow) (cap : List ℕ) (is : is_unknown_to_tables cap ≡ false) where
  no_text : HasNoText e cap → HasNoText (others e rows) cap
  no_text (of_flag own) = none_some _ _ (none_defined e cap is) own
  no_text (of_number own) = none_some _ _ (none_defined e cap is) own
  no_text (of_other none nothing) = of_other (none_defined (others e rows) cap is) nothing

  text_of : (text : List ℕ) → HasText e cap text → HasText (others e rows) cap text
  text_of text (inl has) = inl has
  text_of text (inr own) = none_some _ _ (none_defined e cap is) own

  takes_same : (n : ℕ) → Takes e cap n → Takes (others e rows) cap n
  takes_same _ (of_text {text = text} has taken) = of_text (text_of text has) taken
  takes_same _ (of_stuck {text = text} has stuck) = of_stuck (text_of text has) stuck
  takes_same _ (of_no_text none) = of_no_text (no_text none)

kept : (a k : Bool) → a ≡ true → (a && not k) ≡ false → k ≡ true
kept true true is one = refl
kept true false is one = absurd (cc one)
kept false k is one = absurd (cc is)

module _ (t : FullTarget) (rows : List ReadRow) (statics : List ℤ) (command : Command) (is : is_unknown_to_tables (name_of command) ≡ false)
    (keeps : (bytes_eq (name_of command) (codes "clear") && not t.keeps_scrollback) ≡ false) where
  abbrev u : FullTarget
  u = with_full t (others t.full rows)

  none_kept : (x : FullTarget) → x.keeps_scrollback ≡ true → scrollback_text x ≡ None
  none_kept x keep = rw keep refl

  same_scrollback : t.keeps_scrollback ≡ true → scrollback_text t ≡ scrollback_text u
  same_scrollback keep = none_kept t keep ∙ sym (none_kept u keep)

  same_start : (is_reset : Bool) (answer : Reply) → AnswersStart t is_reset statics answer → AnswersStart u is_reset statics answer
  same_start is_reset _ (started before file after) = started before file after
  same_start is_reset _ (without_file before file) = without_file before file
  same_start is_reset _ (first_refused is) = first_refused is
  same_start is_reset _ (last_refused file is) = last_refused file is

  same_answer : (answer : Reply) → Answers t statics command answer → Answers u statics command answer
  same_answer _ (of_size named) = of_size named
  same_answer _ (of_clear {answer = answer} clears answers) =
      of_clear clears (subst (λ scrollback. AnswersClear (line_at_rate t.full.entry t.rate) (shown_text (content_named t.full.entry (codes "clear"))) scrollback statics answer)
      (same_scrollback (kept _ _ clears keeps)) answers)
  same_answer _ (of_string {text = text} has answers) = of_string (text_of t.full rows (name_of command) is text has) answers
  same_answer _ (of_defined_flag own) = none_some _ _ (none_defined t.full (name_of command) is) own
  same_answer _ (of_defined_number own) = none_some _ _ (none_defined t.full (name_of command) is) own
  same_answer _ (of_start starts answers) = of_start starts (same_start _ _ answers)
  same_answer _ (of_tables sizes clears starts none nothing answers) = of_tables sizes clears starts (none_defined u.full (name_of command) is) nothing answers

pub tables_need_no_extension : TablesNeedNoExtension
tables_need_no_extension = record {
  takes = λ e other cap n same is takes.
      subst (λ (entry : Entry). Takes (record { entry = entry; rows = other.rows }) cap n) same (takes_same e other.rows cap is n takes);
  answers = λ t other statics command answer same is keeps answers.
      subst (λ (entry : Entry). Answers (with_full t (record { entry = entry; rows = other.rows })) statics command answer) same
      (same_answer t other.rows statics command is keeps answer answers);
}
