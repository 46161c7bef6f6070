-- What a terminal holds after a line.
use Rattle.std.proofs.Common.{◌≡◌, ◌≢◌, ℕ, suc, ◌+◌, ◌<◌, List, [], length, take, Option, Some, None, refl, sym, subst, ap, ◌∙◌, arith}
use Rattle.std.specs.Prelude.{min, ℤ}
use Rattle.ti_layout.specs.View.{Entry, entry_seen}
use Rattle.tools_tput.specs.Entries.{line_at_rate}
use Rattle.tools_tput.specs.Replies.{reply_of}
use Rattle.tools_tput.specs.Results.{Reply, bad_status}
use Rattle.tools_tput.specs.inside.Results.{tput_result}
use Rattle.tools_tput.specs.Runs.{RunState, LineStep, words_of}
use Rattle.tools_tput.specs.inside.Runs.{line_step, words_seen}
use Rattle.tools_tput.specs.inside.Terminal.{HasRunState}
use Rattle.tools_tput.specs.declared.replies.TputOutcome.{TputOutcome}
use Rattle.tools_tput.specs.declared.terminal.Terminal.{Terminal}
use Rattle.tools_tput.proofs.Replying.{step-bad, step-good, step-usage}

pub of_rate : (entry : Entry) (rate : ℕ) (t : Terminal) (state : RunState) → HasRunState entry rate t state → t.line ≡ line_at_rate (entry_seen t.view) rate
of_rate entry rate t state holds = holds.of_rate ∙ ap (λ (e : Entry). line_at_rate e rate) (sym holds.of_entry)

module _ (entry : Entry) (rate : ℕ) (state : RunState) (t u : Terminal) (holds : HasRunState entry rate t state) (line : List ℕ) (words : List (List ℕ))
    (front : words ≡ take words_seen (words_of line)) (some : 0 < length words) (same_view : u.view ≡ t.view) (same_line : u.line ≡ t.line) where
  -- what the terminal's answer says of how the line went
  of_course : (r : Option Reply) → tput_result (entry_seen t.view) words rate t.statics ≡ r → tput_result entry words rate state.statics ≡ r
  of_course r is =
      subst (λ (e : Entry). tput_result e words rate state.statics ≡ r) holds.of_entry
      (subst (λ (s : List ℤ). tput_result (entry_seen t.view) words rate s ≡ r) holds.statics is)

  counted : u.statics ≡ t.statics → u.bad ≡ min (t.bad + 1) 255 → HasRunState entry rate u (record { bad = suc state.bad; statics = state.statics })
  counted same more =
      let old : t.bad ≡ min 255 state.bad = holds.bad in
      let new : u.bad ≡ min (t.bad + 1) 255 = more in record {
        of_entry = ap entry_seen same_view ∙ holds.of_entry;
        of_rate = same_line ∙ holds.of_rate;
        statics = same ∙ holds.statics;
        bad = omega arith;
      }

  -- a line of bad usage
  pub HasRunState-usage : (bytes : List ℕ) → tput_result (entry_seen t.view) words rate t.statics ≡ None → u.statics ≡ t.statics
      → u.bad ≡ min (t.bad + 1) 255 → bytes ≡ []
      → HasRunState entry rate u (line_step entry rate state line).after × (bytes ≡ (line_step entry rate state line).bytes)
  HasRunState-usage bytes none same more empty =
      let is = step-usage entry rate state line words front some (of_course None none) in
      (subst (λ (s : LineStep). HasRunState entry rate u s.after) (sym is) (counted same more), empty ∙ sym (ap (λ (s : LineStep). s.bytes) is))

  module _ (outcome : TputOutcome) (replied : tput_result (entry_seen t.view) words rate t.statics ≡ Some (reply_of outcome u.statics)) where
    -- a line whose capability is unknown, or its string bad
    pub HasRunState-bad : outcome.status ≡ bad_status → u.bad ≡ min (t.bad + 1) 255
        → HasRunState entry rate u (line_step entry rate state line).after × (outcome.bytes.items ≡ (line_step entry rate state line).bytes)
    HasRunState-bad four more =
        let is = step-bad entry rate state line words front some (reply_of outcome u.statics) (of_course _ replied) four in (
          subst (λ (s : LineStep). HasRunState entry rate u s.after) (sym is.0) (counted (is.2 ∙ sym holds.statics) more),
          is.1 ∙ sym (ap (λ (s : LineStep). s.bytes) is.0),
        )

    -- any other line
    pub HasRunState-good : outcome.status ≢ bad_status → u.bad ≡ t.bad
        → HasRunState entry rate u (line_step entry rate state line).after × (outcome.bytes.items ≡ (line_step entry rate state line).bytes)
    HasRunState-good other same =
        let is = step-good entry rate state line words front some (reply_of outcome u.statics) (of_course _ replied) other in (
          subst (λ (s : LineStep). HasRunState entry rate u s.after) (sym is) (record {
            of_entry = ap entry_seen same_view ∙ holds.of_entry;
            of_rate = same_line ∙ holds.of_rate;
            statics = refl;
            bad = same ∙ holds.bad;
          }),
          sym (ap (λ (s : LineStep). s.bytes) is),
        )
