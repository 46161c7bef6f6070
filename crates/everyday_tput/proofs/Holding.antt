-- What a terminal holds after a line.
use Rattle.std.proofs.Common.{◌≡◌, ℕ, ◌+◌, true, false, List, Option, Some, None, refl, sym, subst, ap, ◌∙◌, arith}
use Rattle.std.specs.Prelude.{ℤ, is_some, min, option_map}
use Rattle.std.specs.Global.{Vec}
use Rattle.everyday_tput.specs.Answers.{FullTarget, target_of}
use Rattle.everyday_tput.specs.Calls.{stop_of}
use Rattle.everyday_tput.specs.Running.{Run, RunsWords}
use Rattle.everyday_tput.specs.Runs.{RunState, TakesLine, before_the_end, state_after, stop_name, words_of}
use Rattle.everyday_tput.specs.inside.Running.{Ran}
use Rattle.everyday_tput.specs.inside.Strings.{IsLineOf}
use Rattle.everyday_tput.specs.inside.Terminal.{HasRunState, LeadsTo}
use Rattle.everyday_tput.specs.declared.running.Outcome.{Outcome}
use Rattle.everyday_tput.specs.declared.running.Stop.{Stop}
use Rattle.everyday_tput.specs.declared.running.Until.TheVariants.{BadCommand}
use Rattle.everyday_tput.specs.declared.terminal.Terminal.{Terminal}

-- the name at which it has stopped
pub some_name : (o : Option (Vec ℕ)) (e : Option (List ℕ)) → is_some o ≡ true → option_map (λ name. name.items) o ≡ e → (name : List ℕ) × (e ≡ Some name)
some_name (Some v) e there is = (v.items, sym is)
some_name None e there is = absurd (cc there)

pub no_name : (o : Option (Vec ℕ)) (e : Option (List ℕ)) → is_some o ≡ false → option_map (λ name. name.items) o ≡ e → e ≡ None
no_name None e there is = sym is
no_name (Some v) e there is = absurd (cc there)

pub none_kept : (o : Option (Vec ℕ)) → is_some o ≡ false → option_map (λ name. name.items) o ≡ None
none_kept None there = refl
none_kept (Some v) there = absurd (cc there)

-- the name that was kept of where commands stopped
pub kept_name : (run : Run) (outcome : Outcome) (stop : Stop) (v : Vec ℕ) → run.stop ≡ option_map stop_of outcome.stop → outcome.stop ≡ Some stop
    → v.items ≡ stop.name.now → option_map (λ (name : Vec ℕ). name.items) (Some v) ≡ stop_name run.stop
kept_name run outcome stop v is some same = ap Some same ∙ sym (ap stop_name (is ∙ ap (option_map stop_of) some))

pub kept_none : (run : Run) (outcome : Outcome) (o : Option (Vec ℕ)) → run.stop ≡ option_map stop_of outcome.stop → outcome.stop ≡ None
    → option_map (λ name. name.items) o ≡ None → option_map (λ name. name.items) o ≡ stop_name run.stop
kept_none run outcome o is none same = same ∙ sym (ap stop_name (is ∙ ap (option_map stop_of) none))

counted : (t p s r now : ℕ) → t ≡ min 255 s → p ≡ min 255 r → now ≡ min (t + p) 255 → now ≡ min 255 (s + r)
counted t p s r now a b c = omega arith

module _ (t : FullTarget) (state : RunState) (old : Terminal) (holds : HasRunState t old state) (none : state.ended ≡ None) (line : List ℕ)
    (words : List (List ℕ)) (are : words ≡ words_of line) (statics : List ℤ) (outcome : Outcome)
    (ran : Ran (target_of old.target) BadCommand old.statics words statics outcome) where
  takes : TakesLine t state line (state_after state ran.run) outcome.bytes.items
  takes =
      subst (TakesLine t state line (state_after state ran.run)) ran.bytes
      (before_the_end none
      (subst (λ ws. RunsWords t BadCommand state.statics ws ran.run) are
      (subst (λ s. RunsWords t BadCommand s words ran.run) holds.statics
      (subst (λ x. RunsWords x BadCommand old.statics words ran.run) holds.of_target ran.runs))))

  -- the terminal that is left
  pub leads : (u : Terminal) → u.target ≡ old.target → u.line ≡ old.line → u.statics ≡ statics → u.absent ≡ min (old.absent + outcome.passed) 255
      → option_map (λ name. name.items) u.ended ≡ stop_name ran.run.stop → LeadsTo t state line u outcome.bytes.items
  leads u same_target same_line same_statics more name = (
    state_after state ran.run,
    takes,
    record {
      of_target = ap target_of same_target ∙ holds.of_target;
      of_line = subst (λ x. IsLineOf x u.line) (sym same_target) (same_line ∙ holds.of_line);
      statics = same_statics ∙ sym ran.statics;
      absent = counted old.absent outcome.passed state.absent ran.run.passed u.absent holds.absent ran.passed more;
      ended = name;
    },
  )
