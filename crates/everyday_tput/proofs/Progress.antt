-- Commands run one after another, as far as they have come.
use Rattle.std.proofs.Common.{◌≡◌, ℕ, zero, suc, ◌+◌, true, false, List, [], ◌∷◌, ◌++◌, take, drop, refl, sym, subst, ap, ap₂, append_assoc, add_assoc, zero-add, arith}
use Rattle.std.specs.Prelude.{ℤ, min}
use Rattle.tools_tput.specs.Results.{Reply}
use Rattle.everyday_tput.specs.Answers.{Command, FullEntry, FullTarget, alone, with_words}
use Rattle.everyday_tput.specs.Commands.{AreCommands, last_name, name_with_words, no_command}
use Rattle.everyday_tput.specs.Running.{Run, Runs, RunsWords, followed, goes_on, nothing, one, passed_by, stopped, stops, then_others}
use Rattle.everyday_tput.specs.Running as running
use Rattle.everyday_tput.specs.inside.Running.{Progress, after_those}
use Rattle.everyday_tput.specs.inside.Strings.{Steps}
use Rattle.everyday_tput.specs.declared.running.Until.{Until}

-- no words at all, of their type
abbrev none_of : List (List ℕ)
none_of = []

-- no words
pub runs_nothing : (t : FullTarget) (until : Until) (statics : List ℤ) → RunsWords t until statics [] (nothing statics)
runs_nothing t until statics = record { commands = []; rest = []; are = no_command; runs = running.no_command; whole = λ _. refl }

-- before the first command
pub begins : (t : FullTarget) (until : Until) (statics : List ℤ) (words : List (List ℕ)) → Progress t until statics words [] 0 statics words
begins t until statics words = record {
  count = 0;
  counted = refl;
  leads = λ later runs. subst (RunsWords t until statics words) (same later) runs;
}
  where
    same : (later : Run) → later ≡ after_those [] 0 later
    same later = ap (λ n. record { bytes = later.bytes; statics = later.statics; passed = n; stop = later.stop }) (sym (zero-add later.passed))

no_commands : (e : FullEntry) (words rest : List (List ℕ)) (commands : List Command) → words ≡ [] → AreCommands e words commands rest → commands ≡ []
no_commands e words _ _ none no_command = refl
no_commands e _ _ _ none last_name = absurd (cc none)
no_commands e _ rest _ none (name_with_words takes are) = absurd (cc none)

drop_nil : (n : ℕ) → drop n (none_of) ≡ none_of
drop_nil zero = refl
drop_nil (suc n) = refl

module _ (t : FullTarget) (until : Until) (statics : List ℤ) (cap : List ℕ) (answer : Reply) (n : ℕ) where
  -- a command that others follow
  pub goes : (others : List (List ℕ)) (later : Run) → Steps t statics cap others answer n → goes_on until answer.status ≡ true
      → RunsWords t until answer.statics (drop n others) later → RunsWords t until statics (cap ∷ others) (followed (one answer) later)
  goes [] later step on r = record {
    commands = alone cap ∷ [];
    rest = [];
    are = last_name;
    runs = then_others step on
        (subst (λ commands. Runs t until answer.statics commands later) (no_commands t.full (drop n none_of) r.rest r.commands (drop_nil n) r.are) r.runs);
    whole = λ _. refl;
  }
  goes (word ∷ words) later step on r = record {
    commands = with_words cap (take n (word ∷ words)) ∷ r.commands;
    rest = r.rest;
    are = name_with_words step.0 r.are;
    runs = then_others step.1 on r.runs;
    whole = r.whole;
  }

  -- one at which they stop
  pub ends : (others : List (List ℕ)) → Steps t statics cap others answer n → goes_on until answer.status ≡ false
      → RunsWords t until statics (cap ∷ others) (stopped answer cap)
  ends [] step off = record {
    commands = alone cap ∷ [];
    rest = [];
    are = last_name;
    runs = stops step off;
    whole = λ _. refl;
  }
  ends (word ∷ words) step off = record {
    commands = with_words cap (take n (word ∷ words)) ∷ [];
    rest = drop n (word ∷ words);
    are = name_with_words step.0 no_command;
    runs = stops step.1 off;
    whole = λ none. absurd (cc none);
  }

module _ (t : FullTarget) (until : Until) (before : List ℤ) (words : List (List ℕ)) (bytes : List ℕ) (passed : ℕ) (statics : List ℤ) (cap : List ℕ)
    (others : List (List ℕ)) (p : Progress t until before words bytes passed statics (cap ∷ others)) (answer : Reply) (n : ℕ)
    (step : Steps t statics cap others answer n) where
  joined : (later : Run) → after_those bytes p.count (followed (one answer) later) ≡ after_those (bytes ++ answer.bytes) (p.count + passed_by answer.status) later
  joined later =
      ap₂ (λ (b : List ℕ) (c : ℕ). record { bytes = b; statics = later.statics; passed = c; stop = later.stop })
      (sym (append_assoc bytes answer.bytes later.bytes)) (sym (add_assoc p.count (passed_by answer.status) later.passed))

  pub advances : (more : ℕ) → goes_on until answer.status ≡ true → more ≡ min 255 (p.count + passed_by answer.status)
      → Progress t until before words (bytes ++ answer.bytes) more answer.statics (drop n others)
  advances more on counted = record {
    count = p.count + passed_by answer.status;
    counted = counted;
    leads = λ later r. subst (RunsWords t until before words) (joined later)
        (p.leads (followed (one answer) later) (goes t until statics cap answer n others later step on r));
  }

  pub stops_there : goes_on until answer.status ≡ false → RunsWords t until before words (after_those bytes p.count (stopped answer cap))
  stops_there off = p.leads (stopped answer cap) (ends t until statics cap answer n others step off)

-- how many were passed over, up to 255
pub counted_more : (passed n result now k : ℕ) → passed ≡ min 255 n → result ≡ min (passed + 1) 255 → now ≡ result → k ≡ 1 → now ≡ min 255 (n + k)
counted_more passed n result now k a b c d = omega arith

pub counted_same : (passed n now k : ℕ) → passed ≡ min 255 n → now ≡ passed → k ≡ 0 → now ≡ min 255 (n + k)
counted_same passed n now k a b c = omega arith

pub counted_none : (passed n : ℕ) → passed ≡ min 255 n → passed ≡ min 255 (n + 0)
counted_none passed n a = omega arith
