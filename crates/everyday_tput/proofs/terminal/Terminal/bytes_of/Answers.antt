use Rattle.std.proofs.Common.{◌≡◌, ◌∙◌, ◌+◌, List, ℕ, map, Bor, Option, ap, refl, sym}
use Rattle.std.specs.Prelude.{min, option_map}
use Rattle.everyday_tput.specs.declared.terminal.Terminal.{Terminal}
use Rattle.everyday_tput.specs.Runs.{after_the_end, words_of}
use Rattle.everyday_tput.proofs.Holding.{kept_name, kept_none, leads, no_name, none_kept, some_name}
use Rattle.everyday_tput.proofs.terminal.Terminal.bytes_of.Goals as goal
use Rattle.everyday_tput.proofs.terminal.Terminal.bytes_of.Goals.{in-Some+in_ok-from_slice+in-Some-1, in-Some+in_ok-from_slice+in-None-1, in_default}

pub returns-then-is_some : goal.returns-then-is_some
returns-then-is_some c = λ t state holds.
    let name = some_name c.args.self.now.ended state.ended (sym c.if-is_some.ensures) holds.ended in
    (state, rw c.new.ensures.items (after_the_end name.1), holds)

pub returns : goal.returns
returns c = λ t state holds.
    let old = c.args.self.now in
    let words = map (λ (word : Bor (List ℕ)). word.now) c.as_slice.result.now in
    let are : words ≡ words_of c.args.line.now = rw c.as_slice.ensures.value c.in_ok-words.ensures in
    let ran = c.in_ok-outcome.ensures holds.of_line in
    let none = no_name old.ended state.ended (sym c.if-is_some.ensures) holds.ended in
    let u = c.match-outcome.self in
    let outcome = c.in_ok-outcome.outcome in
    let left : Terminal = record { alloc = u.alloc; target = u.target; line = u.line; statics = c.run.new.statics; absent = c.saturating_add-self.result; ended = u.ended } in
    let by = leads t state old holds none c.args.line.now words are c.run.new.statics outcome ran left in
    let names : Terminal → Option (List ℕ) = λ x. option_map (λ name. name.items) x.ended in
    let counts : Terminal → ℕ = λ x. min (x.absent + outcome.passed) 255 in
    elim c.match-outcome.branch [
      | in-Some+in_ok-from_slice+in-Some-1 w ↦ by (ap (λ (x : Terminal). x.target) w.self-is) (ap (λ (x : Terminal). x.line) w.self-is) refl
          (c.saturating_add-self.ensures ∙ ap counts w.self-is)
          (ap names w.self-is ∙ kept_name ran.run outcome w.in-Some.stop w.in_ok-from_slice.field-0 ran.stop w.in-Some.is w.in_ok-from_slice.ensures.items)
      | in-Some+in_ok-from_slice+in-None-1 w ↦ by (ap (λ (x : Terminal). x.target) w.self-is) (ap (λ (x : Terminal). x.line) w.self-is) refl
          (c.saturating_add-self.ensures ∙ ap counts w.self-is)
          (ap names w.self-is ∙ kept_name ran.run outcome w.in-Some.stop w.in_ok-from_slice.field-0 ran.stop w.in-Some.is w.in_ok-from_slice.ensures.items)
      | in_default w ↦ by (ap (λ (x : Terminal). x.target) w.self-is) (ap (λ (x : Terminal). x.line) w.self-is) refl
          (c.saturating_add-self.ensures ∙ ap counts w.self-is)
          (ap names w.self-is ∙ kept_none ran.run outcome old.ended ran.stop w.in_default.is (none_kept old.ended (sym c.if-is_some.ensures)))
    ]
