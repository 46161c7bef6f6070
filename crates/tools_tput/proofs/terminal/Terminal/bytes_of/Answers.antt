use Rattle.std.proofs.Common.{◌≡◌, ◌<◌, ◌∙◌, List, ℕ, length, map, take, refl, rules, sym, subst, arith, Bor}
use Rattle.std.proofs.lemmas.Bool.{eqb-false, eqb-true}
use Rattle.std.proofs.lemmas.List.{length-map}
use Rattle.tools_tput.specs.Runs.{words_of}
use Rattle.tools_tput.specs.inside.Runs.{line_step, words_seen}
use Rattle.tools_tput.specs.inside.Terminal.{HasRunState}
use Rattle.tools_tput.specs.declared.terminal.Terminal.{Terminal}
use Rattle.tools_tput.proofs.Terminals.{HasRunState-bad, HasRunState-good, HasRunState-usage, of_rate}
use Rattle.tools_tput.proofs.terminal.Terminal.bytes_of.Goals as goal
use Rattle.tools_tput.proofs.terminal.Terminal.bytes_of.Goals.{then-is_bad, else-is_bad}

pub returns-in-Err-Usage : goal.returns-in-Err-Usage
returns-in-Err-Usage c = λ entry rate state holds.
    let words = map (λ (word : Bor (List ℕ)). word.now) c.as_slice.result.now in
    let few : 0 < length c.as_slice.result.now = search rules in
    let some : 0 < length words = omega (arith, length-map c.as_slice.result.now (λ (word : Bor (List ℕ)). word.now)) in
    let front : words ≡ take words_seen (words_of c.args.line.now) = rw c.as_slice.ensures.value c.split_words-words.ensures in
    HasRunState-usage entry rate state c.args.self.now _ holds c.args.line.now words front some refl refl
    c.new-in-Err-Usage.result.items (rw c.in-Err-Usage.field-0-is at (c.in-Err-Usage.ensures.answer rate (of_rate entry rate _ state holds)))
    c.in-Err-Usage.ensures.err
    (search rules) c.new-in-Err-Usage.ensures.items

pub returns-after-is_bad : goal.returns-after-is_bad
returns-after-is_bad c = λ entry rate state holds.
    let words = map (λ (word : Bor (List ℕ)). word.now) c.as_slice.result.now in
    let few : 0 < length c.as_slice.result.now = search rules in
    let some : 0 < length words = omega (arith, length-map c.as_slice.result.now (λ (word : Bor (List ℕ)). word.now)) in
    let front : words ≡ take words_seen (words_of c.args.line.now) = rw c.as_slice.ensures.value c.split_words-words.ensures in
    let replied = c.in-Ok.ensures.answer rate (of_rate entry rate _ state holds) in
    let P : Terminal → Type 0 = λ u. HasRunState entry rate u (line_step entry rate state c.args.line.now).after
    × (c.in-Ok.outcome.bytes.items ≡ (line_step entry rate state c.args.line.now).bytes) in
    elim c.if-is_bad.branch [
      | then-is_bad w ↦ subst P (sym w.self-is)
          (HasRunState-bad entry rate state c.args.self.now _ holds c.args.line.now words front some refl refl c.in-Ok.outcome replied
          (eqb-true _ _ (sym c.is_bad.ensures ∙ w.if-is_bad.true)) w.saturating_add-self.ensures)
      | else-is_bad w ↦ subst P (sym w.self-is)
          (HasRunState-good entry rate state c.args.self.now _ holds c.args.line.now words front some refl refl c.in-Ok.outcome replied
          (eqb-false _ _ (sym c.is_bad.ensures ∙ w.if-is_bad.false)) refl)
    ]
