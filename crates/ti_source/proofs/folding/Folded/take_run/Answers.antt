use Rattle.std.proofs.Common.{◌≡◌, ◌+◌, ◌++◌, List, ℕ, length, drop, refl, sym, ap, ◌∙◌}
use Rattle.std.proofs.lemmas.Bool.{ne_eqb}
use Rattle.std.proofs.lemmas.List.{take-append-drop}
use Rattle.ti_source.specs.inside.Items.{takes_no_byte}
use Rattle.ti_source.proofs.FoldLemmas.{run_taken}
use Rattle.ti_source.proofs.folding.Folded.take_run.Goals as goal

pub returns-then-self : goal.returns-then-self
returns-then-self c = record { line = 0; whole = refl; passes_run = takes_no_byte }

pub returns : goal.returns
returns c =
    let f = c.self.inside in
    let run = c.front_run-run.result.bytes.now in
    let text = f.rest.now in
    let parts : text ≡ run ++ drop (length run) text =
    sym (ap (λ (front : List ℕ). front ++ drop (length run) text) c.front_run-run.ensures.front ∙ take-append-drop (length run) text) in
    let whole : text ≡ run ++ c.split_at.result.1.now = rw c.split_at.ensures.back parts in
    let goes = c.front_run-run.ensures.passes_run in
    record {
      line = f.newlines + 1;
      whole = sym c.self.view_is
          ∙ run_taken f.joining f.before (f.newlines + 1) text c.split_at.result.1.now c.if-self.false (ne_eqb f.before 10 c.if-self-eq10.false) whole goes;
      passes_run = goes;
    }
