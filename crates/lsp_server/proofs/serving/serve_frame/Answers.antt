use Rattle.std.proofs.Common.{◌≡◌, Bor, None, Option, Some, ap, map, option_map, refl, ◌∙◌}
use Rattle.std.proofs.lemmas.Result.{err_from_is_err_and}
use Rattle.serde_json.specs.View.{view}
use Rattle.serde_json.specs.declared.value.Value.{Value}
use Rattle.std.specs.Option.{option_copied}
use Rattle.lsp_server.proofs.Floats.{plain_replied}
use Rattle.lsp_server.proofs.Serves.{memory_after, turn_answered, turn_cut, turn_unread}
use Rattle.lsp_server.specs.Answers.{answer_data}
use Rattle.lsp_server.specs.Serving.{Turn}
use Rattle.lsp_server.specs.States.{state_of}
use Rattle.lsp_server.specs.Steps.{replied}
use Rattle.lsp_server.proofs.serving.serve_frame.Goals as goal

-- a value behind a reference
seen : (value : Option (Bor Value)) → option_map (λ d. view d.now) value ≡ option_map view (option_copied value)
seen None = refl
seen (Some value) = refl

pub returns-in_err-frame-clause-stops : goal.returns-in_err-frame-clause-stops
returns-in_err-frame-clause-stops g c =
    let e = err_from_is_err_and c.from_residual.result c.from_residual.ensures.1 in
    rw (e.1, e.2) (turn_unread _ _ _ _ _ _ _ c.in_err-frame.ensures.stops)

pub returns-in_err-value-clause-stops : goal.returns-in_err-value-clause-stops
returns-in_err-value-clause-stops g c =
    let e = err_from_is_err_and c.from_residual-in_err-value.result c.from_residual-in_err-value.ensures.1 in
    rw (e.1, e.2) (memory_after _ _ c.in_ok-frame.frame c.in_ok-frame.ensures.read, refl)

pub returns-in_err-answers-clause-stops : goal.returns-in_err-answers-clause-stops
returns-in_err-answers-clause-stops g c =
    let e = err_from_is_err_and c.from_residual-in_err-answers.result c.from_residual-in_err-answers.ensures.1 in
    rw (e.1, e.2) (memory_after _ _ c.in_ok-frame.frame c.in_ok-frame.ensures.read, refl)

pub returns-in_err-waits-clause-stops : goal.returns-in_err-waits-clause-stops
returns-in_err-waits-clause-stops g c =
    let e = err_from_is_err_and c.from_residual-in_err-waits.result c.from_residual-in_err-waits.ensures.1 in
    rw (e.1, e.2) (memory_after _ _ c.in_ok-frame.frame c.in_ok-frame.ensures.read, refl)

pub returns : goal.returns
returns g c =
    let places = g.D.HeldText.place_in in
    let says = g.D.HeldText.says c.args.surroundings.now in
    let start = state_of g.D.HeldText.text_of c.args.server.now in
    let value = option_map view c.in_ok-value.value in
    let came : option_map (λ d. view d.now) c.as_ref.result ≡ option_map view c.in_ok-value.value =
    seen c.as_ref.result ∙ ap (option_map view) c.as_ref.ensures.value in
    let answered = rw came at c.in_ok-answers.ensures in
    let waits = rw c.ahead.ensures at c.in_ok-waits.ensures in
    let turn : Turn = record { value = value; waits = c.in_ok-waits.waits } in
    let sent : map view c.deref.result.now ≡ map (answer_data says) (replied places start value c.in_ok-waits.waits).1 =
    ap (map view) c.deref.ensures.value ∙ answered.1 in
    let ends = rw sent at c.write_answers.ensures in
    let written = ends (plain_replied says places start value c.in_ok-waits.waits (g.met.D.HeldText.no_floats c.args.surroundings.now)) in
    record {
      turn = turn_answered places says _ _ _ start _ _ c.in_ok-frame.frame turn
          c.in_ok-frame.ensures.read c.in_ok-value.ensures waits answered.0 c.write_answers.result written;
      stops = turn_cut places says _ _ _ start _ (state_of g.D.HeldText.text_of c.reply.new.self) c.in_ok-frame.frame turn
          c.in_ok-frame.ensures.read c.in_ok-value.ensures waits answered.0 c.write_answers.result written;
    }
