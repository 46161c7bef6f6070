use Rattle.std.proofs.Common.{◌≡◌, ◌∙◌, ℕ, List, [], ◌∷◌, Result, Ok, Err, IfErr, OnOk, length, map, refl, subst, sym, arith}
use Rattle.std.proofs.lemmas.Grind.{common_steps}
use Rattle.std.proofs.lemmas.Result.{err_from_is_err_and}
use Rattle.serde_json.specs.View.{view}
use Rattle.serde_json.specs.declared.value.Value.{Value}
use Rattle.tools_devices.proofs.Written.{TakesAll-none}
use Rattle.tools_devices.specs.Counted.{Observed, observation}
use Rattle.tools_devices.specs.Writing.{TakesAll, TakesFront}
use Rattle.lsp_frames.specs.Transfers.{WritingEnds}
use Rattle.lsp_frames.specs.declared.frames.FrameError.{FrameError}
use Rattle.lsp_frames.specs.declared.frames.FrameError.TheVariants.{Broken}
use Rattle.lsp_server.specs.Serving.{frames_text}
use Rattle.lsp_server.proofs.serving.write_answers.Goals as goal

nothing : (values : List Value) → length values ≡ 0 → frames_text (map view values) ≡ []
nothing [] h = refl
nothing (value ∷ values) h = absurd (omega arith)

ends : (before now : Observed) (bytes wanted : List ℕ) (result : Result Unit FrameError) → wanted ≡ bytes
    → OnOk result (TakesAll before now wanted) → IfErr result (λ fault. (fault ≡ Broken) × TakesFront before now wanted)
    → WritingEnds before now bytes result
ends before now bytes wanted (Ok x) is written cut = subst (λ (t : List ℕ). TakesAll before now t) is written
ends before now bytes wanted (Err fault) is written cut =
    subst (λ (f : FrameError). WritingEnds before now bytes (Err f)) (sym cut.0) (subst (λ (t : List ℕ). TakesFront before now t) is cut.1)

pub returns-then-is_empty : goal.returns-then-is_empty
returns-then-is_empty g c =
    λ plain.
    rw (nothing c.args.answers.now (grind (arith, common_steps))) (TakesAll-none (observation g.W.Write.contents c.args.writer.now))

pub returns-in_err-bytes : goal.returns-in_err-bytes
returns-in_err-bytes g c =
    let e = err_from_is_err_and c.from_residual.result c.from_residual.ensures.1 in
    rw (e.1, e.2) (λ plain. refl)

pub returns : goal.returns
returns g c =
    λ plain.
    ends _ _ (frames_text (map view c.args.answers.now)) c.deref.result.now c.write_flushed.result (c.deref.ensures.value ∙ c.in_ok-bytes.ensures plain)
    c.write_flushed.ensures.written c.write_flushed.ensures.cut
