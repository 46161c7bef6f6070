use Rattle.std.proofs.Common.{◌≡◌, ◌≢◌, ◌⊎◌, map, string_bytes, subst, true, refl, inl, inr, Result, Ok, Err, IfOk}
use Rattle.std.proofs.lemmas.Result.{IfOk-weaker}
use Rattle.clap.specs.Kinds.{HasKind, IsAmong, Kinds}
use Rattle.clap.specs.Words.{App, fault_of, is_simple_and_free, kind_of, takes}
use Rattle.clap.specs.declared.error.ErrorKind.{ErrorKind}
use Rattle.clap.specs.declared.error.ErrorKind.TheVariants.{OutOfMemory}
use Rattle.ti_lsp.specs.Command.{IsAskedBy, IsSaidOf}
use Rattle.ti_lsp.specs.declared.command.Task.{Task}
use Rattle.ti_lsp.specs.declared.command.Task.TheVariants.{Serve, Text, Refusal}
use Rattle.ti_lsp.proofs.command.asked.Goals as goal

-- what is said of an error of one of these kinds is what the words ask for
asked_by : {E : Type 0} (kinds : Kinds) (kind : ErrorKind) (r : Result Task E) → (kind ≡ OutOfMemory) ⊎ IsAmong kind kinds
    → IfOk r (λ _. kind ≢ OutOfMemory) → IfOk r (IsSaidOf kind) → IfOk r (IsAskedBy kinds)
asked_by kinds kind (Err e) among memory said = tt
asked_by kinds kind (Ok task) (inl out) memory said = absurd (memory out)
asked_by kinds kind (Ok Serve) (inr among) memory said = absurd said
asked_by kinds kind (Ok (Text text)) (inr among) memory said = (kind, among, said)
asked_by kinds kind (Ok (Refusal text)) (inr among) memory said = (kind, among, said)

pub returns-clause-asked : goal.returns-clause-asked
returns-clause-asked c =
    let P : App → Type 0 = λ app. is_simple_and_free app ≡ true → HasKind (fault_of app (map string_bytes c.args.words.now)) c.in-Err.error in
    asked_by _ (kind_of c.in-Err.error) c.said.result (subst P c.in_ok-command.ensures c.in-Err.ensures.kinds refl) c.said.ensures.memory c.said.ensures.said

pub returns-clause-served : goal.returns-clause-served
returns-clause-served c =
    let P : App → Type 0 = λ app. takes app (map string_bytes c.args.words.now) ≡ true → kind_of c.in-Err.error ≡ OutOfMemory in
    IfOk-weaker c.said.result _ _ (λ task kept took. absurd (kept (subst P c.in_ok-command.ensures c.in-Err.ensures.passes took))) c.said.ensures.memory
