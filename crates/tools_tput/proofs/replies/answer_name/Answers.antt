use Rattle.std.proofs.Common.{◌≡◌, true, false, rules}
use Rattle.std.specs.Prelude.{bytes_eq, codes}
use Rattle.tools_tput.proofs.Named.{named_reply-init}
use Rattle.tools_tput.proofs.replies.answer_name.Goals as goal

pub returns-then-eq-2-clause-answer : goal.returns-then-eq-2-clause-answer
returns-then-eq-2-clause-answer c = λ rate is.
    let a : bytes_eq c.args.cap.now (codes "longname") ≡ false = search rules in
    let b : bytes_eq c.args.cap.now (codes "init") ≡ true = search rules in
    rw (named_reply-init _ rate c.args.cap.now _ _ a b, ← is, ← c.init_strings.ensures) (c.answer_strings.ensures c.args.statics.now)
